-- Runs of places that are told to be calm.
use Rattle.std.proofs.Common.{◌≡◌, ℕ, ◌+◌, ◌-◌, ◌*◌, ◌^◌, ◌<◌, ◌≤◌, min, List, length, slice_index, arith}
use Rattle.grid_demand.specs.Listings.{IsCalmRun}

-- the places of a run
pub calm-run : (demands capacities : List ℕ) (run start from to : ℕ) → length demands < 2 ^ 64 → start ≡ min (2 ^ 64 - 1) (run * 64) → from ≡ min (length demands) start →
    to ≡ min (length demands) (min (2 ^ 64 - 1) (from + 64)) →
    ((n : ℕ) → from ≤ n → n < to → slice_index demands n ≤ slice_index capacities n) → IsCalmRun demands capacities run
calm-run demands capacities run start from to few at is end within = λ n low high below. within n (omega (arith, is, at, low)) (omega (arith, end, is, at, few, low, high, below))
