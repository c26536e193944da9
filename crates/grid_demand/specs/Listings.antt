-- What is listed of demands that are gone through place by place, and what is told of runs of places.
use Rattle.std.specs.Prelude.{◌≡◌, ℕ, ◌+◌, ◌-◌, ◌*◌, ◌/◌, ◌^◌, ◌<◌, ◌≤◌, Bool, true, false, nat_lt, List, map, length, sum_by, slice_index, slice_index_or}
use Rattle.std.specs.List.{filter, range_with_len}

-- whether a demand is above its capacity, and by how much
abbrev pub is_above : (demands capacities : List ℕ) → ℕ → Bool
is_above demands capacities n = nat_lt (slice_index capacities n) (slice_index demands n)

abbrev pub excess : (demands capacities : List ℕ) → ℕ → ℕ
excess demands capacities n = slice_index demands n - slice_index capacities n

abbrev pub excess_before : (demands capacities : List ℕ) → ℕ → ℕ
excess_before demands capacities at = sum_by (λ (k : ℕ). k) (map (excess demands capacities) (range_with_len 0 at))

-- what is listed of the demands before a place
pub record Lists (demands capacities : List ℕ) (over : List Bool) (places : List ℕ) (total at : ℕ) : Type 0 where
  pub long : length over ≡ length demands
  pub done : (n : ℕ) → n < at → slice_index_or over n false ≡ is_above demands capacities n
  pub rest : (n : ℕ) → at ≤ n → slice_index_or over n false ≡ false
  pub listed : places ≡ filter (is_above demands capacities) (range_with_len 0 at)
  pub sum : total ≡ excess_before demands capacities at
  pub few : total ≤ at * 2 ^ 64

-- tables of demands and capacities in planes: as long as each other, in two halves, and numbered by 32 bits
pub record AreTables (demands capacities : List ℕ) : Type 0 where
  pub same : length capacities ≡ length demands
  pub halves : length demands ≡ 2 * (length demands / 2)
  pub few : length demands < 2 ^ 32

-- none of the demands of a run of 64 places is above its capacity
abbrev pub IsCalmRun : (demands capacities : List ℕ) → ℕ → Type 0
IsCalmRun demands capacities run =
    (n : ℕ) → run * 64 ≤ n → n < run * 64 + 64 → n < length demands → slice_index demands n ≤ slice_index capacities n

-- the runs of which it is told
abbrev pub AreCalm : (demands capacities : List ℕ) → List Bool → Type 0
AreCalm demands capacities calm = (run : ℕ) → slice_index_or calm run false ≡ true → IsCalmRun demands capacities run
