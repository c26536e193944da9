-- Buckets that are made ready for the next pair, and the pair that is taken.
use Rattle.std.specs.Prelude.{◌≡◌, ℕ, ◌%◌, ◌≤◌, List, ◌∷◌, All, Option, Some, IsSome}
use Rattle.std.specs.List.{filter_map}
use Rattle.std.specs.List.Sorted.{IsPermutation}
use Rattle.maze_route.specs.Buckets.{pair_in, head_at, Keeps, IsFirstFull}
use Rattle.maze_route.specs.declared.slot.Slot.{Slot}

-- the buckets stand by the last key, whose own bucket has a place
pub record IsRenewed (slots : List Slot) (heads : List (Option ℕ)) (free : Option ℕ) (last : ℕ) : Type 0 where
  pub keeps : Keeps slots heads free last
  pub some : IsSome (head_at heads (last % 1024))

-- the bucket is the first that has a place
pub record IsRenewable (slots : List Slot) (heads : List (Option ℕ)) (last bucket first : ℕ) : Type 0 where
  pub free : Option ℕ
  pub keeps : Keeps slots heads free last
  pub full : IsFirstFull heads (Some bucket)
  pub head : head_at heads bucket ≡ Some first

-- a pair of the last key is taken out, and no key is less
pub record IsTakenOut (slots after : List Slot) (heads : List (Option ℕ)) (free : Option ℕ) (last : ℕ)
    (slot : Slot) : Type 0 where
  pub keeps : Keeps after heads free last
  pub pairs : IsPermutation (filter_map pair_in slots) ((slot.key, slot.cell) ∷ filter_map pair_in after)
  pub least : All (λ (p : ℕ × ℕ). last ≤ p.0) (filter_map pair_in after)
  pub key : slot.key ≡ last
