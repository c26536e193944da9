-- What stands while the pairs of one bucket are put into their new buckets.
use Rattle.std.specs.Prelude.{◌≡◌, ℕ, ◌<◌, ◌⊎◌, false, true, List, length, Option, Some, IsTrue, slice_get}
use Rattle.std.specs.List.{filter_map}
use Rattle.gr_base.specs.Trees.{is_among}
use Rattle.maze_route.specs.Buckets.{pair_in, IsChain, head_at, IsOf, AreFree}
use Rattle.maze_route.specs.declared.slot.Slot.{Slot}

-- what stands while a bucket is spread: its places that are left, and the chains of the others by the new last key
pub record IsSpreading (slots : List Slot) (heads : List (Option ℕ)) (free at : Option ℕ) (last bucket : ℕ)
    (pairs : List (ℕ × ℕ)) : Type 0 where
  pub size : length heads ≡ 1078
  pub left : List ℕ
  pub chains : ℕ → List ℕ
  pub left_linked : IsChain slots at left
  pub left_only : (place : ℕ) → IsTrue (is_among left place) →
      (lower : ℕ) × ((lower < bucket) × IsOf slots last lower place)
  pub linked : (b : ℕ) → b < 1078 → IsChain slots (head_at heads b) (chains b)
  pub only : (b place : ℕ) → b < 1078 → IsTrue (is_among (chains b) place) → IsOf slots last b place
  pub apart : (b place : ℕ) → b < 1078 → IsTrue (is_among left place) → is_among (chains b) place ≡ false
  pub all : (place : ℕ) (slot : Slot) → slice_get slots place ≡ Some slot → slot.taken ≡ true →
      IsTrue (is_among left place) ⊎ ((b : ℕ) × ((b < 1078) × ((IsOf slots last b place) ×
      IsTrue (is_among (chains b) place))))
  pub free_places : List ℕ
  pub are_free : AreFree slots free free_places
  pub same_pairs : filter_map pair_in slots ≡ pairs

-- something is being spread
pub record IsSpread (slots : List Slot) (heads : List (Option ℕ)) (at : Option ℕ) (last : ℕ) : Type 0 where
  pub free : Option ℕ
  pub bucket : ℕ
  pub pairs : List (ℕ × ℕ)
  pub spreading : IsSpreading slots heads free at last bucket pairs
