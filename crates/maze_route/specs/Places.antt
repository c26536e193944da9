-- Places for pairs: free ones and taken ones.
use Rattle.std.specs.Prelude.{◌≡◌, ◌≢◌, ℕ, false, List, ◌∷◌, Option, Some, slice_get}
use Rattle.std.specs.List.{filter_map}
use Rattle.std.specs.List.Sorted.{IsPermutation}
use Rattle.maze_route.specs.Buckets.{pair_in, AreFree}
use Rattle.maze_route.specs.declared.slot.Slot.{Slot}

-- the pair is put in a place where none waited, and nothing else changes
pub record IsPut (slots after : List Slot) (place : ℕ) (slot : Slot) : Type 0 where
  pub at : slice_get after place ≡ Some slot
  pub others : (other : ℕ) → other ≢ place → slice_get after other ≡ slice_get slots other
  pub fresh : (old : Slot) → slice_get slots place ≡ Some old → old.taken ≡ false
  pub pairs : IsPermutation ((slot.key, slot.cell) ∷ filter_map pair_in slots) (filter_map pair_in after)

-- some places are the free ones
pub record HasFree (slots : List Slot) (free : Option ℕ) : Type 0 where
  pub places : List ℕ
  pub are_free : AreFree slots free places
