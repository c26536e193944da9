-- The search for the first mark of least overflow.
use Rattle.std.specs.Prelude.{◌≡◌, ℕ, ◌+◌, ◌<◌, ◌≤◌, nat_le, List, Option, Some, None, slice_get, if◌then◌else◌}
use Rattle.book_state.specs.Marks.{overflow_of}
use Rattle.book_state.specs.declared.entry.Entry.{Entry}
use Rattle.book_state.specs.declared.least.MarkedAt.{MarkedAt}

-- the one of less overflow, and the earlier one where they have the same
abbrev pub lesser : Option MarkedAt → MarkedAt → MarkedAt
lesser None later = later
lesser (Some earlier) later = if nat_le earlier.overflow later.overflow then earlier else later

-- the entry at a place is a mark with this overflow
pub record IsMarkAt (h : List Entry) (place overflow : ℕ) : Type 0 where
  pub e : Entry
  pub there : slice_get h place ≡ Some e
  pub mark : overflow_of e ≡ Some overflow

-- this is the first mark of least overflow
pub record IsFirstLeast (h : List Entry) (mark : MarkedAt) : Type 0 where
  pub place : ℕ
  pub length : mark.length ≡ place + 1
  pub there : IsMarkAt h place mark.overflow
  pub least : (p overflow : ℕ) → IsMarkAt h p overflow → mark.overflow ≤ overflow
  pub first : (p overflow : ℕ) → p < place → IsMarkAt h p overflow → mark.overflow < overflow

-- this is the first mark of least overflow, or there is no mark
abbrev pub IsLeast : List Entry → Option MarkedAt → Type 0
IsLeast h None = (p overflow : ℕ) → IsMarkAt h p overflow → ⊥
IsLeast h (Some mark) = IsFirstLeast h mark
