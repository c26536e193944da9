-- The first of some labelled cells.
use Rattle.std.specs.Prelude.{◌≡◌, ℕ, ◌<◌, ◌≤◌, ◌⊎◌, Bool, ◌&&◌, ◌||◌, ◌==◌, nat_lt, nat_le, List, Option, Some, None, if◌then◌else◌, IsTrue}
use Rattle.gr_base.specs.Trees.{is_among}
use Rattle.maze_route.specs.declared.pane.Reached.{Reached}

abbrev pub is_earlier : ℕ → ℕ → ℕ → ℕ → Bool
is_earlier best_cost best cost cell = nat_lt best_cost cost || best_cost == cost && nat_le best cell

abbrev pub reached_at : ℕ → ℕ → Reached
reached_at cell cost = record { cell = cell; cost = cost }

-- the earlier of two labelled cells, if the second has a label
abbrev pub earlier_of : Option Reached → Option ℕ → ℕ → Option Reached
earlier_of first None cell = first
earlier_of None (Some cost) cell = Some (reached_at cell cost)
earlier_of (Some best) (Some cost) cell =
    if is_earlier best.cost best.cell cost cell then Some best else Some (reached_at cell cost)

-- the cell has the least label, and of these the least number
pub record IsFirst (label : ℕ → Option ℕ) (ends : List ℕ) (first : Reached) : Type 0 where
  pub among : IsTrue (is_among ends first.cell)
  pub labelled : label first.cell ≡ Some first.cost
  pub before : (other cost : ℕ) → IsTrue (is_among ends other) → label other ≡ Some cost →
      (first.cost < cost) ⊎ ((first.cost ≡ cost) × (first.cell ≤ other))

abbrev pub IsFirstOf : (ℕ → Option ℕ) → List ℕ → Option Reached → Type 0
IsFirstOf label ends None = (other : ℕ) → IsTrue (is_among ends other) → label other ≡ None
IsFirstOf label ends (Some first) = IsFirst label ends first
