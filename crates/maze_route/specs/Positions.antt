-- Positions of columns and rows, as sums of what it costs at least to cross from each to the next.
use Rattle.std.specs.Prelude.{◌≡◌, ℕ, ◌+◌, ◌-◌, ◌*◌, ◌<◌, ◌≤◌, List, [], ◌∷◌, get_or, length, Option, Some, IsTrue}
use Rattle.cost_rules.specs.Formulas.{most_cost}
use Rattle.gr_base.specs.declared.grid.Cell.{Cell}
use Rattle.gr_base.specs.declared.grid.Edge.{Edge}
use Rattle.gr_base.specs.declared.grid.Shape.{Shape}
use Rattle.gr_base.specs.declared.grid.Way.{Way}
use Rattle.gr_base.specs.declared.grid.Way.TheVariants.{East, North, Up}
use Rattle.gr_base.specs.Grid.{place_at, stride, edge_at}
use Rattle.maze_route.specs.Windows.{in_window}
use Rattle.maze_route.specs.declared.window.Window.{Window}

-- the greatest position
abbrev pub most_position : ℕ
most_position = 17592186044416

-- the number at a place of a list
abbrev pub at : List ℕ → ℕ → ℕ
at numbers place = get_or numbers place 0

-- none of the numbers is greater than this
abbrev pub AreUpTo : ℕ → List ℕ → Type 0
AreUpTo most numbers = (place : ℕ) → at numbers place ≤ most

-- the numbers that a bound on the rest of a walk is made of are small
pub record AreSmall (columns rows : List ℕ) (via : ℕ) : Type 0 where
  pub by_column : AreUpTo (2 * most_position) columns
  pub by_row : AreUpTo (2 * most_position) rows
  pub of_via : via ≤ most_cost

-- how far outside two positions another one lies
abbrev pub outside : ℕ → ℕ → ℕ → ℕ
outside from to position = (from - position) + (position - to)

-- the sums of the first numbers of a list, from that of none to that of all
abbrev pub sums_from : ℕ → List ℕ → List ℕ
sums_from total [] = total ∷ []
sums_from total (number ∷ numbers) = total ∷ sums_from (total + number) numbers

-- no number is raised
pub record AreLowered (before after : List ℕ) : Type 0 where
  pub size : length after ≡ length before
  pub lower : (place : ℕ) → at after place ≤ at before place

-- how many borders between columns or rows of the window are crossed this way, and how many lines cross them on a layer
abbrev pub borders_of : Window → Way → ℕ
borders_of w East = w.x1 - w.x0
borders_of w North = w.y1 - w.y0
borders_of w Up = 0

abbrev pub lines_of : Window → Way → ℕ
lines_of w East = w.y1 - w.y0 + 1
lines_of w North = w.x1 - w.x0 + 1
lines_of w Up = 0

-- the first cell of a line
abbrev pub start_of : Window → Way → ℕ → ℕ → Cell
start_of w East layer line = record { x = w.x0; y = w.y0 + line; layer = layer }
start_of w North layer line = record { x = w.x0 + line; y = w.y0; layer = layer }
start_of w Up layer line = record { x = w.x0; y = w.y0; layer = layer }

-- the border that an edge crosses, and the line that it lies on, by its low end
abbrev pub border_of : Window → Way → Cell → ℕ
border_of w East cell = cell.x - w.x0
border_of w North cell = cell.y - w.y0
border_of w Up cell = 0

abbrev pub line_of : Window → Way → Cell → ℕ
line_of w East cell = cell.y - w.y0
line_of w North cell = cell.x - w.x0
line_of w Up cell = 0

-- an edge that begins in a cell of the window and crosses a border ends in the window too
abbrev pub IsBefore : Window → Way → Cell → Type 0
IsBefore w East cell = cell.x < w.x1
IsBefore w North cell = cell.y < w.y1
IsBefore w Up cell = ⊥

-- no edge of a line costs less than the number for it
abbrev pub IsUnderLine : Shape → (Edge → Option ℕ) → Way → ℕ → ℕ → List ℕ → Type 0
IsUnderLine g price way first count numbers = (place cost : ℕ) → place < count →
    price (edge_at (first + place * stride g way) way) ≡ Some cost → at numbers place ≤ cost

-- no edge of the window this way that begins at such a place costs less than the number of its border
abbrev pub AreUnder : Shape → Window → (Edge → Option ℕ) → Way → (Cell → Type 0) → List ℕ → Type 0
AreUnder g w price way Begins numbers = (low cost : ℕ) → IsTrue (in_window g w low) → IsBefore w way (place_at g low) →
    Begins (place_at g low) → price (edge_at low way) ≡ Some cost → at numbers (border_of w way (place_at g low)) ≤ cost

-- positions rise from each border's one side to the other by no more than it costs to cross it
pub record IsCrossed (positions : List ℕ) (border cost : ℕ) : Type 0 where
  pub rises : at positions border ≤ at positions (border + 1)
  pub most : at positions (border + 1) ≤ at positions border + cost

abbrev pub ArePositions : Shape → Window → (Edge → Option ℕ) → Way → List ℕ → Type 0
ArePositions g w price way positions = (low cost : ℕ) → IsTrue (in_window g w low) → IsBefore w way (place_at g low) →
    price (edge_at low way) ≡ Some cost → IsCrossed positions (border_of w way (place_at g low)) cost
