-- Steps between neighbours by numbers in a window, and the least rest of a walk from each.
use Rattle.std.specs.Prelude.{◌≡◌, ℕ, ◌+◌, ◌-◌, ◌*◌, ◌<◌, ◌≤◌, Bool, ◌&&◌, nat_lt, List, [], ◌∷◌, length, map, Option, Some, None, if◌then◌else◌}
use Rattle.std.specs.Option.{option_map}
use Rattle.gr_base.specs.declared.grid.Cell.{Cell}
use Rattle.gr_base.specs.declared.grid.Edge.{Edge}
use Rattle.gr_base.specs.declared.grid.Shape.{Shape}
use Rattle.gr_base.specs.declared.grid.Way.{Way}
use Rattle.gr_base.specs.declared.grid.Way.TheVariants.{East, North, Up}
use Rattle.gr_base.specs.Grid.{cells_of, number_of, place_at, stride, has_room}
use Rattle.gr_base.specs.Trees.{TreeView, holds, cell_at}
use Rattle.maze_route.specs.Panes.{out_of, into}
use Rattle.maze_route.specs.Positions.{at}
use Rattle.maze_route.specs.Walks.{Graph}
use Rattle.maze_route.specs.Windows.{window_step}
use Rattle.maze_route.specs.declared.pane.Aim.{Aim}
use Rattle.maze_route.specs.declared.pane.Neighbour.{Neighbour}
use Rattle.maze_route.specs.declared.pane.Pane.{Pane}
use Rattle.maze_route.specs.declared.pane.Spot.{Spot}
use Rattle.maze_route.specs.declared.side.Side.{Side}
use Rattle.maze_route.specs.declared.side.Side.TheVariants.{Behind, Ahead}

-- how many cells the window has
abbrev pub size_of : Pane → ℕ
size_of p = cells_of p.shape

-- the grid's number of the cell with this number in the window, and the other way round
abbrev pub cell_in : Pane → ℕ → ℕ
cell_in p n = number_of p.grid (out_of p.window (place_at p.shape n))

abbrev pub local_of : Pane → ℕ → ℕ
local_of p cell = number_of p.shape (into p.window (place_at p.grid cell))

-- the cell's numbers and its place in the window
pub record IsSpot (p : Pane) (spot : Spot) : Type 0 where
  pub inside : spot.local < size_of p
  pub cell : spot.cell ≡ cell_in p spot.local
  pub place : spot.place ≡ place_at p.shape spot.local

-- steps and walks by numbers in the window
abbrev pub pane_step : Pane → (Edge → Option ℕ) → ℕ → ℕ → Option ℕ
pane_step p price m n =
    if nat_lt m (size_of p) && nat_lt n (size_of p)
    then window_step p.grid p.window price (cell_in p m) (cell_in p n)
    else None

abbrev pub pane_source : Pane → TreeView → ℕ → Bool
pane_source p t n = nat_lt n (size_of p) && holds t (cell_in p n)

abbrev pub pane_graph : Pane → TreeView → (Edge → Option ℕ) → Graph
pane_graph p t price = record { source = pane_source p t; step = pane_step p price }

-- the cell has a neighbour against the way
abbrev pub has_room_behind : Cell → Way → Bool
has_room_behind cell East = nat_lt 0 cell.x
has_room_behind cell North = nat_lt 0 cell.y
has_room_behind cell Up = nat_lt 0 cell.layer

-- the place before, against the way
abbrev pub before : Cell → Way → Cell
before q East = record { x = q.x - 1; y = q.y; layer = q.layer }
before q North = record { x = q.x; y = q.y - 1; layer = q.layer }
before q Up = record { x = q.x; y = q.y; layer = q.layer - 1 }

-- the neighbour along a way, and against it
abbrev pub ahead_of : Shape → ℕ → Way → Option ℕ
ahead_of s n way = if has_room s (place_at s n) way then Some (n + stride s way) else None

abbrev pub behind_of : Shape → ℕ → Way → Option ℕ
behind_of s n way = if has_room_behind (place_at s n) way then Some (n - stride s way) else None

-- the neighbour on a side
abbrev pub beside : Shape → ℕ → Side → Option ℕ
beside s n (Behind way) = behind_of s n way
beside s n (Ahead way) = ahead_of s n way

-- what a walk between a place and a box costs at least: by the place's column and row, and a via edge for each layer
abbrev pub least_to : Aim → Cell → ℕ
least_to aim cell = at aim.columns.items cell.x + at aim.rows.items cell.y + (cell.layer - aim.top) * aim.via

abbrev pub rest_of : Pane → Aim → ℕ → ℕ
rest_of p aim n = least_to aim (place_at p.shape n)

-- a step to a cell: its number in the window, what the step costs, and what the rest of a walk from there costs at least
pub record Step : Type 0 where
  pub cell : ℕ
  pub cost : ℕ
  pub rest : ℕ

-- the step to a neighbour, with what the rest of a walk from there costs at least
abbrev pub step_of : Aim → Neighbour → Step
step_of aim n = record { cell = n.cell; cost = n.cost; rest = least_to aim n.place }

-- the bound has a part for a place's column and row
pub record Covers (aim : Aim) (place : Cell) : Type 0 where
  pub column : place.x < length aim.columns.items
  pub row : place.y < length aim.rows.items

-- the bound has a part for each column and each row of the window
pub record FitsIn (p : Pane) (aim : Aim) : Type 0 where
  pub columns : length aim.columns.items ≡ p.shape.columns
  pub rows : length aim.rows.items ≡ p.shape.rows

-- and falls with a step by no more than the step costs
pub record IsGuide (p : Pane) (price : Edge → Option ℕ) (aim : Aim) : Type 0 where
  pub fits : FitsIn p aim
  pub falls : (n m cost : ℕ) → pane_step p price n m ≡ Some cost → rest_of p aim n ≤ cost + rest_of p aim m

-- the step from a cell to another, if there is one
abbrev pub made_step : Pane → Aim → ℕ → ℕ → Step
made_step p aim to cost = record { cell = to; cost = cost; rest = rest_of p aim to }

abbrev pub step_to : Pane → (Edge → Option ℕ) → Aim → ℕ → Option ℕ → Option Step
step_to p price aim from None = None
step_to p price aim from (Some to) = option_map (made_step p aim to) (pane_step p price from to)

-- the neighbours of a cell by rising number
abbrev pub sides : Shape → ℕ → List (Option ℕ)
sides s n =
    behind_of s n Up ∷ behind_of s n North ∷ behind_of s n East ∷ ahead_of s n East ∷ ahead_of s n North ∷
    ahead_of s n Up ∷ []

-- the steps from a cell, by rising number of the neighbour
abbrev pub steps_from : Pane → (Edge → Option ℕ) → Aim → ℕ → List (Option Step)
steps_from p price aim n = map (step_to p price aim n) (sides p.shape n)

-- the node's cell has label 0
abbrev pub IsSeededTo : Pane → TreeView → (ℕ → Option ℕ) → ℕ → Type 0
IsSeededTo p t label nodes = (k cell : ℕ) → k < nodes → cell_at t.nodes k ≡ Some cell → label (local_of p cell) ≡ Some 0
