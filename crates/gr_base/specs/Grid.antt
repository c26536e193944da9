-- The cells and the edges of a grid, by their numbers.
use Rattle.std.specs.Prelude.{◌≡◌, ℕ, ◌+◌, ◌-◌, ◌*◌, ◌/◌, ◌%◌, ◌<◌, ◌⊎◌, Bool, true, false, ◌&&◌, ◌==◌, nat_lt, min, Option, Some, None, if◌then◌else◌, IsTrue}
use Rattle.gr_base.specs.declared.grid.Cell.{Cell}
use Rattle.gr_base.specs.declared.grid.Edge.{Edge}
use Rattle.gr_base.specs.declared.grid.Shape.{Shape}
use Rattle.gr_base.specs.declared.grid.Way.{Way}
use Rattle.gr_base.specs.declared.grid.Way.TheVariants.{East, North, Up}

-- how many cells the grid has
abbrev pub cells_of : Shape → ℕ
cells_of g = g.columns * g.rows * g.layers

-- the cell's number: cells go by column, then by row, then by layer
abbrev pub number_of : Shape → Cell → ℕ
number_of g cell = (cell.layer * g.rows + cell.y) * g.columns + cell.x

-- the cell lies inside the grid
pub record IsInside (g : Shape) (cell : Cell) : Type 0 where
  pub column : cell.x < g.columns
  pub row : cell.y < g.rows
  pub layer : cell.layer < g.layers

-- the cell with this number
abbrev pub place_at : Shape → ℕ → Cell
place_at g number =
    record { x = number % g.columns; y = number / g.columns % g.rows; layer = number / g.columns / g.rows }

-- how far apart two numbers are
abbrev pub gap : ℕ → ℕ → ℕ
gap a b = (a - b) + (b - a)

-- by how much two cells differ in column, row and layer together
abbrev pub steps_between : Shape → ℕ → ℕ → ℕ
steps_between g a b =
    gap (place_at g a).x (place_at g b).x + gap (place_at g a).y (place_at g b).y + gap (place_at g a).layer (place_at g b).layer

-- two cells are neighbours where they differ by 1 in exactly one of column, row and layer
abbrev pub AreNeighbours : Shape → ℕ → ℕ → Type 0
AreNeighbours g a b = steps_between g a b ≡ 1

-- the way between two neighbours
abbrev pub way_between : Shape → ℕ → ℕ → Way
way_between g a b =
    if (place_at g a).x == (place_at g b).x then (if (place_at g a).y == (place_at g b).y then Up else North) else East

-- the edge from a cell, that way
abbrev pub edge_at : ℕ → Way → Edge
edge_at low way = record { low = low; way = way }

-- the edge between two cells, if they are neighbours
abbrev pub edge_of : Shape → ℕ → ℕ → Option Edge
edge_of g a b = if steps_between g a b == 1 then Some (edge_at (min a b) (way_between g a b)) else None

-- the edge on a layer over an edge of the grid of one layer
abbrev pub on_layer : Shape → ℕ → Edge → Edge
on_layer g layer flat = edge_at (layer * (g.columns * g.rows) + flat.low) flat.way

-- by how much the number grows along a way
abbrev pub stride : Shape → Way → ℕ
stride g East = 1
stride g North = g.columns
stride g Up = g.columns * g.rows

-- the other end of an edge
abbrev pub high_of : Shape → Edge → ℕ
high_of g e = e.low + stride g e.way

-- the neighbouring place that way
abbrev pub beyond : Cell → Way → Cell
beyond cell East = record { x = cell.x + 1; y = cell.y; layer = cell.layer }
beyond cell North = record { x = cell.x; y = cell.y + 1; layer = cell.layer }
beyond cell Up = record { x = cell.x; y = cell.y; layer = cell.layer + 1 }

-- the cell has a neighbour that way
abbrev pub has_room : Shape → Cell → Way → Bool
has_room g cell East = nat_lt (cell.x + 1) g.columns
has_room g cell North = nat_lt (cell.y + 1) g.rows
has_room g cell Up = nat_lt (cell.layer + 1) g.layers

-- the edge is one of the grid's
abbrev pub has_edge : Shape → Edge → Bool
has_edge g e = nat_lt e.low (cells_of g) && has_room g (place_at g e.low) e.way

-- the edge is one of the grid's, and its ends are these two cells
pub record Joins (g : Shape) (e : Edge) (a b : ℕ) : Type 0 where
  pub edge : IsTrue (has_edge g e)
  pub ends : ((e.low ≡ a) × (high_of g e ≡ b)) ⊎ ((e.low ≡ b) × (high_of g e ≡ a))

-- East and North edges are wire edges, Up edges are via edges
abbrev pub is_wire_way : Way → Bool
is_wire_way East = true
is_wire_way North = true
is_wire_way Up = false

abbrev pub is_wire : Edge → Bool
is_wire e = is_wire_way e.way
