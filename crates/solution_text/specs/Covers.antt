-- The edges that a run covers.
use Rattle.std.specs.Prelude.{ℕ, Bool, ◌&&◌, ◌||◌, nat_le}
use Rattle.gr_base.specs.declared.grid.Cell.{Cell}
use Rattle.gr_base.specs.declared.grid.Edge.{Edge}
use Rattle.gr_base.specs.declared.grid.Shape.{Shape}
use Rattle.gr_base.specs.Grid.{place_at, has_edge, high_of}
use Rattle.solution_text.specs.declared.run.Run.{Run}

-- a number lies between two others, both included, whichever of them is less
abbrev pub is_between : ℕ → ℕ → ℕ → Bool
is_between a b n = (nat_le a n && nat_le n b) || (nat_le b n && nat_le n a)

-- a cell lies between two others in column, row and layer
abbrev pub is_amid : Cell → Cell → Cell → Bool
is_amid a b cell = is_between a.x b.x cell.x && is_between a.y b.y cell.y && is_between a.layer b.layer cell.layer

-- the cell of this number lies on the run
abbrev pub is_on : Shape → Run → ℕ → Bool
is_on g run cell = is_amid (place_at g run.from) (place_at g run.to) (place_at g cell)

-- an edge of the grid with both ends on the run
abbrev pub covers : Shape → Run → Edge → Bool
covers g run e = has_edge g e && is_on g run e.low && is_on g run (high_of g e)
