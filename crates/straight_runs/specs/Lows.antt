-- The low ends of the edges that go one way.
use Rattle.std.specs.Prelude.{◌≡◌, ℕ, ◌&&◌, ◌==◌, Bool, List}
use Rattle.std.specs.List.{filter, list_any, range_with_len}
use Rattle.std.specs.List.Sorted.{IsStrictlyIncreasing}
use Rattle.gr_base.specs.declared.grid.Shape.{Shape}
use Rattle.gr_base.specs.declared.grid.Way.{Way}
use Rattle.gr_base.specs.Grid.{cells_of, edge_at}
use Rattle.gr_base.specs.EdgeSets.{Edges, is_way}
use Rattle.solution_text.specs.Runs.{LieIn}

-- the low ends of a set's edges that go this way, among so many cells
abbrev pub lows_below : ℕ → Edges → Way → List ℕ
lows_below cells set way = filter (λ cell. set (edge_at cell way)) (range_with_len 0 cells)

-- the cell is one of these low ends
abbrev pub is_low : List ℕ → ℕ → Bool
is_low lows cell = list_any (λ low. cell == low) lows

-- the edges that go this way from these low ends
abbrev pub edges_from : Way → List ℕ → Edges
edges_from way lows e = is_way way e.way && is_low lows e.low

-- the low ends of some of the grid's edges that go this way, rising and each once
pub record AreLows (g : Shape) (way : Way) (lows : List ℕ) : Type 0 where
  pub within : LieIn g (edges_from way lows)
  pub rising : IsStrictlyIncreasing lows
  pub all : lows ≡ lows_below (cells_of g) (edges_from way lows) way
