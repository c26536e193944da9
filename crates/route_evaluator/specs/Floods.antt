-- How a flood goes over the edges of a set from cell to cell, and what it finds.
use Rattle.std.specs.Prelude.{◌≡◌, ℕ, ◌+◌, ◌-◌, ◌<◌, ◌≤◌, ◌&&◌, nat_le, true, List, length, slice_index_or, All, Some, if◌then◌else◌}
use Rattle.gr_base.specs.EdgeSets.{Edges, Leads}
use Rattle.gr_base.specs.Grid.{cells_of, edge_at, high_of, stride}
use Rattle.gr_base.specs.Trees.{TreeView, IsTree, cell_at, holds, edges_of, tree_edges}
use Rattle.gr_base.specs.declared.grid.Edge.{Edge}
use Rattle.gr_base.specs.declared.grid.Shape.{Shape}
use Rattle.gr_base.specs.declared.grid.Way.{Way}
use Rattle.gr_base.specs.declared.grid.Way.TheVariants.{East, North, Up}
use Rattle.route_evaluator.specs.NetTrees.{StepsTo}
use Rattle.route_evaluator.specs.NumberSets.{has_number, with_number}

-- the cells that are reached once the edge of the set from a cell, this way, was followed
abbrev pub onward : Shape → Edges → Way → ℕ → List ℕ → List ℕ
onward g set way cell cells =
    if set (edge_at cell way) then with_number cells (high_of g (edge_at cell way)) else cells

-- and once the edge of the set to the cell, this way, was followed backwards
abbrev pub backward : Shape → Edges → Way → ℕ → List ℕ → List ℕ
backward g set way cell cells =
    if nat_le (stride g way) cell && set (edge_at (cell - stride g way) way)
    then with_number cells (cell - stride g way) else cells

abbrev pub spread_along : Shape → Edges → Way → ℕ → List ℕ → List ℕ
spread_along g set way cell cells = backward g set way cell (onward g set way cell cells)

-- the cells that are reached once each edge of the set at a cell was followed
abbrev pub spread_from : Shape → Edges → ℕ → List ℕ → List ℕ
spread_from g set cell cells =
    spread_along g set Up cell (spread_along g set North cell (spread_along g set East cell cells))

-- the cell at a place was reached from the one at an earlier place
pub record CameFrom (g : Shape) (set : Edges) (cells : List ℕ) (place parent : ℕ) : Type 0 where
  pub earlier : parent < place
  pub step : StepsTo g set (slice_index_or cells parent 0) (slice_index_or cells place 0)

-- cells that are reached from the first along edges of the set, with the places that they were reached from; each
-- neighbour of so many of them is among them
pub record IsFlood (g : Shape) (set : Edges) (first count : ℕ) (cells parents : List ℕ) : Type 0 where
  pub some : 0 < length cells
  pub start : slice_index_or cells 0 0 ≡ first
  pub led : All (Leads g set first) cells
  pub inside : All (λ cell. cell < cells_of g) cells
  pub long : length parents ≡ length cells
  pub came : (place : ℕ) → 0 < place → place < length cells →
      CameFrom g set cells place (slice_index_or parents place 0)
  pub within : count ≤ length cells
  pub around : (place cell : ℕ) → place < count → StepsTo g set (slice_index_or cells place 0) cell →
      has_number cells cell ≡ true

-- a tree of edges of the set, with just these cells, from which no edge of the set leads to another cell
pub record IsReach (g : Shape) (set : Edges) (first : ℕ) (cells : List ℕ) (t : TreeView) : Type 0 where
  pub tree : IsTree t
  pub shape : t.shape ≡ g
  pub start : cell_at t.nodes 0 ≡ Some first
  pub within : (e : Edge) → edges_of t e ≡ true → set e ≡ true
  pub count : length (tree_edges t) + 1 ≡ length t.nodes
  pub held : (cell : ℕ) → holds t cell ≡ has_number cells cell
  pub closed : (cell other : ℕ) → holds t cell ≡ true → StepsTo t.shape set cell other → holds t other ≡ true
