-- The maximal straight runs of a set of edges.
use Rattle.std.specs.Prelude.{ℕ, zero, suc, ◌+◌, ◌-◌, Bool, ◌&&◌, not, nat_le, List, ◌++◌, map, if◌then◌else◌, IsTrue}
use Rattle.std.specs.List.{filter, range_with_len}
use Rattle.gr_base.specs.declared.grid.Edge.{Edge}
use Rattle.gr_base.specs.declared.grid.Shape.{Shape}
use Rattle.gr_base.specs.declared.grid.Way.{Way}
use Rattle.gr_base.specs.declared.grid.Way.TheVariants.{East, North, Up}
use Rattle.gr_base.specs.Grid.{cells_of, edge_at, stride, has_edge}
use Rattle.gr_base.specs.EdgeSets.{Edges}
use Rattle.solution_text.specs.declared.run.Run.{Run}

-- each edge of the set is one of the grid's
abbrev pub LieIn : Shape → Edges → Type 0
LieIn g set = (e : Edge) → IsTrue (set e) → IsTrue (has_edge g e)

-- an edge of the set that way ends at the cell
abbrev pub arrives : Shape → Edges → Way → ℕ → Bool
arrives g set way cell = nat_le (stride g way) cell && set (edge_at (cell - stride g way) way)

-- a maximal run of edges that way begins at the cell
abbrev pub begins : Shape → Edges → Way → ℕ → Bool
begins g set way cell = set (edge_at cell way) && not (arrives g set way cell)

-- the cell to which edges of the set lead from this one, that way, in at most so many steps
abbrev pub reach : Shape → Edges → Way → (steps : ℕ) → ℕ → ℕ
reach g set way zero cell = cell
reach g set way (suc steps) cell = if set (edge_at cell way) then reach g set way steps (cell + stride g way) else cell

-- the maximal run that begins at a cell
abbrev pub run_from : Shape → Edges → Way → ℕ → Run
run_from g set way cell = record { from = cell; to = reach g set way (cells_of g) cell }

-- the maximal runs of one way, rising by their low ends
abbrev pub runs_of_way : Shape → Edges → Way → List Run
runs_of_way g set way = map (run_from g set way) (filter (begins g set way) (range_with_len 0 (cells_of g)))

-- the maximal runs of a set of edges, by way
abbrev pub runs_of : Shape → Edges → List Run
runs_of g set = runs_of_way g set East ++ runs_of_way g set North ++ runs_of_way g set Up
