-- How the edges of runs come into a set of edges.
use Rattle.std.specs.Prelude.{◌≡◌, ◌||◌, ℕ, List}
use Rattle.std.specs.List.{list_any}
use Rattle.gr_base.specs.EdgeSets.{Edges}
use Rattle.gr_base.specs.declared.grid.Edge.{Edge}
use Rattle.gr_base.specs.declared.grid.Shape.{Shape}
use Rattle.solution_text.specs.declared.run.Run.{Run}
use Rattle.solution_text.specs.Covers.{covers}
use Rattle.route_evaluator.specs.EdgeNumbers.{edges_numbered}

-- the edges that some of these runs cover
abbrev pub covered_by : Shape → List Run → Edges
covered_by g runs e = list_any (λ run. covers g run e) runs

-- the new numbers are those of the old ones' edges and of these, and no others
abbrev pub Adds : Edges → (old new : List ℕ) → Type 0
Adds more old new = (e : Edge) → edges_numbered new e ≡ (edges_numbered old e || more e)
