-- What a solution is seen as.
use Rattle.std.specs.Prelude.{◌≡◌, ℕ, ◌<◌, List, [], length, All, slice_get, unwrap_or, IsTrue}
use Rattle.std.specs.List.{list_any}
use Rattle.gr_base.specs.declared.grid.Shape.{Shape}
use Rattle.gr_base.specs.Designs.{DesignView}
use Rattle.gr_base.specs.EdgeSets.{Edges}
use Rattle.gr_base.specs.Grid.{cells_of, place_at}
use Rattle.solution_text.specs.declared.run.Run.{Run}
use Rattle.solution_text.specs.Covers.{covers}
use Rattle.solution_text.specs.Grammar.{is_straight}

-- what a solution says: for each net of the design, by number, its runs in the order of the text
pub record SolutionView : Type 0 where
  pub shape : Shape
  pub runs : List (List Run)

-- the runs of a net; a net without a record has none
abbrev pub runs_at : SolutionView → ℕ → List Run
runs_at s net = unwrap_or (slice_get s.runs net) []

-- the edges that the runs of a net cover
abbrev pub edges_by : SolutionView → ℕ → Edges
edges_by s net e = list_any (λ run. covers s.shape run e) (runs_at s net)

-- the run's ends are cells of the grid that differ in at most one of column, row and layer
pub record IsRun (g : Shape) (run : Run) : Type 0 where
  pub from : run.from < cells_of g
  pub to : run.to < cells_of g
  pub straight : IsTrue (is_straight (place_at g run.from) (place_at g run.to))

-- each run is one of the grid's
abbrev pub IsSolution : SolutionView → Type 0
IsSolution s = All (All (IsRun s.shape)) s.runs

-- the solution is of the design's grid, and has a list of runs for each of its nets
pub record IsOf (d : DesignView) (s : SolutionView) : Type 0 where
  pub shape : s.shape ≡ d.frame.shape
  pub nets : length s.runs ≡ length d.nets
