-- How a solution stores its runs.
use Rattle.std.specs.Prelude.{ℕ, ◌-◌, ◌≤◌, List, All, length, map, take, drop}
use Rattle.gr_base.specs.declared.grid.Shape.{Shape}
use Rattle.solution_text.specs.declared.run.Run.{Run}
use Rattle.route_reader.specs.Solutions.{IsRun}
use Rattle.route_reader.specs.declared.solution.Stretch.{Stretch}

-- the runs between two places of the list
abbrev pub runs_between : List Run → Stretch → List Run
runs_between runs stretch = take (stretch.end - stretch.start) (drop stretch.start runs)

-- the stretch lies within a list of so many runs
pub record IsStretch (count : ℕ) (stretch : Stretch) : Type 0 where
  pub ordered : stretch.start ≤ stretch.end
  pub inside : stretch.end ≤ count

-- each stretch lies within the list, and each run is one of the grid's
pub record Keeps (shape : Shape) (runs : List Run) (stretches : List Stretch) : Type 0 where
  pub within : All (IsStretch (length runs)) stretches
  pub each : All (All (IsRun shape)) (map (runs_between runs) stretches)
