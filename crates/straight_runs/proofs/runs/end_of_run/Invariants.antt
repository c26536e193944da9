use Rattle.std.proofs.Common.{◌≡◌, ◌<◌, ◌-◌}
use Rattle.gr_base.specs.Grid.{cells_of}
use Rattle.solution_text.specs.Runs.{reach}
use Rattle.straight_runs.specs.Lows.{edges_from}
use Rattle.straight_runs.proofs.runs.end_of_run.Given as goal

abbrev pub invariant-loop-shape : goal.invariant-loop-shape
invariant-loop-shape l = record {
  same : reach l.shape (edges_from l.way l.lows) l.way (cells_of l.shape) l.end ≡ reach l.shape (edges_from l.way l.lows) l.way (cells_of l.shape) l.low;
  inside : l.end < cells_of l.shape;
}

abbrev pub decreases-loop-shape : goal.decreases-loop-shape
decreases-loop-shape l = cells_of l.shape - l.end
