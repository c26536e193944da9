use Rattle.std.proofs.Common.{◌≡◌, ◌++◌, map, take}
use Rattle.std.specs.List.{filter}
use Rattle.solution_text.specs.Runs.{begins, run_from}
use Rattle.straight_runs.specs.Lows.{edges_from}
use Rattle.straight_runs.proofs.runs.push_runs.Given as goal

abbrev pub invariant-loop-low : goal.invariant-loop-low
invariant-loop-low l =
    l.runs.items ≡ l.fn.runs.items ++ map (run_from l.shape (edges_from l.way l.lows) l.way) (filter (begins l.shape (edges_from l.way l.lows) l.way) (take l.low-index l.lows))
