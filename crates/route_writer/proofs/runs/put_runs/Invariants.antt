use Rattle.std.proofs.Common.{◌≡◌, ◌++◌, take}
use Rattle.std.specs.List.{flat_map}
use Rattle.solution_text.specs.WrittenText.{segment_line}
use Rattle.route_writer.proofs.runs.put_runs.Given as goal

abbrev pub invariant-loop-run : goal.invariant-loop-run
invariant-loop-run l = l.text ≡ l.fn.text ++ flat_map (segment_line l.design.frame) (take l.run-index l.runs)
