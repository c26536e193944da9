use Rattle.std.proofs.Common.{◌≡◌, ◌-◌, ◌<◌, ◌≤◌, ◌++◌, length, IsTrue}
use Rattle.route_writer.specs.RouteTexts.{nets_text}
use Rattle.route_writer.proofs.write_by.write_solution_by.Given as goal

abbrev pub invariant-loop-from : goal.invariant-loop-from
invariant-loop-from g l = record {
  count : length l.blocks.items ≡ l.fn.workers;
  some : 0 < l.size;
  most : l.size ≤ 65536;
  within : l.from ≤ length l.design.nets;
  quiet : g.K.Sink.faults l.sink ≡ g.K.Sink.faults l.fn.sink;
  text : IsTrue g.K.Sink.tells → g.K.Sink.written l.sink ≡ g.K.Sink.written l.fn.sink ++ nets_text l.design l.routes 0 l.from;
}

abbrev pub decreases-loop-from : goal.decreases-loop-from
decreases-loop-from g l = length l.design.nets - l.from
