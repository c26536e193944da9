use Rattle.std.proofs.Common.{◌≡◌}
use Rattle.layer_assign.specs.Spans.{span_at}
use Rattle.layer_assign.specs.Tables.{AreWires}
use Rattle.layer_assign.proofs.Choosing.{Choosing, numbered_below}
use Rattle.layer_assign.proofs.choices.choose_by_span.Given as goal

abbrev pub invariant-loop : goal.invariant-loop
invariant-loop g l = record {
  next : l.next ≡ span_at l.shape.layers l.counter;
  so_far : Choosing l.shape (g.C.Costs.ways l.costs) (g.C.Costs.price l.costs) l.flat l.node l.fn.base l.fn.above l.fn.least.items l.fn.choices.items
      l.least.items l.choices.items (numbered_below l.shape.layers l.counter);
  wires : AreWires l.shape (g.C.Costs.price l.costs) l.workings.limb.edge l.wires;
}
