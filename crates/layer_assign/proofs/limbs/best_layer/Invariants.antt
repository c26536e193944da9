use Rattle.std.proofs.Common.{◌≡◌}
use Rattle.layer_assign.specs.Tables.{AreWires, priced, offer, best_below}
use Rattle.layer_assign.proofs.limbs.best_layer.Given as goal

abbrev pub invariant-loop-layer : goal.invariant-loop-layer
invariant-loop-layer g l = record {
  best : l.best ≡ best_below (offer l.shape (priced l.shape (g.C.Costs.price l.costs) l.limb) l.least l.parent l.span) l.layer;
  wires : AreWires l.shape (g.C.Costs.price l.costs) l.limb.edge l.wires;
}
