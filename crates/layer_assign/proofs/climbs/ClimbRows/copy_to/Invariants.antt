use Rattle.std.proofs.Common.{◌-◌, ◌≤◌}
use Rattle.layer_assign.specs.Tables.{AreClimbs}
use Rattle.layer_assign.proofs.climbs.ClimbRows.copy_to.Given as goal

abbrev pub invariant-loop-done : goal.invariant-loop-done
invariant-loop-done l = record {
  most : l.done ≤ l.nodes;
  climbs : AreClimbs l.self.shape.layers l.done l.costs.items;
}

abbrev pub decreases-loop-done : goal.decreases-loop-done
decreases-loop-done l = l.nodes - l.done
