use Rattle.std.proofs.Common.{◌≡◌}
use Rattle.gr_base.specs.Designs.{DesignView}
use Rattle.grid_demand.specs.Tables.{capacity_of}
use Rattle.kept_routes.proofs.UsableLemmas.{AreUsableBefore}
use Rattle.kept_routes.proofs.usable.has_usable_wires.Given as goal

abbrev pub invariant-loop-node : goal.invariant-loop-node
invariant-loop-node l = (d : DesignView) → l.capacity ≡ capacity_of d → AreUsableBefore d l.tree l.node
