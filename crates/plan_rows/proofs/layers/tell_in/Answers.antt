use Rattle.std.proofs.Common.{true}
use Rattle.layer_assign.proofs.FlatLemmas.{open_layers}
use Rattle.net_plan.proofs.PlanLemmas.{are-layers}
use Rattle.plan_rows.proofs.layers.tell_in.Goals as goal

pub assign-requires-clause-layers : goal.assign-requires-clause-layers
assign-requires-clause-layers g c = open_layers c.args.costs.now.shape c.args.flat.now c.requires.tree

pub raise-requires-clause-layers : goal.raise-requires-clause-layers
raise-requires-clause-layers g c =
    are-layers c.args.costs.now.shape (λ _ _. true) c.args.flat.now c.in_ok-layers.layers c.in_ok-layers.ensures.nodes c.in_ok-layers.ensures.assignment
