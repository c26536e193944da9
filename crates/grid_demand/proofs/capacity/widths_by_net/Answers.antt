use Rattle.std.proofs.Common.{◌∙◌}
use Rattle.grid_demand.proofs.CapacityLemmas.{widths-more}
use Rattle.grid_demand.proofs.capacity.widths_by_net.Goals as goal

pub loop-net-preserved : goal.loop-net-preserved
loop-net-preserved c =
    c.in_ok-push.ensures.items
    ∙ widths-more c.args.design.now.nets c.loop-net.net c.net.result.now c.loop-net.widths.items c.net.ensures.net c.loop-net.invariant
