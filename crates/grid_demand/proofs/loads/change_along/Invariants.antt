use Rattle.std.proofs.Common.{◌≡◌}
use Rattle.grid_demand.specs.LayerNeeds.{IsLayerNeed}
use Rattle.grid_demand.specs.LoadSums.{changed_by}
use Rattle.grid_demand.specs.Planes.{by_number}
use Rattle.grid_demand.specs.Tables.{need_at}
use Rattle.grid_demand.proofs.LoadSteps.{changed}
use Rattle.grid_demand.proofs.TreeTimes.{edges_before}
use Rattle.grid_demand.proofs.loads.change_along.Given as goal

-- the demands so far, and what the net takes on the layer of the last edge
abbrev pub invariant-loop-node : goal.invariant-loop-node
invariant-loop-node l =
    (by_number 0 l.demands ≡ changed l.tree.shape (changed_by l.change) (by_number 0 l.fn.demands) (need_at l.capacity l.net) (edges_before l.tree l.node)) × IsLayerNeed l.capacity l.width l.layer
