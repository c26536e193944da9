use Rattle.std.proofs.Common.{◌≡◌, ◌*◌, ◌++◌}
use Rattle.grid_demand.specs.Tables.{stated_along_way}
use Rattle.grid_demand.proofs.capacity.push_plane.Given as goal

abbrev pub invariant-loop-layer : goal.invariant-loop-layer
invariant-loop-layer l =
    l.capacities.items ≡ l.fn.capacities.items ++ stated_along_way l.frame l.way (l.layer * (l.frame.shape.columns * l.frame.shape.rows))
