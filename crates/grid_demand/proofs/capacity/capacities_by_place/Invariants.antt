use Rattle.std.proofs.Common.{◌≡◌, map, take}
use Rattle.gr_base.specs.Capacities.{capacity_by}
use Rattle.gr_base.specs.Sums.{wires_from_cells}
use Rattle.grid_demand.specs.Planes.{by_number}
use Rattle.grid_demand.proofs.capacity.capacities_by_place.Given as goal

abbrev pub invariant-loop-at : goal.invariant-loop-at
invariant-loop-at l =
    by_number 0 l.capacities.items ≡ map (capacity_by l.design.frame (take l.at l.design.adjustments)) (wires_from_cells l.design.frame.shape)
