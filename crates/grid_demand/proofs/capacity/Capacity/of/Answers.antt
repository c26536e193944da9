use Rattle.grid_demand.specs.Planes.{by_number}
use Rattle.grid_demand.proofs.CapacityLemmas.{tables-like}
use Rattle.grid_demand.proofs.capacity.Capacity.of.Goals as goal

pub invariant_of-result : goal.invariant_of-result
invariant_of-result c = record {
  tables =
      tables-like c.args.design.now c.frame-frame.result.now c.in_ok-widths_by_net.field-0.items (by_number 0 c.in_ok-capacities_by_place.field-0.items)
      c.frame-frame.ensures.design c.frame-frame.ensures.frame c.in_ok-widths_by_net.ensures c.in_ok-capacities_by_place.ensures;
  cells = c.in_ok-layers_by_cell.ensures;
}
