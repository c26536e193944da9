use Rattle.std.proofs.Common.{take, ◌∙◌, arith}
use Rattle.gr_base.specs.Capacities.{capacity_by}
use Rattle.gr_base.specs.Grid.{cells_of}
use Rattle.gr_base.specs.Sums.{wire_number}
use Rattle.grid_demand.proofs.CapacityLemmas.{adjusted-place, adjusted-table, adjustment-in}
use Rattle.grid_demand.proofs.PlaneLemmas.{written-at}
use Rattle.grid_demand.proofs.capacity.capacities_by_place.Goals as goal

pub index_mut-requires : goal.index_mut-requires
index_mut-requires c =
    let d = c.args.design.now in
    let a = c.adjustment-adjustment.result in
    let is = adjustment-in d.frame.shape d.adjustments c.loop-at.at a c.adjustment-adjustment.ensures.design.adjustments c.adjustment-adjustment.ensures.adjustment in
    let here = adjusted-place d.frame.shape (capacity_by d.frame (take c.loop-at.at d.adjustments)) c.loop-at.capacities.items c.len.result a.edge c.place-wire.result
    c.loop-at.invariant is.edge (omega (arith, c.len.ensures, c.loop-at.capacities.ok.0)) c.place-wire.ensures in
    omega (arith, here.1.below, c.loop-at.capacities.ok.0)

pub loop-at-preserved : goal.loop-at-preserved
loop-at-preserved c =
    let d = c.args.design.now in
    let a = c.adjustment-adjustment.result in
    let is = adjustment-in d.frame.shape d.adjustments c.loop-at.at a c.adjustment-adjustment.ensures.design.adjustments c.adjustment-adjustment.ensures.adjustment in
    let here = adjusted-place d.frame.shape (capacity_by d.frame (take c.loop-at.at d.adjustments)) c.loop-at.capacities.items c.len.result a.edge c.place-wire.result
    c.loop-at.invariant is.edge (omega (arith, c.len.ensures, c.loop-at.capacities.ok.0)) c.place-wire.ensures in
    written-at c.loop-at.capacities.items (cells_of d.frame.shape) (wire_number a.edge) c.place-wire.result a.capacity here.0 here.1
    ∙ adjusted-table d.frame d.adjustments c.loop-at.at a _ c.adjustment-adjustment.ensures.adjustment is.edge is.wire c.loop-at.invariant
