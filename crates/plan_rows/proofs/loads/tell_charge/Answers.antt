use Rattle.std.proofs.Common.{◌≤◌, ◌^◌, slice_index, sym, subst, arith}
use Rattle.gr_base.specs.Sums.{wire_number}
use Rattle.grid_demand.specs.LoadSums.{LoadsView, demand_at, no_loads}
use Rattle.grid_demand.proofs.LoadLemmas.{index-most}
use Rattle.grid_demand.proofs.OperationLemmas.{below-none}
use Rattle.plan_rows.proofs.loads.tell_charge.Goals as goal

pub charge-requires-clause-room : goal.charge-requires-clause-room
charge-requires-clause-room g c =
    let shape = c.args.capacity.now.shape in
    let at = wire_number c.args.e in
    let P : LoadsView → Type 0 = λ l. demand_at l c.args.e ≤ 2 ^ 47 in
    let none : slice_index (no_loads shape).demands at ≤ 0 = index-most 0 (no_loads shape).demands at (below-none shape) in
    subst P (sym c.in_ok-loads.ensures) (omega (arith, none))
