use Rattle.std.proofs.Common.{lit≤, sym, subst}
use Rattle.grid_demand.specs.LoadSums.{LoadsView, HasRoom, no_loads}
use Rattle.grid_demand.proofs.OperationLemmas.{room-below, below-none}
use Rattle.plan_rows.proofs.loads.marked_loads.Goals as goal

pub add-requires-clause-room : goal.add-requires-clause-room
add-requires-clause-room c =
    let P : LoadsView → Type 0 = λ l. HasRoom l c.args.tree.now in
    subst P (sym c.in_ok-loads.ensures) (room-below 0 c.args.tree.now (no_loads c.args.capacity.now.shape) (lit≤ tt) (below-none c.args.capacity.now.shape))
