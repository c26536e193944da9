use Rattle.std.proofs.Common.{sym, subst}
use Rattle.grid_demand.specs.LoadSums.{LoadsView, HasShare, no_loads}
use Rattle.grid_demand.proofs.OperationLemmas.{share-added}
use Rattle.plan_rows.proofs.loads.tell_added.Goals as goal

pub take-requires-clause-share : goal.take-requires-clause-share
take-requires-clause-share g c =
    let v = c.args.capacity.now in
    let t = c.args.tree.now in
    let P : LoadsView → Type 0 = λ l. HasShare v 0 t l in
    subst P (sym c.in_ok-loads.ensures.loads) (share-added v 0 t (no_loads v.shape) c.in_ok-loads.ensures.tree c.requires.tree)
