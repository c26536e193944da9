use Rattle.std.proofs.Common.{◌∙◌, sym}
use Rattle.book_state.specs.Books.{is_victim}
use Rattle.grid_demand.proofs.RangeFilters.{filter-passes, filter-fails}
use Rattle.book_state.proofs.replica.Replica.victims.Goals as goal
use Rattle.book_state.proofs.replica.Replica.victims.Goals.{then-is_victim+in_ok-push, else-is_victim}

pub loop-net-preserved : goal.loop-net-preserved
loop-net-preserved c =
    let p = is_victim c.args.capacity.now c.args.history.now in
    elim c.if-is_victim.branch [
      | then-is_victim+in_ok-push w ↦
          filter-passes p c.loop-net.net c.loop-net.nets c.if-is_victim.nets c.loop-net.invariant (sym c.is_victim.ensures ∙ w.if-is_victim.true) (w.nets-is ∙ w.in_ok-push.ensures.ok)
      | else-is_victim w ↦ w.nets-is ∙ filter-fails p c.loop-net.net c.loop-net.nets c.loop-net.invariant (sym c.is_victim.ensures ∙ w.if-is_victim.false)
    ]
