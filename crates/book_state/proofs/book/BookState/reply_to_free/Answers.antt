use Rattle.std.proofs.Common.{sym, ap, subst, ◌∙◌}
use Rattle.std.specs.Arc.{arc_value}
use Rattle.grid_demand.specs.LoadSums.{LoadsView, demand_at}
use Rattle.grid_demand.specs.Tables.{CapacityView}
use Rattle.book_state.specs.Books.{demand, reply_to_free, AreLoadsOf}
use Rattle.book_state.specs.Views.{BookView}
use Rattle.book_state.proofs.Replies.{reply-same}
use Rattle.book_state.proofs.book.BookState.reply_to_free.Goals as goal

pub returns : goal.returns
returns c =
    let s = c.self.inside in
    let claim = c.args.claim.now in
    let of = subst (λ (l : LoadsView). AreLoadsOf (arc_value s.capacity) s.history l) (sym c.loads.ensures) c.self.invariant.stands.loads in
    c.reply_to_free.ensures.reply
    ∙ ap (λ (capacity : CapacityView). reply_to_free capacity (demand_at c.loads.result.now) claim claim.slack) c.deref.ensures
    ∙ reply-same (arc_value s.capacity) s.history c.loads.result.now claim claim.slack of c.reply_to_free.ensures.tree
    (c.requires.shape ∙ sym (ap (λ (b : BookView). b.capacity.shape) c.self.view_is))
    ∙ ap (λ (b : BookView). reply_to_free b.capacity (demand b.capacity b.history) claim claim.slack) c.self.view_is
