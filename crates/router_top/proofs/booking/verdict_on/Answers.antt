use Rattle.std.proofs.Common.{◌≡◌, List, length, take, sym, ap, subst, ◌∙◌}
use Rattle.std.proofs.Math.Seq.{take-length}
use Rattle.book_state.specs.Books.{AreLoadsOf}
use Rattle.book_state.specs.Views.{BookView}
use Rattle.book_state.specs.declared.entry.Entry.{Entry}
use Rattle.router_top.proofs.RouteLemmas.{loads-booked, routes-routed}
use Rattle.router_top.proofs.booking.verdict_on.Goals as goal

pub evaluate_routes-requires-clause-loads : goal.evaluate_routes-requires-clause-loads
evaluate_routes-requires-clause-loads c =
    let r = c.args.booked.now in
    let l = c.loads.result.now in
    let h : List Entry = r.rounds.book.state.history in
    let at : r.rounds.chosen ≡ length h =
    c.if-front-len.true ∙ c.len.ensures.len ∙ ap length c.history.ensures.history ∙ ap (λ (b : BookView). length b.history) c.state-book.ensures in
    let whole : take r.rounds.chosen h ≡ h = ap (λ n. take n h) at ∙ take-length h in
    loads-booked c.args.design.now c.requires.booked.0 c.args.options r l c.requires.booked.1
    (subst (λ (es : List Entry). AreLoadsOf r.rounds.book.state.capacity es l) (sym whole)
    (subst (λ (b : BookView). AreLoadsOf b.capacity b.history l) c.state-book.ensures c.loads.ensures.loads))

pub evaluate_routes-requires-clause-routes : goal.evaluate_routes-requires-clause-routes
evaluate_routes-requires-clause-routes c =
    let r = c.args.booked.now in
    let are = c.requires.booked.1 in
    routes-routed c.args.design.now (take r.rounds.chosen r.rounds.book.state.history) r.routes are.rounds.stands are.booked

pub evaluate_routes-requires-2-clause-loads : goal.evaluate_routes-requires-2-clause-loads
evaluate_routes-requires-2-clause-loads c =
    let r = c.args.booked.now in
    let l = c.in_ok-loads.loads in
    loads-booked c.args.design.now c.requires.booked.0 c.args.options r l c.requires.booked.1
    (subst (λ (b : BookView). AreLoadsOf b.capacity (take r.rounds.chosen b.history) l) c.state-book.ensures c.in_ok-loads.ensures)

pub evaluate_routes-requires-2-clause-routes : goal.evaluate_routes-requires-2-clause-routes
evaluate_routes-requires-2-clause-routes c =
    let r = c.args.booked.now in
    let are = c.requires.booked.1 in
    routes-routed c.args.design.now (take r.rounds.chosen r.rounds.book.state.history) r.routes are.rounds.stands are.booked
