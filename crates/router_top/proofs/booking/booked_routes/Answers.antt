use Rattle.std.proofs.Common.{◌≡◌, take, subst}
use Rattle.book_state.specs.Books.{booked_routes}
use Rattle.book_state.specs.Views.{BookView}
use Rattle.router_top.proofs.RouteLemmas.{routes-booked}
use Rattle.router_top.proofs.booking.booked_routes.Goals as goal

pub returns : goal.returns
returns g c =
    let d = c.args.request.now.design.now in
    let made = c.in_ok-rounds.ensures in
    let rounds = c.in_ok-rounds.rounds in
    let h = take rounds.chosen rounds.book.state.history in
    let trees = c.in_ok-routes.routes in
    let are = subst (λ (b : BookView). trees ≡ booked_routes b.capacity (take rounds.chosen b.history)) c.state-book.ensures c.in_ok-routes.ensures in
    record {
      rounds = made;
      booked = routes-booked d rounds.book.state.capacity h trees made.made.capacity made.stands are;
    }
