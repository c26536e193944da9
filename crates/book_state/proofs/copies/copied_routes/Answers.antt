use Rattle.std.proofs.Common.{arith}
use Rattle.book_state.specs.Replicas.{tree_at_place, place_of}
use Rattle.book_state.proofs.RouteCopies.{copied-all}
use Rattle.book_state.proofs.copies.copied_routes.Goals as goal

pub returns : goal.returns
returns c =
    copied-all (λ net. tree_at_place c.args.history.now (place_of c.args.places.now net)) c.loop-net.net c.args.nets c.loop-net.routes
    (omega (arith, c.loop-net-test.false)) c.loop-net.invariant
