use Rattle.book_state.specs.Replicas.{tree_at_place, place_of}
use Rattle.book_state.proofs.RouteCopies.{AreCopied}
use Rattle.book_state.proofs.copies.copied_routes.Given as goal

abbrev pub invariant-loop-net : goal.invariant-loop-net
invariant-loop-net l = AreCopied (λ net. tree_at_place l.history (place_of l.places net)) l.net l.nets l.routes
