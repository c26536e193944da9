use Rattle.std.proofs.Common.{◌≡◌, length, take}
use Rattle.book_state.specs.Replicas.{ArePlaces}
use Rattle.book_state.proofs.places.places_at.Given as goal

abbrev pub invariant-loop-place : goal.invariant-loop-place
invariant-loop-place l = (length l.places ≡ l.nets) × ArePlaces (take l.place l.history) l.places
