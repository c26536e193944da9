use Rattle.std.proofs.Common.{None, length, ap, ◌∙◌}
use Rattle.std.proofs.lemmas.List.{length-replicate}
use Rattle.book_state.proofs.PlaceSteps.{places-none}
use Rattle.book_state.proofs.places.places_at.Goals as goal

pub loop-place-init : goal.loop-place-init
loop-place-init c =
    let places = c.in_ok-places.places in
    let none = c.in_ok-places.ensures in
    (ap length none ∙ length-replicate c.args.nets None, places-none c.args.nets places none)
