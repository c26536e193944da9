use Rattle.std.proofs.Common.{rules, ◌≡◌, ℕ, List, map, replicate, ap, ◌∙◌}
use Rattle.book_state.specs.PlaceStore.{told}
use Rattle.book_state.proofs.PlaceSteps.{told-none}
use Rattle.book_state.proofs.places.Places.none.Goals as goal

pub returns : goal.returns
returns c =
    let none : c.in_ok-vec.field-0.items ≡ replicate c.args.nets 0 = c.in_ok-vec.ensures.items_if_clones_equal (λ y. search rules) in
    ap (λ (fronts : List ℕ). map told fronts) none ∙ told-none c.args.nets
