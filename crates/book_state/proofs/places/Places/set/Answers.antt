use Rattle.std.proofs.Common.{ℕ, ◌+◌, List, Option, Some, map, slice_set, ap, ◌∙◌}
use Rattle.std.proofs.lemmas.List.{map-set}
use Rattle.book_state.specs.PlaceStore.{told}
use Rattle.book_state.proofs.PlaceSteps.{told-next}
use Rattle.book_state.proofs.places.Places.set.Goals as goal

pub returns : goal.returns
returns c =
    let fronts = c.self.inside.fronts.items in
    map-set told fronts c.args.net (c.args.place + 1)
    ∙ ap (λ (place : Option ℕ). slice_set (map told fronts) c.args.net place) (told-next c.args.place)
    ∙ ap (λ (places : List (Option ℕ)). slice_set places c.args.net (Some c.args.place)) c.self.view_is
