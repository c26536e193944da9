use Rattle.std.proofs.Common.{ℕ, List, Option, None, slice_set, ap, ◌∙◌}
use Rattle.std.proofs.lemmas.List.{map-set}
use Rattle.book_state.specs.PlaceStore.{told}
use Rattle.book_state.proofs.places.Places.clear.Goals as goal

pub returns : goal.returns
returns c =
    map-set told c.self.inside.fronts.items c.args.net 0
    ∙ ap (λ (places : List (Option ℕ)). slice_set places c.args.net None) c.self.view_is
