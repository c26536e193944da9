use Rattle.std.proofs.Common.{◌≡◌, ℕ, List, Option, sym, ap, subst, ◌∙◌}
use Rattle.gr_base.specs.declared.grid.Shape.{Shape}
use Rattle.book_state.specs.Crowds.{IsCalm}
use Rattle.book_state.specs.Extents.{IsExtent}
use Rattle.book_state.specs.PlaceStore.{told}
use Rattle.book_state.specs.Replicas.{place_of}
use Rattle.book_state.specs.declared.extents.Extent.{Extent}
use Rattle.book_state.proofs.ExtentSteps.{calm-net}
use Rattle.book_state.proofs.extents.look.Goals as goal
use Rattle.book_state.proofs.extents.look.Goals.{then-extent-front, else-extent-front}

pub returns-else-meets-clause-victim : goal.returns-else-meets-clause-victim
returns-else-meets-clause-victim c =
    let capacity = c.args.capacity.now in
    let h = c.args.history.now in
    let r = c.args.replica.now in
    let net = c.args.net in
    let x = c.if-extent-front.extent in
    let at : told c.front.result ≡ place_of r.places net = c.front.ensures ∙ ap (λ (places : List (Option ℕ)). place_of places net) c.places.ensures in
    let seen : IsExtent capacity.shape h x × (told x.front ≡ place_of r.places net) = elim c.if-extent-front.branch [
      | then-extent-front w ↦ (
        subst (IsExtent capacity.shape h) (sym w.extent-is) w.extent_of.ensures.extent,
        ap (λ (y : Extent). told y.front) w.extent-is ∙ w.extent_of.ensures.place,
      )
      | else-extent-front w ↦ (
        subst (IsExtent capacity.shape h) (sym w.extent-is) c.requires.extent,
        ap (λ (y : Extent). told y.front) w.extent-is ∙ ap told w.if-extent-front.false ∙ at,
      )
    ] in
    let calm = c.meets.ensures capacity r.loads c.requires.crowds c.if-meets.false in
    c.if-meets.false
    ∙ calm-net capacity h r c.args.crowds.now.over x net c.requires.legal c.requires.stands c.requires.crowds.over seen.0 seen.1
    (subst (λ (g : Shape). IsCalm g c.args.crowds.now.over.table x.window) c.requires.crowds.shape calm)
