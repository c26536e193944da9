use Rattle.std.proofs.Common.{◌∙◌, ap, subst, sym, Ok, ℕ, List, ◌++◌}
use Rattle.gr_text.specs.Streams.{Stream, place_of}
use Rattle.gr_text.specs.Steps.{IsNext}
use Rattle.gr_text.proofs.ReadingLemmas.{advanced-next}
use Rattle.gr_text.proofs.TokenLemmas.{place-number}
use Rattle.gr_text.proofs.tokens.Tokens.next.Goals as goal

pub returns-clause-token : goal.returns-clause-token
returns-clause-token g c =
    λ told.
    let before = place_of c.args.self.now (g.S.Shelf.left c.args.shelf.now c.args.self.now.slot) in
    let left = g.S.Shelf.left c.advance.new.shelf c.args.self.now.slot in
    let after = place_of c.advance.new.self left in
    let step = advanced-next before c.advance.result c.advance.new.self.word after (c.in_ok-found.was ∙ ap Ok c.if-not-found.false)
    (c.advance.ensures.token told) in
    let text = c.in-Ok.ensures ∙ c.word.ensures in
    let P : List ℕ → Type 0 = λ word. IsNext before word after in (
      subst P (sym text) step,
      ap (λ (s : Stream). s.number) c.self.view_is ∙
          sym (place-number c.advance.new.self.room c.advance.new.self.number (c.advance.new.self.pending ++ left)),
    )
