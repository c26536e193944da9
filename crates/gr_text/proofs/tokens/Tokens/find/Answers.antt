use Rattle.std.proofs.Common.{◌≡◌, ◌++◌, ap, ◌∙◌, true, false, Ok}
use Rattle.std.proofs.lemmas.Result.{err_from_is_err_and}
use Rattle.gr_text.specs.Streams.{Stream}
use Rattle.gr_text.proofs.FindLemmas.{find-next, find-little, find-cut, find-end, find-past, taken-at, word-cut, blanks-cut, blanks-end}
use Rattle.gr_text.proofs.tokens.Tokens.find.Goals as goal

pub returns-in_err-more-clause-token : goal.returns-in_err-more-clause-token
returns-in_err-more-clause-token g c =
    λ told.
    let p = err_from_is_err_and c.from_residual.result c.from_residual.ensures.1 in
    rw (p.1, p.2)
    (find-past c.args.self.now c.seek.new.self _ _ c.in_err-more.field-0.0 _ _
    (rw c.in_err-more.was at (c.seek.ensures.skipped told))
    (rw c.in_err-more.was at c.seek.ensures.sought))

pub returns-then-not-more-clause-token : goal.returns-then-not-more-clause-token
returns-then-not-more-clause-token g c =
    λ told.
    let gives : c.seek.result ≡ Ok false = c.in_ok-more.was ∙ ap Ok c.if-not-more.true in
    let sought = rw gives at c.seek.ensures.sought in
    find-end c.args.self.now c.seek.new.self _ _ (rw gives at (c.seek.ensures.skipped told)) (ap (λ (s : Stream). s.number) sought)

pub returns-in_err-take_word-clause-token : goal.returns-in_err-take_word-clause-token
returns-in_err-take_word-clause-token g c =
    λ told.
    let gives : c.seek.result ≡ Ok true = c.in_ok-more.was ∙ ap Ok c.if-not-more.false in
    let p = err_from_is_err_and c.from_residual-in_err-take_word.result c.from_residual-in_err-take_word.ensures.1 in
    rw (p.1, p.2)
    (find-cut c.args.self.now c.seek.new.self c.take_word.new.self
    (c.args.self.now.pending ++ g.S.Shelf.left c.args.shelf.now c.args.self.now.slot)
    (c.seek.new.self.pending ++ g.S.Shelf.left c.seek.new.shelf c.args.self.now.slot)
    (g.S.Shelf.left c.take_word.new.shelf c.args.self.now.slot) c.in_err-take_word.field-0.0 _ _
    (rw gives at (c.seek.ensures.skipped told))
    (rw gives at c.seek.ensures.sought)
    c.in_err-take_word.ensures.counted
    (taken-at c.seek.new.self c.take_word.new.self (g.S.Shelf.left c.seek.new.shelf) (g.S.Shelf.left c.take_word.new.shelf) _ _ _ c.seek.ensures.slot (c.in_err-take_word.ensures.token told)))

pub returns-clause-token : goal.returns-clause-token
returns-clause-token g c =
    λ told.
    let gives : c.seek.result ≡ Ok true = c.in_ok-more.was ∙ ap Ok c.if-not-more.false in
    find-next c.args.self.now c.seek.new.self c.take_word.new.self _ _ _
    (rw gives at (c.seek.ensures.skipped told))
    (rw gives at c.seek.ensures.sought)
    (rw (c.in_ok-take_word.was, c.seek.ensures.slot) at (c.take_word.ensures.token told))

pub returns-clause-little : goal.returns-clause-little
returns-clause-little g c =
    λ told is.
    let gives : c.seek.result ≡ Ok true = c.in_ok-more.was ∙ ap Ok c.if-not-more.false in
    find-little c.args.self.now c.seek.new.self c.take_word.new.self _ _ _
    (rw gives at (c.seek.ensures.skipped told))
    (rw (c.in_ok-take_word.was, c.seek.ensures.slot) at (c.take_word.ensures.token told))

pub returns-in_err-more-clause-on : goal.returns-in_err-more-clause-on
returns-in_err-more-clause-on g c =
    λ told.
    let p = err_from_is_err_and c.from_residual.result c.from_residual.ensures.1 in
    rw (p.1, p.2)
    (blanks-cut _ _ c.seek.new.self _ c.in_err-more.field-0.0 (rw c.in_err-more.was at c.seek.ensures.few) (rw c.in_err-more.was at (c.seek.ensures.skipped told)))

pub returns-then-not-more-clause-on : goal.returns-then-not-more-clause-on
returns-then-not-more-clause-on g c =
    λ told.
    let gives : c.seek.result ≡ Ok false = c.in_ok-more.was ∙ ap Ok c.if-not-more.true in
    let skipped = rw gives at (c.seek.ensures.skipped told) in
    blanks-end c.args.self.now c.seek.new.self _ _ (rw gives at c.seek.ensures.sought) skipped

pub returns-in_err-take_word-clause-on : goal.returns-in_err-take_word-clause-on
returns-in_err-take_word-clause-on g c =
    λ told.
    let gives : c.seek.result ≡ Ok true = c.in_ok-more.was ∙ ap Ok c.if-not-more.false in
    let p = err_from_is_err_and c.from_residual-in_err-take_word.result c.from_residual-in_err-take_word.ensures.1 in
    rw (p.1, p.2)
    (word-cut _ _ _ _ c.take_word.new.self _ _ _ c.in_err-take_word.field-0.0
    (rw gives at (c.seek.ensures.skipped told))
    (taken-at c.seek.new.self c.take_word.new.self (g.S.Shelf.left c.seek.new.shelf) (g.S.Shelf.left c.take_word.new.shelf) _ _ _ c.seek.ensures.slot (c.in_err-take_word.ensures.token told)))
