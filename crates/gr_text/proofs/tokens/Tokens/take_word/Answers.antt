use Rattle.std.proofs.Common.{◌≡◌, ap, ◌∙◌, true, false, Ok}
use Rattle.std.proofs.lemmas.Result.{err_from_is_err_and}
use Rattle.gr_io.proofs.ShelfLemmas.{keeps-then}
use Rattle.gr_text.specs.Streams.{Stream}
use Rattle.gr_text.proofs.TakeLemmas.{token-word, part-more, some-more, bytes-more, grown-spent, closed-ahead, token-closed, token-ended, token-fails, part-refilled, some-refilled, bytes-refilled, part-keeps, counted-end, counted-closed}
use Rattle.gr_text.proofs.tokens.Tokens.take_word.Goals as goal

pub returns-in_err-more-clause-token : goal.returns-in_err-more-clause-token
returns-in_err-more-clause-token g c =
    λ told.
    let p = err_from_is_err_and c.from_residual-in_err-more.result c.from_residual-in_err-more.ensures.1 in
    let grew = c.in_ok-take_part.ensures.grown in
    let spent = rw c.if-not-branch.true at grew in
    let slot = ap (λ (s : Stream). s.slot) grew.is ∙ ap (λ (s : Stream). s.slot) c.parts.invariant.is in
    rw (p.1, p.2)
    (token-fails _ _ _ c.take_part.new.self c.more.new.self (g.S.Shelf.left c.parts.shelf c.args.self.now.slot) _ c.in_err-more.field-0.0
    (part-more _ c.parts.self c.take_part.new.self _ c.parts.invariant.part grew)
    (grown-spent c.parts.self c.take_part.new.self spent)
    (c.parts.invariant.bytes told ∙ bytes-more c.parts.self c.take_part.new.self _ _ grew)
    c.take_part.ensures.few
    (rw c.in_err-more.was at c.more.ensures.refilled)
    (rw (c.in_err-more.was, slot) at (c.more.ensures.left told)))

pub returns-then-not-branch-2-clause-token : goal.returns-then-not-branch-2-clause-token
returns-then-not-branch-2-clause-token g c =
    λ told.
    let grew = c.in_ok-take_part.ensures.grown in
    let gives : c.more.result ≡ Ok false = c.in_ok-more.was ∙ ap Ok c.if-not-branch-2.true in
    let slot = ap (λ (s : Stream). s.slot) grew.is ∙ ap (λ (s : Stream). s.slot) c.parts.invariant.is in
    let numbered = ap (λ (s : Stream). s.number) grew.is ∙ ap (λ (s : Stream). s.number) c.parts.invariant.is in
    let refilled = rw gives at c.more.ensures.refilled in
    let leaves = rw (gives, slot) at (c.more.ensures.left told) in
    token-ended _ _ _ c.take_part.new.self c.count.new.self (g.S.Shelf.left c.parts.shelf c.args.self.now.slot) _ numbered
    (part-more _ c.parts.self c.take_part.new.self _ c.parts.invariant.part grew)
    (some-more c.parts.self c.take_part.new.self _ c.parts.invariant.some grew)
    refilled.0 leaves.0 leaves.1
    (c.parts.invariant.bytes told ∙ bytes-more c.parts.self c.take_part.new.self _ _ grew)
    (counted-end c.args.self.now.number c.take_part.new.self c.more.new.self c.count.new.self numbered refilled.1 c.count.ensures)

pub parts-preserved : goal.parts-preserved
parts-preserved g c =
    let grew = c.in_ok-take_part.ensures.grown in
    let gives : c.more.result ≡ Ok true = c.in_ok-more.was ∙ ap Ok c.if-not-branch-2.false in
    let slot = ap (λ (s : Stream). s.slot) grew.is ∙ ap (λ (s : Stream). s.slot) c.parts.invariant.is in
    let refilled = rw gives at c.more.ensures.refilled in
    record {
      is = part-keeps c.args.self.now c.parts.self c.take_part.new.self c.more.new.self _ c.parts.invariant.is grew refilled;
      part = part-refilled _ c.take_part.new.self c.more.new.self (part-more _ c.parts.self c.take_part.new.self _ c.parts.invariant.part grew) refilled;
      some = some-refilled c.take_part.new.self c.more.new.self _ (some-more c.parts.self c.take_part.new.self _ c.parts.invariant.some grew) refilled;
      bytes = λ told.
          c.parts.invariant.bytes told ∙ bytes-more c.parts.self c.take_part.new.self _ _ grew ∙
          bytes-refilled c.take_part.new.self c.more.new.self _ _ refilled (rw (gives, slot) at (c.more.ensures.left told));
      faults = (rw gives at c.more.ensures.faults) ∙ c.parts.invariant.faults;
      shelf = keeps-then c.parts.invariant.shelf c.more.ensures.shelf;
    }

pub returns-clause-token : goal.returns-clause-token
returns-clause-token g c =
    λ told.
    let grew = c.in_ok-take_part.ensures.grown in
    let closed = rw c.if-not-branch.false at grew in
    let numbered = ap (λ (s : Stream). s.number) grew.is ∙ ap (λ (s : Stream). s.number) c.parts.invariant.is in
    token-closed _ _ _ c.take_part.new.self c.count-2.new.self (g.S.Shelf.left c.parts.shelf c.args.self.now.slot) numbered
    (part-more _ c.parts.self c.take_part.new.self _ c.parts.invariant.part grew)
    (some-more c.parts.self c.take_part.new.self _ c.parts.invariant.some grew)
    (closed-ahead c.parts.self c.take_part.new.self closed)
    c.take_part.ensures.few
    (c.parts.invariant.bytes told ∙ bytes-more c.parts.self c.take_part.new.self _ _ grew)
    (counted-closed c.args.self.now.number c.take_part.new.self c.pass.new.self c.count-2.new.self numbered c.pass.ensures.passed c.count-2.ensures)

pub returns-then-not-branch-2-clause-word : goal.returns-then-not-branch-2-clause-word
returns-then-not-branch-2-clause-word g c =
    let grew = c.in_ok-take_part.ensures.grown in
    let gives : c.more.result ≡ Ok false = c.in_ok-more.was ∙ ap Ok c.if-not-branch-2.true in
    let refilled = rw gives at c.more.ensures.refilled in
    token-word _ c.take_part.new.self c.count.new.self
    (part-more _ c.parts.self c.take_part.new.self _ c.parts.invariant.part grew)
    (some-more c.parts.self c.take_part.new.self _ c.parts.invariant.some grew)
    (ap (λ (s : Stream). s.word) c.count.ensures ∙ ap (λ (s : Stream). s.word) refilled.1)

pub returns-clause-word : goal.returns-clause-word
returns-clause-word g c =
    let grew = c.in_ok-take_part.ensures.grown in
    token-word _ c.take_part.new.self c.count-2.new.self
    (part-more _ c.parts.self c.take_part.new.self _ c.parts.invariant.part grew)
    (some-more c.parts.self c.take_part.new.self _ c.parts.invariant.some grew)
    (ap (λ (s : Stream). s.word) c.count-2.ensures ∙ ap (λ (s : Stream). s.word) c.pass.ensures.passed)
