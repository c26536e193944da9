use Rattle.std.proofs.Common.{◌≡◌, ap, ◌∙◌, true, false, Ok}
use Rattle.std.proofs.lemmas.Result.{err_from_is_err_and}
use Rattle.gr_io.proofs.ShelfLemmas.{keeps-then}
use Rattle.gr_text.specs.Streams.{Stream}
use Rattle.gr_text.proofs.SeekLemmas.{skipped-here, spent-ahead, turn-goes, turn-ends, turn-fails, turn-keeps, at-word}
use Rattle.gr_text.proofs.tokens.Tokens.seek.Goals as goal

pub returns-in_err-more-clause-skipped : goal.returns-in_err-more-clause-skipped
returns-in_err-more-clause-skipped g c =
    λ told.
    let p = err_from_is_err_and c.from_residual.result c.from_residual.ensures.1 in
    let slot = ap (λ (s : Stream). s.slot) c.skip_blanks.ensures.skipped.is ∙ ap (λ (s : Stream). s.slot) c.blanks.invariant.is in
    let here = rw c.blanks-test.true at c.skip_blanks.ensures.skipped in
    rw (p.1, p.2)
    (turn-fails _ _ c.skip_blanks.new.self c.more.new.self _ _ c.in_err-more.field-0.0
    (spent-ahead c.blanks.self c.skip_blanks.new.self here)
    (skipped-here _ _ _ _ _ _ (c.blanks.invariant.skipped told) c.skip_blanks.ensures.skipped)
    (rw c.in_err-more.was at c.more.ensures.refilled)
    (rw (c.in_err-more.was, slot) at (c.more.ensures.left told)))

pub returns-then-not-branch-clause-skipped : goal.returns-then-not-branch-clause-skipped
returns-then-not-branch-clause-skipped g c =
    λ told.
    let gives : c.more.result ≡ Ok false = c.in_ok-more.was ∙ ap Ok c.if-not-branch.true in
    let slot = ap (λ (s : Stream). s.slot) c.skip_blanks.ensures.skipped.is ∙ ap (λ (s : Stream). s.slot) c.blanks.invariant.is in
    turn-ends _ _ c.skip_blanks.new.self c.more.new.self _ _
    (skipped-here _ _ _ _ _ _ (c.blanks.invariant.skipped told) c.skip_blanks.ensures.skipped)
    (rw gives at c.more.ensures.refilled)
    (rw (gives, slot) at (c.more.ensures.left told))

pub blanks-preserved : goal.blanks-preserved
blanks-preserved g c =
    let gives : c.more.result ≡ Ok true = c.in_ok-more.was ∙ ap Ok c.if-not-branch.false in
    let slot = ap (λ (s : Stream). s.slot) c.skip_blanks.ensures.skipped.is ∙ ap (λ (s : Stream). s.slot) c.blanks.invariant.is in
    record {
      is = turn-keeps c.args.self.now c.blanks.self c.skip_blanks.new.self c.more.new.self _ c.blanks.invariant.is c.skip_blanks.ensures.skipped (rw gives at c.more.ensures.refilled);
      skipped = λ told.
          turn-goes _ _ c.skip_blanks.new.self c.more.new.self _ _
          (skipped-here _ _ _ _ _ _ (c.blanks.invariant.skipped told) c.skip_blanks.ensures.skipped)
          (rw gives at c.more.ensures.refilled)
          (rw (gives, slot) at (c.more.ensures.left told));
      faults = (rw gives at c.more.ensures.faults) ∙ c.blanks.invariant.faults;
      shelf = keeps-then c.blanks.invariant.shelf c.more.ensures.shelf;
    }

pub returns-clause-sought : goal.returns-clause-sought
returns-clause-sought g c =
    at-word c.args.self.now c.blanks.self c.skip_blanks.new.self c.blanks.invariant.is (rw c.blanks-test.false at c.skip_blanks.ensures.skipped) c.skip_blanks.ensures.countable

pub returns-clause-skipped : goal.returns-clause-skipped
returns-clause-skipped g c = λ told. skipped-here _ _ _ _ _ _ (c.blanks.invariant.skipped told) c.skip_blanks.ensures.skipped
