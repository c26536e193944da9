use Rattle.std.proofs.Common.{◌≡◌, ℕ, ◌+◌, ◌-◌, suc, Ok, sym, ap, ◌∙◌, arith}
use Rattle.gr_base.specs.Limits.{most_bytes}
use Rattle.gr_text.specs.Tokens.{Place}
use Rattle.gr_text.proofs.SeveralLemmas.{Reads-fails}
use Rattle.rc_library.specs.LibraryText.{keyword}
use Rattle.rc_library.specs.declared.keyword.Keyword.{Keyword}
use Rattle.rc_library.specs.declared.keyword.Keyword.TheVariants as word
use Rattle.rc_library.proofs.ItemsLemmas.{IsLike-then, no-word, ended, no-item, next-item}
use Rattle.rc_library.proofs.text.items.Goals as goal

pub returns-in_err-keyword-clause-reads : goal.returns-in_err-keyword-clause-reads
returns-in_err-keyword-clause-reads g c tells =
    let place : Place = g.S.TokenSource.place c.loop.source in
    let due : most_bytes - c.loop.counter ≡ suc (most_bytes - (c.loop.counter + 1)) = omega arith in
    Reads-fails _ _ (λ (k : Keyword). k) _ c.from_residual.result c.in_err-keyword.field-0.0 _ _ c.from_residual.ensures
    (λ fault is. sym (c.loop.invariant.reads tells) ∙ no-word c.args.design.now c.loop.gathered place _ _ due fault (ap (λ (v : ℕ). keyword v place) (sym c.version.ensures) ∙ is))
    (c.in_err-keyword.ensures.reads tells)

pub returns-in-End-clause-reads : goal.returns-in-End-clause-reads
returns-in-End-clause-reads g c tells =
    let place : Place = g.S.TokenSource.place c.loop.source in
    let after : Place = g.S.TokenSource.place c.keyword.new.source in
    let due : most_bytes - c.loop.counter ≡ suc (most_bytes - (c.loop.counter + 1)) = omega arith in
    let read : keyword c.loop.gathered.version place ≡ Ok (c.in_ok-keyword.keyword, after) =
    ap (λ (v : ℕ). keyword v place) (sym c.version.ensures) ∙ c.in_ok-keyword.ensures.reads tells in
    let last : keyword c.loop.gathered.version place ≡ Ok (word.End, after) = rw (sym c.in-End.is) read in
    sym (c.loop.invariant.reads tells) ∙ ended c.args.design.now c.loop.gathered place _ _ due after last

pub returns-in_err-item-clause-reads : goal.returns-in_err-item-clause-reads
returns-in_err-item-clause-reads g c tells =
    let place : Place = g.S.TokenSource.place c.loop.source in
    let due : most_bytes - c.loop.counter ≡ suc (most_bytes - (c.loop.counter + 1)) = omega arith in
    Reads-fails _ _ (λ (_ : Unit {0}). c.item.new.gathered) _ c.from_residual-in_err-item.result c.in_err-item.field-0.0 _ _ c.from_residual-in_err-item.ensures
    (λ fault is.
    sym (c.loop.invariant.reads tells)
    ∙ no-item c.args.design.now c.loop.gathered place _ _ due c.in_ok-keyword.keyword (g.S.TokenSource.place c.keyword.new.source) fault
    (ap (λ (v : ℕ). keyword v place) (sym c.version.ensures) ∙ c.in_ok-keyword.ensures.reads tells) c.in_default.not-End is)
    (c.in_err-item.ensures.reads tells)

pub loop-preserved : goal.loop-preserved
loop-preserved g c =
    let place : Place = g.S.TokenSource.place c.loop.source in
    let due : most_bytes - c.loop.counter ≡ suc (most_bytes - (c.loop.counter + 1)) = omega arith in
    record {
      reads = λ tells.
          sym (next-item c.args.design.now c.loop.gathered place _ _ due c.in_ok-keyword.keyword (g.S.TokenSource.place c.keyword.new.source)
          (g.S.TokenSource.place c.item.new.source) c.item.new.gathered
          (ap (λ (v : ℕ). keyword v place) (sym c.version.ensures) ∙ c.in_ok-keyword.ensures.reads tells) c.in_default.not-End
          (c.in_ok-item.ensures.reads tells))
          ∙ c.loop.invariant.reads tells;
      faults = c.in_ok-item.ensures.moves.counts ∙ c.in_ok-keyword.ensures.moves.counts ∙ c.loop.invariant.faults;
      origin = c.in_ok-item.ensures.moves.same ∙ c.in_ok-keyword.ensures.moves.same ∙ c.loop.invariant.origin;
      onward = λ bytes read. c.in_ok-item.ensures.moves.onward bytes (c.in_ok-keyword.ensures.moves.onward bytes (c.loop.invariant.onward bytes read));
      like = IsLike-then c.args.gathered.now c.loop.gathered c.item.new.gathered c.loop.invariant.like c.in_ok-item.ensures.like;
    }
