use Rattle.std.proofs.Common.{◌∙◌, sym, arith, rules, w64, SFits}
use Rattle.std.specs.Int.{w128}
use Rattle.std.proofs.lemmas.Int.{ints, to_z-of_z}
use Rattle.gr_text.proofs.NumberLemmas.{number-none, number-some}
use Rattle.gr_text.proofs.numbers.whole_of.Goals as goal

pub returns-in_err-n-clause-value : goal.returns-in_err-n-clause-value
returns-in_err-n-clause-value c =
    c.from_residual.ensures ∙ number-none c.args.low c.args.high c.args.bytes.now (sym c.signed.ensures ∙ c.in_err-n.was)

pub returns-clause-value : goal.returns-clause-value
returns-clause-value c =
    let low : SFits w64 c.args.low = search rules in
    let high : SFits w64 c.args.high = search rules in
    let n : SFits w128 c.in_ok-n.n = search rules in
    (simp to_z-of_z at c.within.ensures.value) ∙
    number-some c.args.low c.args.high c.in_ok-n.n c.args.bytes.now (omega (arith, ints)) (omega (arith, ints)) (sym c.signed.ensures ∙ c.in_ok-n.was)
