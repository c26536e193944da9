use Rattle.std.proofs.Common.{◌≡◌, ◌≤◌, ◌+◌, ◌*◌, ℕ, List, length, Option, sym, ap, subst, le_refl, mul-le-mul, arith}
use Rattle.std.specs.Borrow.{Bor}
use Rattle.ginneken_lists.specs.declared.pair.Pair.{Pair}
use Rattle.polar_lists.specs.BothLists.{all_in}
use Rattle.polar_lists.proofs.BothOffers.{IsDriven, driven-other, driven-own, made-more}
use Rattle.polar_lists.proofs.offers.make.Given.{Over}
use Rattle.polar_lists.proofs.offers.make.Goals as goal
use Rattle.polar_lists.proofs.offers.make.Goals.{After-buffered, then-inverts, else-inverts}

-- the list of which the kind makes its offer
driven-list : (g : Over) (c : After-buffered g) →
    IsDriven c.args.library.now (all_in c.args.own.now) (all_in c.args.other.now) (all_in c.if-inverts.below.now) c.loop-number.number
driven-list g c =
    let lib = c.args.library.now in
    let own = all_in c.args.own.now in
    let other = all_in c.args.other.now in
    let number = c.loop-number.number in
    let Of : Bor (Option (List Pair)) → Type 0 = λ o. IsDriven lib own other (all_in o.now) number in
    elim c.if-inverts.branch [
      | then-inverts w ↦ subst Of (sym w.below-is) (driven-other lib own other number c.inverts.result c.inverts.ensures.inverts w.if-inverts.true)
      | else-inverts w ↦ subst Of (sym w.below-is) (driven-own lib own other number c.inverts.result c.inverts.ensures.inverts w.if-inverts.false)
    ]

pub returns-in_err-push-clause-steps : goal.returns-in_err-push-clause-steps
returns-in_err-push-clause-steps g c = λ most own other.
    let lib = c.args.library.now in
    let number = c.loop-number.number in
    let before = c.loop-number.invariant.steps most own other in
    let driven = driven-list g (goal.at.returns-in_err-push-clause-steps g c).After-buffered in
    let short = driven.short most own other in
    let more : (number + 1) * (most + 1) ≡ number * (most + 1) + (most + 1) = omega arith in
    let few : (number + 1) * (most + 1) ≤ length lib.kinds * (most + 1) =
    mul-le-mul (omega (arith, c.loop-number-test.true, c.kinds-number-end.ensures.kinds)) (le_refl (most + 1)) in
    omega (arith, before, short, more, few, c.buffered.ensures.steps)

pub loop-number-preserved : goal.loop-number-preserved
loop-number-preserved g c =
    let lib = c.args.library.now in
    let number = c.loop-number.number in
    let driven = driven-list g (goal.at.loop-number-preserved g c).After-buffered in
    record {
      are = made-more lib (all_in c.args.own.now) (all_in c.args.other.now) (all_in c.if-inverts.below.now) c.loop-number.found.items c.push.new.self.items number
          c.kind.result c.buffered.result c.loop-number.invariant.are c.in_ok-push.ensures.items c.kind.ensures.kind driven.all c.buffered.ensures.buffered
          (λ most own other. c.buffered.ensures.mark most (driven.marks most own other));
      steps = λ most own other.
          let before = c.loop-number.invariant.steps most own other in
          let short = driven.short most own other in
          let more : (number + 1) * (most + 1) ≡ number * (most + 1) + (most + 1) = omega arith in
          omega (arith, before, short, more, c.buffered.ensures.steps);
    }

pub returns-clause-steps : goal.returns-clause-steps
returns-clause-steps g c = λ most own other.
    let before = c.loop-number.invariant.steps most own other in
    let all : c.loop-number.number ≡ length c.args.library.now.kinds =
    omega (arith, c.loop-number-test.false, c.loop-number.auto.number-end, c.kinds-number-end.ensures.kinds) in
    let same : c.loop-number.number * (most + 1) ≡ length c.args.library.now.kinds * (most + 1) = ap (λ (n : ℕ). n * (most + 1)) all in
    omega (arith, before, same)
