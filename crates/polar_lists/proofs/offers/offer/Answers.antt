use Rattle.std.proofs.Common.{ℕ, true, false, List, length, Option, sym, ap, subst, ◌∙◌, arith}
use Rattle.ginneken_lists.specs.declared.pair.Pair.{Pair}
use Rattle.buffer_plan.specs.Picked.{sites_of}
use Rattle.polar_lists.specs.BothLists.{candidates_by, offer_at, AreOffersMarked}
use Rattle.polar_lists.proofs.SignalLemmas.{both-blocked}
use Rattle.polar_lists.proofs.BothRaised.{above-result}
use Rattle.polar_lists.proofs.BothOffers.{offered-result}
use Rattle.polar_lists.proofs.BothSteps.{made-steps}
use Rattle.polar_lists.proofs.offers.offer.Goals as goal

pub make-requires-clause-own : goal.make-requires-clause-own
make-requires-clause-own g c = c.requires.range false

pub make-requires-clause-other : goal.make-requires-clause-other
make-requires-clause-other g c = c.requires.range true

pub returns-in_err-make-clause-steps : goal.returns-in_err-make-clause-steps
returns-in_err-make-clause-steps g c = λ most short.
    made-steps (length c.args.library.now.kinds) most c.args.steps.now c.make.new.steps c.make.new.steps c.make.new.steps
    (c.in_err-make.ensures.steps most (short false) (short true)) (omega arith) (omega arith)

pub make-requires-2-clause-own : goal.make-requires-2-clause-own
make-requires-2-clause-own g c = c.requires.range true

pub make-requires-2-clause-other : goal.make-requires-2-clause-other
make-requires-2-clause-other g c = c.requires.range false

pub returns-in_err-make-2-clause-steps : goal.returns-in_err-make-2-clause-steps
returns-in_err-make-2-clause-steps g c = λ most short.
    made-steps (length c.args.library.now.kinds) most c.args.steps.now c.make.new.steps c.make-2.new.steps c.make-2.new.steps
    (c.in_ok-make.ensures.steps most (short false) (short true)) (c.in_err-make-2.ensures.steps most (short true) (short false)) (omega arith)

pub add-requires-clause-plain_marks : goal.add-requires-clause-plain_marks
add-requires-clause-plain_marks g c =
    subst (λ (xs : List (Option Pair)). AreOffersMarked (length c.args.trail.now) xs) (sym c.deref.ensures.value)
    (c.in_ok-make.ensures.marks (length c.args.trail.now) (c.requires.marks false) (c.requires.marks true))

pub add-requires-clause-inverse_marks : goal.add-requires-clause-inverse_marks
add-requires-clause-inverse_marks g c =
    subst (λ (xs : List (Option Pair)). AreOffersMarked (length c.args.trail.now) xs) (sym c.deref-2.ensures.value)
    (c.in_ok-make-2.ensures.marks (length c.args.trail.now) (c.requires.marks true) (c.requires.marks false))

pub returns-then-not-free-clause-above : goal.returns-then-not-free-clause-above
returns-then-not-free-clause-above g c = λ inverted.
    both-blocked (sites_of c.args.loading.now) c.args.node (candidates_by c.args.trail.now c.args.sides) inverted (sym c.free.ensures.free ∙ c.if-not-free.true)

pub returns-clause-above : goal.returns-clause-above
returns-clause-above g c =
    let trail = c.args.trail.now in
    let node = c.args.node in
    above-result (sites_of c.args.loading.now) c.args.library.now node c.add.new.trail (candidates_by trail c.args.sides) c.add.result
    c.requires.library (sym c.free.ensures.free ∙ c.if-not-free.false)
    (offered-result c.args.library.now node trail c.add.new.trail c.args.sides c.deref.result.now c.deref-2.result.now c.add.result c.requires.rising
    (ap (λ (xs : List (Option Pair)). length xs) c.deref.ensures.value ∙ c.in_ok-make.ensures.kinds)
    (ap (λ (xs : List (Option Pair)). length xs) c.deref-2.ensures.value ∙ c.in_ok-make-2.ensures.kinds)
    (λ number below. ap (λ (xs : List (Option Pair)). offer_at trail node xs number) c.deref.ensures.value ∙ c.in_ok-make.ensures.made trail node number below)
    (λ number below. ap (λ (xs : List (Option Pair)). offer_at trail node xs number) c.deref-2.ensures.value ∙ c.in_ok-make-2.ensures.made trail node number below)
    c.add.ensures.added)

pub returns-clause-steps : goal.returns-clause-steps
returns-clause-steps g c = λ most short.
    let kinds : ℕ = length c.args.library.now.kinds in
    let plain = ap (λ (xs : List (Option Pair)). length xs) c.deref.ensures.value ∙ c.in_ok-make.ensures.kinds in
    let inverse = ap (λ (xs : List (Option Pair)). length xs) c.deref-2.ensures.value ∙ c.in_ok-make-2.ensures.kinds in
    made-steps kinds most c.args.steps.now c.make.new.steps c.make-2.new.steps c.add.new.steps
    (c.in_ok-make.ensures.steps most (short false) (short true)) (c.in_ok-make-2.ensures.steps most (short true) (short false))
    (c.add.ensures.steps most kinds short (omega (arith, plain)) (omega (arith, inverse)))
