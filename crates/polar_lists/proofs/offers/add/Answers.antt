use Rattle.std.proofs.Common.{true, false, length, arith}
use Rattle.polar_lists.specs.BothLists.{all_in}
use Rattle.polar_lists.proofs.BothGathering.{both-marks_kept}
use Rattle.polar_lists.proofs.BothOffers.{added-sides}
use Rattle.polar_lists.proofs.BothSteps.{added-steps}
use Rattle.polar_lists.proofs.offers.add.Goals as goal

pub with_offers-requires-clause-marks : goal.with_offers-requires-clause-marks
with_offers-requires-clause-marks g c = c.requires.marks false

pub returns-in_err-plain-clause-steps : goal.returns-in_err-plain-clause-steps
returns-in_err-plain-clause-steps g c = λ most kinds short few_plain few_inverse.
    let plain = added-steps kinds most (length (all_in c.args.sides.plain)) (length c.args.plain.now) (short false) few_plain in
    omega (arith, plain, c.in_err-plain.ensures.steps)

pub with_offers-requires-2-clause-marks : goal.with_offers-requires-2-clause-marks
with_offers-requires-2-clause-marks g c =
    both-marks_kept c.args.trail.now c.with_offers.new.trail c.args.sides c.in_ok-plain.ensures.kept c.requires.marks true

pub returns-in_err-inverse-clause-steps : goal.returns-in_err-inverse-clause-steps
returns-in_err-inverse-clause-steps g c = λ most kinds short few_plain few_inverse.
    let plain = added-steps kinds most (length (all_in c.args.sides.plain)) (length c.args.plain.now) (short false) few_plain in
    let inverse = added-steps kinds most (length (all_in c.args.sides.inverse)) (length c.args.inverse.now) (short true) few_inverse in
    omega (arith, plain, inverse, c.in_ok-plain.ensures.steps, c.in_err-inverse.ensures.steps)

pub returns-clause-added : goal.returns-clause-added
returns-clause-added g c =
    added-sides c.args.node c.args.trail.now c.with_offers.new.trail c.with_offers-2.new.trail c.args.sides
    (record { plain = c.in_ok-plain.plain; inverse = c.in_ok-inverse.inverse }) c.args.plain.now c.args.inverse.now c.in_ok-plain.ensures.kept
    c.in_ok-inverse.ensures.kept c.requires.marks c.requires.inverse_marks c.in_ok-plain.ensures.marks c.in_ok-plain.ensures.added c.in_ok-inverse.ensures.added

pub returns-clause-steps : goal.returns-clause-steps
returns-clause-steps g c = λ most kinds short few_plain few_inverse.
    let plain = added-steps kinds most (length (all_in c.args.sides.plain)) (length c.args.plain.now) (short false) few_plain in
    let inverse = added-steps kinds most (length (all_in c.args.sides.inverse)) (length c.args.inverse.now) (short true) few_inverse in
    omega (arith, plain, inverse, c.in_ok-plain.ensures.steps, c.in_ok-inverse.ensures.steps)
