use Rattle.std.proofs.Common.{true, false, refl, arith}
use Rattle.buffer_plan.proofs.Small.{small-pairs}
use Rattle.polar_lists.specs.BothLists.{all_in, side, candidates_by}
use Rattle.polar_lists.proofs.BothSmall.{above-pairs}
use Rattle.polar_lists.proofs.BothRaised.{raised-marked}
use Rattle.polar_lists.proofs.hanging.raised.Goals as goal

pub offer-requires-clause-range : goal.offer-requires-clause-range
offer-requires-clause-range g c = λ inverted.
    small-pairs c.args.trail.now (side c.args.below inverted) (candidates_by c.args.trail.now c.args.below inverted) refl (c.requires.small inverted)

pub along-requires-clause-range : goal.along-requires-clause-range
along-requires-clause-range g c =
    above-pairs c.args.loading.now c.args.node false c.offer.new.trail (all_in c.in_ok-upper.upper.plain) (candidates_by c.args.trail.now c.args.below)
    c.requires.loading c.requires.small (c.in_ok-upper.ensures.above false)

pub along-requires-2-clause-range : goal.along-requires-2-clause-range
along-requires-2-clause-range g c =
    above-pairs c.args.loading.now c.args.node true c.offer.new.trail (all_in c.in_ok-upper.upper.inverse) (candidates_by c.args.trail.now c.args.below)
    c.requires.loading c.requires.small (c.in_ok-upper.ensures.above true)

pub returns-clause-marks : goal.returns-clause-marks
returns-clause-marks g c =
    raised-marked c.offer.new.trail c.in_ok-upper.upper (record { plain = c.along.result; inverse = c.along-2.result }) c.in_ok-upper.ensures.marks
    (c.along.ensures.marks c.offer.new.trail) (c.along-2.ensures.marks c.offer.new.trail)

pub returns-clause-steps : goal.returns-clause-steps
returns-clause-steps g c = λ most short.
    let plain = c.in_ok-upper.ensures.short false in
    let inverse = c.in_ok-upper.ensures.short true in
    let low = short false in
    let high = short true in
    omega (arith, plain, inverse, low, high, c.in_ok-upper.ensures.steps most short, c.along.ensures.steps, c.along-2.ensures.steps)
