use Rattle.std.proofs.Common.{true, false, Option, subst, arith}
use Rattle.polar_lists.specs.BothLists.{sides_in, AreBothMarked, AreBothInRange, AreShort}
use Rattle.polar_lists.specs.declared.sides.Sides.{Sides}
use Rattle.polar_lists.proofs.BothGathering.{both-marks_kept}
use Rattle.polar_lists.proofs.BothJoined.{joined-bare, joined-sides}
use Rattle.polar_lists.proofs.hanging.join.Goals as goal

pub returns-in_default-clause-joined : goal.returns-in_default-clause-joined
returns-in_default-clause-joined g c = λ inverted.
    joined-bare c.args.trail.now c.args.own c.args.upper inverted c.in_default.is (c.requires.rising inverted)

pub joined-requires-clause-own_range : goal.joined-requires-clause-own_range
joined-requires-clause-own_range g c = (subst (λ (o : Option Sides). AreBothInRange (sides_in o)) c.in-Some.is c.requires.own_range) false

pub joined-requires-clause-range : goal.joined-requires-clause-range
joined-requires-clause-range g c = c.requires.range false

pub joined-requires-clause-own_marks : goal.joined-requires-clause-own_marks
joined-requires-clause-own_marks g c =
    (subst (λ (o : Option Sides). AreBothMarked c.args.trail.now (sides_in o)) c.in-Some.is c.requires.own_marks) false

pub joined-requires-clause-marks : goal.joined-requires-clause-marks
joined-requires-clause-marks g c = c.requires.marks false

pub returns-in_err-plain-clause-steps : goal.returns-in_err-plain-clause-steps
returns-in_err-plain-clause-steps g c = λ most more short_own short_upper.
    let own = (subst (λ (o : Option Sides). AreShort most (sides_in o)) c.in-Some.is short_own) false in
    let upper = short_upper false in
    omega (arith, own, upper, c.in_err-plain.ensures.steps)

pub joined-requires-2-clause-own_range : goal.joined-requires-2-clause-own_range
joined-requires-2-clause-own_range g c = (subst (λ (o : Option Sides). AreBothInRange (sides_in o)) c.in-Some.is c.requires.own_range) true

pub joined-requires-2-clause-range : goal.joined-requires-2-clause-range
joined-requires-2-clause-range g c = c.requires.range true

pub joined-requires-2-clause-own_marks : goal.joined-requires-2-clause-own_marks
joined-requires-2-clause-own_marks g c =
    both-marks_kept c.args.trail.now c.joined.new.trail c.in-Some.own c.in_ok-plain.ensures.kept
    (subst (λ (o : Option Sides). AreBothMarked c.args.trail.now (sides_in o)) c.in-Some.is c.requires.own_marks) true

pub joined-requires-2-clause-marks : goal.joined-requires-2-clause-marks
joined-requires-2-clause-marks g c = both-marks_kept c.args.trail.now c.joined.new.trail c.args.upper c.in_ok-plain.ensures.kept c.requires.marks true

pub returns-in_err-inverse-clause-steps : goal.returns-in_err-inverse-clause-steps
returns-in_err-inverse-clause-steps g c = λ most more short_own short_upper.
    let own = subst (λ (o : Option Sides). AreShort most (sides_in o)) c.in-Some.is short_own in
    let own_plain = own false in
    let own_inverse = own true in
    let plain = short_upper false in
    let inverse = short_upper true in
    omega (arith, own_plain, own_inverse, plain, inverse, c.in_ok-plain.ensures.steps, c.in_err-inverse.ensures.steps)

pub returns-clause-joined : goal.returns-clause-joined
returns-clause-joined g c =
    joined-sides c.args.trail.now c.joined.new.trail c.joined-2.new.trail c.args.own c.in-Some.own c.args.upper
    (record { plain = c.in_ok-plain.plain; inverse = c.in_ok-inverse.inverse }) c.in-Some.is c.in_ok-plain.ensures.kept c.in_ok-inverse.ensures.kept
    (subst (λ (o : Option Sides). AreBothMarked c.args.trail.now (sides_in o)) c.in-Some.is c.requires.own_marks) c.requires.marks c.in_ok-plain.ensures.marks
    c.in_ok-plain.ensures.joined c.in_ok-inverse.ensures.joined

pub returns-clause-steps : goal.returns-clause-steps
returns-clause-steps g c = λ most more short_own short_upper.
    let own = subst (λ (o : Option Sides). AreShort most (sides_in o)) c.in-Some.is short_own in
    let own_plain = own false in
    let own_inverse = own true in
    let plain = short_upper false in
    let inverse = short_upper true in
    omega (arith, own_plain, own_inverse, plain, inverse, c.in_ok-plain.ensures.steps, c.in_ok-inverse.ensures.steps)
