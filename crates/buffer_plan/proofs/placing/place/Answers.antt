use Rattle.std.proofs.Common.{List, ◌∷◌, [], ◌++◌, ap, ◌∙◌, ℕ, arith}
use Rattle.ginneken_lists.specs.Trails.{chosen_of}
use Rattle.buffer_plan.proofs.FollowingLemmas.{way-start, way-popped, way-next, way-smaller, way-ends}
use Rattle.buffer_plan.proofs.placing.place.Goals as goal

pub loop-mark-init : goal.loop-mark-init
loop-mark-init c =
    way-start c.args.nodes c.args.mark c.args.trail.now c.push.new.self.items c.in_ok-placement.placement c.in_ok-placement.ensures
    (c.in_ok-push.ensures.items ∙ ap (λ (marks : List ℕ). marks ++ c.args.mark ∷ []) c.clear.ensures.items) c.requires.mark c.requires.within

pub follow-requires : goal.follow-requires
follow-requires c =
    let popped = way-popped c.args.nodes c.in-Some.mark c.args.trail.now (chosen_of c.args.trail.now c.args.mark) c.loop-mark.marks.items c.pop.new.self.items c.loop-mark.placement
    c.loop-mark.invariant c.in-Some.ensures.items in
    record { mark = popped.0; within = popped.1 }

pub loop-mark-preserved : goal.loop-mark-preserved
loop-mark-preserved c =
    way-next c.args.nodes c.in-Some.mark c.args.trail.now (chosen_of c.args.trail.now c.args.mark) c.loop-mark.marks.items c.pop.new.self.items c.follow.new.marks.items
    c.loop-mark.placement c.follow.new.placement c.loop-mark.invariant c.in-Some.ensures.items c.in_ok-follow.ensures

pub loop-mark-smaller : goal.loop-mark-smaller
loop-mark-smaller c =
    way-smaller c.in-Some.mark c.args.trail.now c.loop-mark.marks.items c.pop.new.self.items c.follow.new.marks.items c.loop-mark.placement c.follow.new.placement
    c.in-Some.ensures.items c.in_ok-follow.ensures

pub returns : goal.returns
returns c =
    way-ends c.args.nodes c.args.trail.now (chosen_of c.args.trail.now c.args.mark) c.loop-mark.marks.items c.loop-mark.placement c.loop-mark.invariant
    (omega (arith, c.loop-mark.marks.ok.0, c.in_default.ensures.cases.0))
