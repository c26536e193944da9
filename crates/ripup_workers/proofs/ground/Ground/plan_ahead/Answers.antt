use Rattle.std.proofs.Common.{Option, IfSome, sym, subst}
use Rattle.gr_base.specs.Trees.{TreeView}
use Rattle.track_book.specs.Passes.{PassView}
use Rattle.run_histories.proofs.TurnLemmas.{routed-within}
use Rattle.ripup_workers.specs.Foresight.{IsForeseen}
use Rattle.ripup_workers.specs.declared.foresight.Foreseen.{Foreseen}
use Rattle.ripup_workers.specs.Turning.{IsPlanWithout}
use Rattle.ripup_workers.proofs.ForeseenPlans.{foreseen-now}
use Rattle.ripup_workers.proofs.ground.Ground.plan_ahead.Goals as goal

pub plan_without-requires-clause-net : goal.plan_without-requires-clause-net
plan_without-requires-clause-net g c = routed-within c.args.wish.now.design.now _ c.args.wish.now.net c.requires.design.capacity_is c.args.wish.now.routed

pub returns-clause-foreseen : goal.returns-clause-foreseen
returns-clause-foreseen g c =
    let d = c.args.wish.now.design.now in
    let formula = c.args.wish.now.rule.now.formula in
    let net = c.args.wish.now.net in
    let kind = c.args.wish.now.kind in
    let seen = c.args.worker.now.pass.seen in
    let f : Foreseen = record { tree = c.in-Some-2.tree; front = c.known-front.result; window = c.in-Some.window } in
    let plan = subst (λ (o : Option TreeView). IfSome o (IsPlanWithout d formula seen net kind)) c.in-Some-2.is c.in_ok-tree.ensures.plan in
    subst (λ (p : PassView). IsForeseen d formula net kind p.seen f) (sym c.in_ok-tree.ensures.pass)
    (foreseen-now d formula net kind seen f c.in-Some.ensures plan c.known-front.ensures.known)
