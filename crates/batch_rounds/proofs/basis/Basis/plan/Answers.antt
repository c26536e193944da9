use Rattle.std.proofs.Common.{IfOk, subst}
use Rattle.book_state.specs.declared.entry.PlanKind.{PlanKind}
use Rattle.run_histories.specs.Rounds.{IsPlanFor}
use Rattle.run_histories.proofs.StageSteps.{kind-made}
use Rattle.batch_rounds.proofs.basis.Basis.plan.Goals as goal

pub plan_of-requires-clause-kind : goal.plan_of-requires-clause-kind
plan_of-requires-clause-kind g c = kind-made c.args.self.now.round c.kind_of.result c.kind_of.ensures

pub returns-clause-plan : goal.returns-clause-plan
returns-clause-plan g c = λ h of.
    let b = c.args.self.now in
    subst (λ (kind : PlanKind). IfOk c.plan_of.result (IsPlanFor b.design.now b.rule.now.formula h c.args.net kind)) c.kind_of.ensures (c.plan_of.ensures.plan h of)
