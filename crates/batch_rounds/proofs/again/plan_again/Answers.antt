use Rattle.std.proofs.Common.{List, sym, subst, ◌∙◌}
use Rattle.book_state.specs.declared.entry.Entry.{Entry}
use Rattle.run_histories.specs.Attempts.{kind_of}
use Rattle.run_histories.specs.Rounds.{IsPlanFor}
use Rattle.batch_rounds.specs.SecondTries.{EndsWith}
use Rattle.batch_rounds.proofs.KeptPlans.{kept-plan, of-copy}
use Rattle.batch_rounds.proofs.again.plan_again.Goals as goal

pub returns : goal.returns
returns g c =
    let d = c.args.asked.now.design.now in
    let formula = c.args.asked.now.rule.now.formula in
    let h = c.args.book.now.history in
    let tree = c.in-Some.tree.now in
    of-copy (IsPlanFor d formula h c.args.net (kind_of c.args.round)) tree c.copy.result
    (kept-plan d formula c.args.round c.args.net c.args.demand h c.over-basis.result.loads.now tree c.if-round-gt0.true c.requires.net c.over-basis.ensures.loads c.requires.refused
    (subst (λ (k : List Entry). EndsWith k tree) c.history.ensures.history c.in-Some.ensures)
    (sym c.demand_from.ensures ∙ c.if-demand_from-demand.true)) c.copy.ensures.same
