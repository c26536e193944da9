use Rattle.std.proofs.Common.{rules, ◌≡◌, ℕ, ◌≤◌, arith}
use Rattle.cost_rules.specs.Formulas.{at_demand, cost_at}
use Rattle.cost_rules.proofs.RiseLemmas.{cost-rises}
use Rattle.cost_rules.proofs.rule.CostRule.cost.Goals as goal

pub returns-clause-value : goal.returns-clause-value
returns-clause-value g c = search rules

pub returns-clause-rises : goal.returns-clause-rises
returns-clause-rises g c demand up =
    let site = c.args.site in
    let formula = c.args.self.now.formula in
    let is : c.rule.result ≡ cost_at formula site = returns-clause-value g c in
    let rises = cost-rises formula site site.demand demand c.requires.marks (omega (arith, up)) in
    omega (arith, is, rises)
