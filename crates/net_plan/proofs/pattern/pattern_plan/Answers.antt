use Rattle.std.proofs.Common.{ℕ, IfOk, IsTrue, slice_get, sym, ap, subst, ◌∙◌}
use Rattle.grid_demand.specs.Tables.{CapacityView}
use Rattle.gr_base.specs.Designs.{is_routed, pins_at}
use Rattle.net_plan.specs.Patterns.{IsPattern}
use Rattle.net_plan.specs.Prices.{price_of, ways_of}
use Rattle.net_plan.proofs.FlatLemmas.{if-then}
use Rattle.net_plan.proofs.OnlyLemmas.{pattern-only}
use Rattle.net_plan.proofs.PlanLemmas.{same-plan}
use Rattle.net_plan.proofs.pattern.pattern_plan.Given.{Over}
use Rattle.net_plan.proofs.pattern.pattern_plan.Goals as goal

pub plan_by-requires-clause-net : goal.plan_by-requires-clause-net
plan_by-requires-clause-net g c = subst (λ (net : ℕ). IsTrue (is_routed c.args.design.now net)) (sym c.new-costs.ensures.net) c.requires.net

-- the plan by the net's costs is the plan over the loads
planned : (g : Over) (c : goal.After-plan_by g) →
    IfOk c.plan_by.result (IsPattern c.args.capacity.now c.args.loads.now c.args.rule.now.formula c.args.net (pins_at c.args.design.now c.args.net))
planned g c =
    let d = c.args.design.now in
    let costs = c.new-costs.result in
    if-then {P = IsPattern costs.capacity.now costs.loads.now costs.rule.now.formula costs.net (pins_at d costs.net)} c.plan_by.result
    (λ t plan. same-plan costs.capacity.now.shape costs.capacity.now c.args.capacity.now costs.loads.now c.args.loads.now costs.rule.now.formula c.args.rule.now.formula
    costs.net c.args.net (pins_at d costs.net) (pins_at d c.args.net) t
    (ap (λ (x : CapacityView). x.shape) c.new-costs.ensures.capacity) c.new-costs.ensures.capacity c.new-costs.ensures.loads c.new-costs.ensures.formula
    c.new-costs.ensures.net (ap (pins_at d) c.new-costs.ensures.net) plan)
    c.plan_by.ensures.plan

pub returns-clause-plan : goal.returns-clause-plan
returns-clause-plan g c = planned g c

pub returns-clause-only : goal.returns-clause-only
returns-clause-only g c =
    let capacity = c.args.capacity.now in
    let price = price_of capacity c.args.loads.now c.args.rule.now.formula c.args.net in
    let pins = pins_at c.args.design.now c.args.net in
    if-then {P = IsPattern capacity c.args.loads.now c.args.rule.now.formula c.args.net pins} c.plan_by.result
    (λ t plan other is_other. pattern-only capacity.shape (ways_of capacity) price pins t other plan is_other)
    (planned g c)

pub returns-clause-routes : goal.returns-clause-routes
returns-clause-routes g c =
    λ wanted is. c.plan_by.ensures.routes wanted (ap (slice_get c.args.design.now.nets) c.new-costs.ensures.net ∙ is)
