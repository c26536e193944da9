use Rattle.std.proofs.Common.{ℕ, ◌+◌, Some, length, get_or, refl, sym, ap, subst, ◌∙◌, arith}
use Rattle.cost_rules.specs.Formulas.{cost_at}
use Rattle.cost_rules.specs.declared.site.Formula.{Formula}
use Rattle.cost_rules.specs.declared.site.Site.{Site}
use Rattle.gr_base.specs.Grid.{edge_at}
use Rattle.gr_base.specs.Limits.{most_capacity}
use Rattle.gr_base.specs.Sums.{wire_number}
use Rattle.grid_demand.proofs.LoadLemmas.{index-most}
use Rattle.maze_route.specs.Runs.{IsRun}
use Rattle.maze_route.proofs.RunLemmas.{run-turn}
use Rattle.net_plan.specs.Prices.{price_of}
use Rattle.net_plan.proofs.PriceLemmas.{side-price}
use Rattle.net_plan.proofs.net_costs.NetCosts.price_sites.Goals as goal

pub site_price-requires-clause-capacity : goal.site_price-requires-clause-capacity
site_price-requires-clause-capacity g c =
    let capacity = c.args.self.now.capacity.now in
    let place = c.loop-place.place in
    let here = c.requires.capacities.each place c.loop-place-test.true in
    let most = index-most most_capacity capacity.capacities (wire_number (edge_at (c.args.from.low + place) c.args.from.way)) c.requires.tables.capacities in
    omega (arith, here, most)

pub loop-place-preserved : goal.loop-place-preserved
loop-place-preserved g c =
    let costs = c.args.self.now in
    let place = c.loop-place.place in
    let sites = c.args.sites.now in
    let site : Site = record { demand = get_or sites.demands.now place 0; capacity = get_or sites.capacities.now place 0; need = sites.need; marks = get_or sites.marks.now place 0 } in
    run-turn (price_of costs.capacity.now costs.loads.now costs.rule.now.formula costs.net) c.args.from c.args.first place c.site_price.result c.args.prices.now
    c.loop-place.prices _ c.loop-place.invariant (omega (arith, c.loop-place.invariant.size, c.requires.inside, c.loop-place-test.true)) refl
    (c.site_price.ensures ∙ ap (λ (f : Formula). Some (cost_at f site)) (sym c.requires.formula) ∙ side-price costs.capacity.now costs.loads.now costs.rule.now.formula costs.net c.args.from (length sites.demands.now) place site c.requires.edges
    c.loop-place-test.true (c.requires.demands.each place c.loop-place-test.true)
    (c.requires.capacities.each place c.loop-place-test.true) c.requires.need
    (c.requires.marks.each place c.loop-place-test.true))

pub returns : goal.returns
returns g c =
    let costs = c.args.self.now in
    subst (λ (n : ℕ). IsRun (price_of costs.capacity.now costs.loads.now costs.rule.now.formula costs.net) c.args.from c.args.first n c.args.prices.now c.loop-place.prices)
    (omega (arith, c.loop-place-test.false, c.loop-place.auto.place-end)) c.loop-place.invariant
