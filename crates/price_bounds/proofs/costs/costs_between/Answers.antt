use Rattle.std.proofs.Common.{sym, ap, subst, ◌∙◌, arith}
use Rattle.net_prices.specs.PriceTables.{allowed_by, prices_by, ArePrices}
use Rattle.net_prices.specs.Pricers.{PricerView}
use Rattle.price_bounds.proofs.CostLemmas.{more-costs, same-costs}
use Rattle.price_bounds.proofs.costs.costs_between.Goals as goal

pub loop-net-preserved-then-not-routed : goal.loop-net-preserved-then-not-routed
loop-net-preserved-then-not-routed c =
    let d = c.args.design.now in
    let l = c.loop-net in
    record {
      shape = l.invariant.shape;
      bound = same-costs d (prices_by c.args.rates c.args.weights.now) (allowed_by d c.args.rates.usable_only) c.args.from l.net l.cost
          (sym c.routed.ensures ∙ c.if-not-routed.true) l.invariant.bound;
      priced = l.invariant.priced;
    }

pub loop-net-preserved : goal.loop-net-preserved
loop-net-preserved c =
    let d = c.args.design.now in
    let l = c.loop-net in
    let p = prices_by c.args.rates c.args.weights.now in
    let allowed = allowed_by d c.args.rates.usable_only in
    let one = c.in_ok-bound.ensures.bound c.args.rates c.args.weights.now c.set_prices.ensures.prices in
    record {
      shape = ap (λ (v : PricerView). v.shape) c.bound.ensures.same ∙ c.set_prices.ensures.shape;
      bound = more-costs d p allowed c.args.from l.net l.cost c.in_ok-bound.field-0 c.saturating_add-cost.result (sym c.routed.ensures ∙ c.if-not-routed.false)
          l.invariant.bound one (omega (arith, c.saturating_add-cost.ensures, c.from.ensures));
      priced = (
        omega (arith, c.loop-net-test.true, c.requires.to),
        subst (λ (v : PricerView). ArePrices d c.args.rates c.args.weights.now l.net v) (sym c.bound.ensures.same) c.set_prices.ensures.prices,
      );
    }
