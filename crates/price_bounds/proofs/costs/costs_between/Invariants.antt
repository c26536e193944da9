use Rattle.std.proofs.Common.{◌≡◌}
use Rattle.net_prices.specs.PriceTables.{allowed_by, prices_by}
use Rattle.price_bounds.specs.Costs.{IsCostOf}
use Rattle.price_bounds.specs.Priced.{IsPricedFor}
use Rattle.price_bounds.proofs.costs.costs_between.Given as goal

abbrev pub invariant-loop-net : goal.invariant-loop-net
invariant-loop-net l = record {
  shape : l.pricer.shape ≡ l.design.frame.shape;
  bound : IsCostOf l.design (prices_by l.rates l.weights) (allowed_by l.design l.rates.usable_only) l.from l.net l.cost;
  priced : IsPricedFor l.design l.rates l.weights l.priced l.pricer;
}
