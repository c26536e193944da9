use Rattle.std.proofs.Common.{subst}
use Rattle.gr_base.specs.declared.grid.Shape.{Shape}
use Rattle.layer_assign.specs.Assignments.{IsFlat as IsFlattened}
use Rattle.net_plan.proofs.FlatPriceLemmas.{keep-prices, prices-of_layers}
use Rattle.net_plan.proofs.flat_costs.FlatCosts.new.Goals as goal

pub invariant_of-result : goal.invariant_of-result
invariant_of-result g c =
    let costs = c.args.costs.now in
    let flat = subst (λ (s : Shape). IsFlattened s c.flattened.result) c.shape.ensures.shape c.flattened.ensures in
    record {
      flattened = flat;
      prices = keep-prices _ _ _ (prices-of_layers costs.capacity.now costs.loads.now costs.rule.now.formula costs.net _ flat);
    }
