use Rattle.std.proofs.Common.{ℕ, List, length, sym, ap, subst, ◌∙◌}
use Rattle.net_prices.specs.Arcs.{AreLower}
use Rattle.net_prices.proofs.net_pricer.NetPricer.set_prices.Goals as goal

pub restore_all-requires : goal.restore_all-requires
restore_all-requires c =
    c.self.invariant.lower.long ∙ sym c.fill_prices.ensures.long ∙ ap (λ (xs : List ℕ). length xs) (sym c.deref.ensures.value)

pub invariant_of-self : goal.invariant_of-self
invariant_of-self c = record {
  long = c.fill_prices.ensures.long ∙ c.self.invariant.long;
  lower = subst (λ (xs : List ℕ). AreLower xs c.restore_all.new.left.items) c.deref.ensures.value c.restore_all.ensures;
  labels = c.self.invariant.labels;
}
