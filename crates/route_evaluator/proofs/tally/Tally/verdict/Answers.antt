use Rattle.std.proofs.Common.{◌≡◌, ℕ, ◌+◌, ◌*◌, ◌∙◌}
use Rattle.route_evaluator.proofs.VerdictLemmas.{total-is, most-is, unjoined-all}
use Rattle.route_evaluator.proofs.tally.Tally.verdict.Goals as goal

wires-plus : (a b c u v w : ℕ) → a ≡ u → b ≡ v → c ≡ w → a + b * c ≡ u + v * w
wires-plus a b c u v w first second third = cc

pub returns : goal.returns
returns c d sets capacity loads counted = record {
  routed = counted.routed;
  total = total-is d sets c.args.loads.now c.over_total.result loads.shape loads.demand (c.over_total.ensures.design d capacity);
  max = most-is d sets c.args.loads.now c.over_max.result loads.shape loads.demand (c.over_max.ensures.design d capacity);
  wirelength = wires-plus _ _ _ _ _ _ (c.from.ensures ∙ counted.wires) c.from-2.ensures (c.from-vias.ensures ∙ counted.vias);
  vias = c.from-vias.ensures ∙ counted.vias;
  rising = counted.rising;
  unjoined = unjoined-all d sets c.args.self.unjoined counted.unjoined;
}
