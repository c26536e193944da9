use Rattle.std.proofs.Common.{◌≡◌, ℕ, ◌+◌, ap, ◌∙◌, arith}
use Rattle.pattern_route.specs.declared.line.Line.{Line}
use Rattle.pattern_route.specs.Lines.{leg_cost}
use Rattle.pattern_route.proofs.CrossingLemmas.{walk_cost-walk_by}
use Rattle.pattern_route.proofs.crossing.crossing_at.Goals as goal

three : (total left over to_come a b c : ℕ) → total ≡ a + (b + c) → left ≡ a → over ≡ b → to_come ≡ c → left + over + to_come ≡ total
three total left over to_come a b c whole first second third = omega arith

pub returns-clause-crossing : goal.returns-clause-crossing
returns-clause-crossing g c =
    let price = g.C.Costs.price c.args.costs.now in
    let span = c.args.sweep.span in
    let whole = walk_cost-walk_by c.args.shape price span c.args.sweep.at in
    record {
      fits = c.requires.sweep.fits;
      between = c.requires.sweep.between;
      cost =
          three _ _ _ _ _ _ _ whole c.requires.sweep.left
          (c.cost_along-across.ensures.cost ∙
          ap (λ (line : Line). leg_cost c.args.shape price line span.from span.to) c.crossing.ensures)
          c.requires.sweep.to_come;
    }
