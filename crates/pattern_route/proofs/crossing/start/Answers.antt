use Rattle.std.proofs.Common.{ℕ, sym, ap, ◌∙◌, arith}
use Rattle.pattern_route.specs.declared.line.Line.{Line}
use Rattle.pattern_route.specs.Lines.{place_on, leg_cost, leaving}
use Rattle.pattern_route.proofs.CostLemmas.{leg-none}
use Rattle.pattern_route.proofs.CrossingLemmas.{start-between}
use Rattle.pattern_route.proofs.crossing.start.Goals as goal

pub returns-clause-sweep : goal.returns-clause-sweep
returns-clause-sweep g c =
    let shape = c.args.shape in
    let price = g.C.Costs.price c.args.costs.now in
    let span = c.args.span in
    let place : ℕ → ℕ = λ p. place_on shape (leaving span) p in
    record {
      fits = c.requires.fits;
      between = start-between span;
      left = sym (leg-none shape price place span.start);
      to_come = c.cost_along.ensures.cost ∙ ap (λ (line : Line). leg_cost shape price line span.start span.end) c.arriving.ensures;
      left_most = omega arith;
      to_come_most = c.cost_along.ensures.most;
    }
