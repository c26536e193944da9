use Rattle.std.proofs.Common.{◌≡◌, ◌≢◌, ℕ, suc, ◌+◌, ◌*◌, ◌≤◌, Option, refl, sym, ap, ◌∙◌, zero-add, arith}
use Rattle.gr_base.specs.declared.grid.Edge.{Edge}
use Rattle.gr_base.specs.declared.grid.Shape.{Shape}
use Rattle.gr_base.specs.Grid.{gap}
use Rattle.pattern_route.specs.declared.line.Line.{Line}
use Rattle.pattern_route.specs.Steps.{toward}
use Rattle.pattern_route.specs.Walks.{step_cost}
use Rattle.pattern_route.specs.Lines.{place_on, leg_cost}
use Rattle.pattern_route.proofs.StepLemmas.{gap-toward}
use Rattle.pattern_route.proofs.CostLemmas.{leg-step, leg-none}
use Rattle.pattern_route.proofs.LineLemmas.{few-places, next-on-line}
use Rattle.pattern_route.proofs.leg.cost_along.Goals as goal

paid-more : (g : Shape) (price : Edge → Option ℕ) (line : Line) (at to next cost step all : ℕ) → next ≡ toward at to → at ≢ to →
    step ≡ step_cost g price (place_on g line at) (place_on g line (toward at to)) → cost + leg_cost g price line at to ≡ all →
    cost + step + leg_cost g price line next to ≡ all
paid-more g price line at to next cost step all is other paid so_far =
    let place : ℕ → ℕ = λ p. place_on g line p in
    let here = leg-step g price place at to other in
    let rest : leg_cost g price line next to ≡ leg_cost g price line (toward at to) to = ap (λ p. leg_cost g price line p to) is in
    omega (arith, here, rest, paid, so_far)

paid-all : (g : Shape) (price : Edge → Option ℕ) (line : Line) (at to cost all : ℕ) → at ≡ to →
    cost + leg_cost g price line at to ≡ all → cost ≡ all
paid-all g price line at to cost all same so_far =
    let place : ℕ → ℕ = λ p. place_on g line p in
    let none : leg_cost g price line at to ≡ 0 = ap (λ p. leg_cost g price line p to) same ∙ leg-none g price place to in
    omega (arith, none, so_far)

most-more : (at to next from cost step : ℕ) → next ≡ toward at to → at ≢ to → step ≤ 1048576 →
    cost + 1048576 * gap at to ≤ 1048576 * gap from to → cost + step + 1048576 * gap next to ≤ 1048576 * gap from to
most-more at to next from cost step is other small so_far =
    let nearer = gap-toward at to other in
    let same : gap next to ≡ gap (toward at to) to = ap (λ p. gap p to) is in
    let plain : (here there all : ℕ) → here ≡ suc there → cost + 1048576 * here ≤ 1048576 * all → cost + step + 1048576 * there ≤ 1048576 * all =
    λ here there all e h. omega arith in
    plain (gap at to) (gap next to) (gap from to) (nearer ∙ ap suc (sym same)) so_far

pub loop-at-init : goal.loop-at-init
loop-at-init g c = record {
  on = c.requires.from;
  paid = zero-add (leg_cost c.args.shape (g.C.Costs.price c.args.costs.now) c.args.line c.args.from c.args.to);
  most = omega arith;
}

pub step_along-cost-requires-clause-from : goal.step_along-cost-requires-clause-from
step_along-cost-requires-clause-from g c = c.loop-at.invariant.on

pub overflow_add-cost : goal.overflow_add-cost
overflow_add-cost g c =
    let from = few-places c.args.shape c.args.line c.args.from c.requires.from in
    let to = few-places c.args.shape c.args.line c.args.to c.requires.to in
    let next = most-more c.loop-at.at c.args.to (toward c.loop-at.at c.args.to) c.args.from c.loop-at.cost c.step_along-cost.result refl c.loop-at-test.true c.step_along-cost.ensures.most c.loop-at.invariant.most in
    omega (arith, from, to, next)

pub loop-at-preserved : goal.loop-at-preserved
loop-at-preserved g c = record {
  on = next-on-line c.args.shape c.args.line c.loop-at.at c.args.to c.one_toward-at.result c.one_toward-at.ensures c.loop-at-test.true c.loop-at.invariant.on c.requires.to;
  paid =
      paid-more c.args.shape (g.C.Costs.price c.args.costs.now) c.args.line c.loop-at.at c.args.to c.one_toward-at.result c.loop-at.cost
      c.step_along-cost.result (leg_cost c.args.shape (g.C.Costs.price c.args.costs.now) c.args.line c.args.from c.args.to)
      c.one_toward-at.ensures c.loop-at-test.true c.step_along-cost.ensures.cost c.loop-at.invariant.paid;
  most =
      most-more c.loop-at.at c.args.to c.one_toward-at.result c.args.from c.loop-at.cost c.step_along-cost.result
      c.one_toward-at.ensures c.loop-at-test.true c.step_along-cost.ensures.most c.loop-at.invariant.most;
}

pub returns-clause-cost : goal.returns-clause-cost
returns-clause-cost g c =
    paid-all c.args.shape (g.C.Costs.price c.args.costs.now) c.args.line c.loop-at.at c.args.to c.loop-at.cost
    (leg_cost c.args.shape (g.C.Costs.price c.args.costs.now) c.args.line c.args.from c.args.to) c.loop-at-test.false c.loop-at.invariant.paid

pub returns-clause-most : goal.returns-clause-most
returns-clause-most g c = let most = c.loop-at.invariant.most in omega arith
