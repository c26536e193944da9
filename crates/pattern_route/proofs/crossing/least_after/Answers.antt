use Rattle.std.proofs.Common.{ℕ, List, sym, ◌∙◌}
use Rattle.pattern_route.specs.Walks.{walk_cost, least_of}
use Rattle.pattern_route.specs.Lines.{walk_at, walks_after}
use Rattle.pattern_route.proofs.ChosenLemmas.{best-more, best-all}
use Rattle.pattern_route.proofs.LeastLemmas.{charges, stays-after}
use Rattle.pattern_route.proofs.crossing.least_after.Goals as goal

pub returns-then-best-steps-clause-least : goal.returns-then-best-steps-clause-least
returns-then-best-steps-clause-least g c =
    let shape = c.args.shape in
    let price = g.C.Costs.price c.args.costs.now in
    let least =
    charges shape (g.C.Costs.grid c.args.costs.now) (g.C.Costs.ways c.args.costs.now) price c.requires.grid c.requires.flat (g.met.C.Costs.prices c.args.costs.now) in
    sym (stays-after shape price c.loop-sweep.sweep c.loop-sweep.best c.steps.result least c.loop-sweep.invariant.sweep c.loop-sweep.invariant.best
    c.steps.ensures c.if-best-steps.true) ∙ c.loop-sweep.invariant.least

pub loop-sweep-preserved : goal.loop-sweep-preserved
loop-sweep-preserved g c =
    let shape = c.args.shape in
    let price = g.C.Costs.price c.args.costs.now in
    let cost : List ℕ → ℕ = walk_cost shape price in
    record {
      sweep = c.next-sweep.ensures.sweep;
      best = c.cheaper_at-best.ensures.crossing;
      least = best-more shape cost c.loop-sweep.sweep c.next-sweep.result (walk_at shape c.loop-sweep.best) (walk_at shape c.cheaper_at-best.result)
          (least_of cost (walk_at shape c.args.found) (walks_after shape c.args.first)) c.next-sweep.ensures.span c.next-sweep.ensures.at c.loop-sweep-test.true
          c.cheaper_at-best.ensures.walk c.loop-sweep.invariant.least;
    }

pub returns-clause-least : goal.returns-clause-least
returns-clause-least g c =
    let shape = c.args.shape in
    let cost : List ℕ → ℕ = walk_cost shape (g.C.Costs.price c.args.costs.now) in
    best-all shape cost c.loop-sweep.sweep (walk_at shape c.loop-sweep.best)
    (least_of cost (walk_at shape c.args.found) (walks_after shape c.args.first)) c.loop-sweep-test.false c.loop-sweep.invariant.least
