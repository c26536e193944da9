use Rattle.std.proofs.Common.{refl, ◌∙◌, arith}
use Rattle.maze_route.proofs.RunLemmas.{run-turn}
use Rattle.maze_route.proofs.runs.price_each.Goals as goal

pub loop-place-preserved : goal.loop-place-preserved
loop-place-preserved g c =
    run-turn (g.C.Costs.price c.args.costs.now) c.args.from c.args.first c.loop-place.place c.held_for.result c.args.prices.now.items c.loop-place.prices.items _ c.loop-place.invariant
    (omega (arith, c.loop-place.invariant.size, c.requires.inside, c.loop-place-test.true)) refl (c.held_for.ensures ∙ c.cost.ensures.price)
