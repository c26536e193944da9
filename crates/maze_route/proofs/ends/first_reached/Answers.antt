use Rattle.std.proofs.Common.{get_or, refl}
use Rattle.maze_route.specs.Labels.{label_at}
use Rattle.maze_route.proofs.EndLemmas.{first-turn}
use Rattle.maze_route.proofs.ends.first_reached.Goals as goal

pub loop-end-preserved : goal.loop-end-preserved
loop-end-preserved c =
    first-turn (label_at c.args.labels.now.costs.items) c.args.ends.now c.loop-end.end-index (get_or c.args.ends.now c.loop-end.end-index 0) 0 c.loop-end.first c.earlier-first.result c.at.result
    c.loop-end-test.true refl c.at.ensures c.earlier-first.ensures c.loop-end.invariant
