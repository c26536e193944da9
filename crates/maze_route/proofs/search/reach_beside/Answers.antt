use Rattle.maze_route.specs.Steps.{beside}
use Rattle.maze_route.proofs.SpotLemmas.{neighbour-fits, neighbour-covered, on-step}
use Rattle.maze_route.proofs.search.reach_beside.Goals as goal

pub reach-requires : goal.reach-requires
reach-requires g c = record {
  from = c.requires.from;
  small = c.neighbour_on.ensures.cost;
  covered = neighbour-covered c.args.field.now.pane c.args.aim.now c.neighbour_on.result c.requires.guide.fits c.neighbour_on.ensures.inside;
  inside = (neighbour-fits c.args.field.now.pane (g.C.Costs.price c.args.costs.now) c.args.aim.now c.requires.guide c.args.spot.local c.args.from _ _
      (beside c.args.field.now.pane.shape c.args.spot.local c.args.side) c.neighbour_on.result (c.neighbour_on.ensures.step c.args.aim.now) c.requires.size c.requires.key).0;
  keys = (neighbour-fits c.args.field.now.pane (g.C.Costs.price c.args.costs.now) c.args.aim.now c.requires.guide c.args.spot.local c.args.from _ _
      (beside c.args.field.now.pane.shape c.args.spot.local c.args.side) c.neighbour_on.result (c.neighbour_on.ensures.step c.args.aim.now) c.requires.size c.requires.key).1;
}

pub returns-clause-done : goal.returns-clause-done
returns-clause-done g c =
    on-step c.reach.result c.args.from _ _ c.args.front.now c.reach.new.front (c.neighbour_on.ensures.step c.args.aim.now) c.reach.ensures.done
