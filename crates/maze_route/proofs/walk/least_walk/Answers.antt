use Rattle.std.proofs.Common.{sym}
use Rattle.maze_route.proofs.walk.least_walk.Goals as goal

pub least_walk_by-requires-clause-room : goal.least_walk_by-requires-clause-room
least_walk_by-requires-clause-room g c = c.in_ok-begin.ensures c.args.tree.now (sym c.shape.ensures.shape)
