use Rattle.std.proofs.Common.{◌≡◌, not, filter, take}
use Rattle.gr_base.specs.Trees.{is_among}
use Rattle.net_plan.proofs.maze.others.Given as goal

abbrev pub invariant-loop-goal : goal.invariant-loop-goal
invariant-loop-goal l = l.others.items ≡ filter (λ goal. not (is_among l.walk goal)) (take l.goal-index l.goals)
