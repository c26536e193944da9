use Rattle.ginneken_lists.specs.Trails.{chosen_of}
use Rattle.buffer_plan.specs.Following.{sizes_of}
use Rattle.buffer_plan.proofs.FollowingLemmas.{IsUnderWay}
use Rattle.buffer_plan.proofs.placing.place.Given as goal

abbrev pub invariant-loop-mark : goal.invariant-loop-mark
invariant-loop-mark l = IsUnderWay l.nodes l.trail (chosen_of l.trail l.fn.mark) l.marks.items l.placement

abbrev pub decreases-loop-mark : goal.decreases-loop-mark
decreases-loop-mark l = sizes_of l.trail l.marks.items
