use Rattle.std.proofs.Common.{take, All}
use Rattle.grid_demand.specs.LoadSums.{demand_at}
use Rattle.book_state.specs.Touches.{IsSettled}
use Rattle.book_state.proofs.touches.are_settled.Given as goal

-- the edges so far leave the plan the best
abbrev pub invariant-loop-touch : goal.invariant-loop-touch
invariant-loop-touch l =
    All (IsSettled l.capacity l.sought.formula l.sought.net l.sought.tree.now (demand_at l.loads)) (take l.touch-index l.touches)
