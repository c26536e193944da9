use Rattle.grid_demand.specs.LoadSums.{demand_at}
use Rattle.book_state.specs.Still.{lacks_room}
use Rattle.book_state.specs.Touches.{AddsTouches}
use Rattle.book_state.proofs.TouchSteps.{AreNotedTo}
use Rattle.book_state.proofs.touches.note_tree.Given as goal

-- the edges so far are noted
abbrev pub invariant-loop-node : goal.invariant-loop-node
invariant-loop-node l =
    AddsTouches l.capacity l.sought.window (demand_at l.loads) l.fn.touches.items l.touches.items ×
    AreNotedTo (lacks_room l.capacity l.sought.formula l.sought.window (demand_at l.loads) l.sought.net l.beside) l.tree l.node l.touches.items
