use Rattle.grid_demand.specs.LoadSums.{demand_at}
use Rattle.book_state.proofs.TouchSteps.{notes-none}
use Rattle.book_state.proofs.touches.note_edge.Goals as goal

pub returns-in_err-push-clause-adds : goal.returns-in_err-push-clause-adds
returns-in_err-push-clause-adds c =
    notes-none c.args.capacity.now c.args.sought.now.window (demand_at c.args.loads.now) c.args.touches.now.items c.push.new.self.items c.in_err-push.ensures.items
