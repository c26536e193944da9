use Rattle.std.specs.Prelude.{map}
use Rattle.ripup_workers.proofs.MeetingSteps.{HaveMetSome}
use Rattle.ripup_workers.proofs.team.Coordinator.meet_all.Given as goal

-- the coordinator has met the workers so far
abbrev pub invariant-loop-at : goal.invariant-loop-at
invariant-loop-at g l =
    HaveMetSome g.N.BookName.capacity l.at l.fn.self.pass l.self.pass (map (λ w. w.pass) l.fn.workers.items) (map (λ w. w.pass) l.workers.items)
