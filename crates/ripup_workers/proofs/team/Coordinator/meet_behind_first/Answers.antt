use Rattle.ripup_workers.proofs.MeetingSteps.{met-first}
use Rattle.ripup_workers.proofs.team.Coordinator.meet_behind_first.Goals as goal

pub returns : goal.returns
returns g c =
    let ws = c.args.workers.now.items in
    met-first g.N.BookName.capacity (λ w. w.pass) ws c.index_mut.result.now c.meet.new.worker c.args.self.now.pass c.meet.new.self.pass _ _ c.requires c.index_mut.ensures.value c.meet.ensures.own c.meet.ensures.other
    c.meet.ensures.same c.meet_all.ensures
