use Rattle.ripup_workers.proofs.MeetingSteps.{mark-answered}
use Rattle.ripup_workers.proofs.team.Coordinator.mark.Goals as goal

pub unreachable-requires : goal.unreachable-requires
unreachable-requires g c =
    let answer = mark-answered g.N.BookName.capacity c.args.self.now.pass c.mark.new.pass c.in_ok-overflow.field-0 c.in_ok-overflow.ensures.reply in
    c.in_default.not-Marked answer.0 answer.1
