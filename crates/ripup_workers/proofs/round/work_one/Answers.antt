use Rattle.ripup_workers.proofs.JoiningAttempts.{of-ok}
use Rattle.ripup_workers.proofs.round.work_one.Goals as goal

pub returns : goal.returns
returns g c = record {
  hand_of = c.work-member.ensures.hand;
  number = c.work-member.ensures.number;
  worked = λ is t over. of-ok c.work-member.result tt _ is (c.work-member.ensures.worked t over);
}
