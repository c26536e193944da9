use Rattle.std.proofs.Common.{◌≡◌}
use Rattle.run_histories.specs.RunHistories.{Setting}
use Rattle.work_share.specs.Views.{IsHandOf}
use Rattle.ripup_workers.specs.Turning.{IsOver, HasWorked}
use Rattle.ripup_workers.proofs.work.work.Given as goal

-- the worker has attempted what it took
abbrev pub invariant-loop : goal.invariant-loop
invariant-loop g l = record {
  hand : IsHandOf l.share l.hand;
  number : l.hand.number ≡ l.fn.hand.number;
  worked : (t : Setting) → IsOver l.task.design.now l.task.rule.now.formula t →
      HasWorked t l.round l.fn.hand.taken l.hand.taken l.fn.worker.pass l.worker.pass;
}
