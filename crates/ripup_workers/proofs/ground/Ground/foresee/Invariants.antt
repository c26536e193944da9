use Rattle.std.proofs.Common.{◌≡◌, ℕ, [], length}
use Rattle.book_state.specs.Replicas.{StandsFor}
use Rattle.run_histories.specs.Attempts.{Rests}
use Rattle.run_histories.specs.RunHistories.{Setting}
use Rattle.ripup_workers.specs.Turning.{IsOver}
use Rattle.ripup_workers.specs.Working.{HasLed}
use Rattle.ripup_workers.proofs.ground.Ground.foresee.Given as goal

-- the worker knows all that it has seen, and has added nothing
abbrev pub invariant-loop : goal.invariant-loop
invariant-loop g l = record {
  held : l.worker.pass.held ≡ length l.worker.pass.seen;
  stands : StandsFor g.N.BookName.capacity l.worker.pass.seen l.worker.replica;
  led : (t : Setting) (round : ℕ) → IsOver l.wish.design.now l.wish.rule.now.formula t → HasLed t round Rests Rests [] l.fn.worker.pass l.worker.pass;
}
