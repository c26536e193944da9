use Rattle.std.proofs.Common.{ap, ◌∙◌}
use Rattle.book_state.specs.Views.{BookView}
use Rattle.book_state.specs.declared.entry.Call.TheVariants.{Mark}
use Rattle.run_histories.specs.Rounds.{marker}
use Rattle.batch_rounds.specs.BatchedHistories.{after_call}
use Rattle.batch_rounds.specs.Rounds.{batching_of}
use Rattle.batch_rounds.proofs.RoundSteps.{round-marked}
use Rattle.batch_rounds.proofs.run.run_round.Goals as goal

pub returns-clause-round : goal.returns-clause-round
returns-clause-round g c =
    round-marked (batching_of c.args.due.now.asked.now) c.args.due.now.round c.args.book.now.history c.run_batches.new.book.history c.victims_by.new.self.history c.run_batches.new.book.capacity c.args.due.now.nets.now
    c.in_ok-run_batches.ensures.capacity c.requires.due c.in_ok-run_batches.ensures.batches
    (ap (λ (b : BookView). b.history) c.victims_by.ensures.same ∙ c.in_ok-overflow.ensures.history
    ∙ ap (λ (b : BookView). after_call b.capacity b.history marker Mark) c.find_overfull.ensures)
