-- The command `trial`, which reads no texts: the book of a made design's rounds, and the report of its routes.
use Rattle.std.specs.Prelude.{◌≡◌, ℕ, false, List, [], ◌++◌, take, Some, Ok, IsSomeAnd}
use Rattle.book_state.specs.Marks.{least_mark}
use Rattle.book_state.specs.Views.{BookView}
use Rattle.command_form.specs.Commands.{Command}
use Rattle.command_form.specs.declared.stop.Outcome.TheVariants.{Whole}
use Rattle.design_maker.specs.Texts.{text_of}
use Rattle.design_maker.specs.declared.made.Made.{Made}
use Rattle.gr_base.specs.Designs.{DesignView}
use Rattle.ispd_reader.specs.DesignText.{design_of}
use Rattle.run_histories.specs.declared.hands.HandLog.{HandLog}
use Rattle.route_evaluator.specs.Verdicts.{IsVerdict}
use Rattle.route_evaluator.specs.declared.verdict.Verdict.{Verdict}
use Rattle.router_top.specs.Booking.{booked_edges, IsBookOf}
use Rattle.router_top.specs.Tracing.{rounds_told}
use Rattle.router_top.specs.declared.kept.Kept.{Kept}
use Rattle.text_commands.specs.Judging.{report_of}
use Rattle.word_reader.specs.declared.order.Options.{Options}

-- the report of the routes of the design that the made text says, which are the trees booked at the first mark of least
-- overflow; and what each round did, where it is asked for
pub record IsTried (made : Made) (options : Options) (book : BookView) (hands : List HandLog)
    (text : List ℕ) : Type 0 where
  pub design : DesignView
  pub said : design_of (text_of made) ≡ Ok design
  pub rounds_are : IsBookOf design [] options book hands
  pub chosen : ℕ
  pub least : least_mark book.history ≡ Some chosen
  pub verdict : Verdict
  pub judged : IsVerdict design options.via_cost (booked_edges (take chosen book.history)) verdict
  pub says : text ≡ report_of verdict ++ rounds_told options.trace book.history

abbrev pub trying : Made → Options → Command Kept
trying made options = record {
  reads = λ slot. false;
  files = λ shelf. Some (Ok tt);
  refuses = λ shelf stop. ⊥;
  says = λ shelf kept outcome text report.
      (outcome ≡ Whole) × (report ≡ []) × IsSomeAnd kept (λ k. IsTried made options k.book.state k.hands.items text);
  reports = false;
  is_open = λ shelf. ⊥;
}
