-- Routing in batches is decided by what is asked for.
use Rattle.std.specs.Prelude.{◌≡◌, ℕ, List, Option, Some, None, IsTrue}
use Rattle.command_form.specs.Commands.{Asks}
use Rattle.command_form.specs.Statuses.{IsByStatus}
use Rattle.gr_io.specs.Devices.{Device, Reading, Gains}
use Rattle.gr_io.specs.declared.shelf.Slot.TheVariants.{Design, Library}
use Rattle.router_top.specs.Routing.{routing}
use Rattle.router_top.specs.declared.kept.Kept.{Kept}
use Rattle.word_reader.specs.declared.order.Options.{Options}
use Rattle.word_reader.specs.declared.program.Program.TheVariants.{Groute}

-- both ask for batches, for the same ones, whatever the number of workers, and for the same report
pub record AskForSameBatches (one other : Options) : Type 0 where
  pub batch : ℕ
  pub first : one.batch ≡ Some batch
  pub second : other.batch ≡ Some batch
  pub rounds : one.rounds ≡ other.rounds
  pub rule : one.rule ≡ other.rule
  pub via_cost : one.via_cost ≡ other.via_cost
  pub trace : one.trace ≡ other.trace

-- two runs gained one text on out and one report on err
pub record GainAlike (out err out_again err_again : Device) : Type 0 where
  pub text : List ℕ
  pub report : List ℕ
  pub on_out : Gains out text
  pub on_err : Gains err report
  pub on_out_again : Gains out_again text
  pub on_err_again : Gains err_again report

-- the texts of the design and the library, and what is asked for, decide what routing in batches writes: two runs over
-- shelves that tell and hold the same texts gain the same, by any numbers of workers, where both end with 0, and begin
-- from no solution
abbrev pub BatchesDecide : Type 0
BatchesDecide =
    (design library : List ℕ) (one other : Options) (shelf again : Reading) (out err out_again err_again : Device)
    (kept kept_again : Option Kept) → AskForSameBatches one other →
    IsTrue shelf.tells → IsTrue again.tells →
    shelf.held Design design ≡ again.held Design design → shelf.held Library library ≡ again.held Library library →
    IsByStatus Groute (Asks (routing design library None one)) shelf out err kept 0 →
    IsByStatus Groute (Asks (routing design library None other)) again out_again err_again kept_again 0 →
    GainAlike out err out_again err_again
