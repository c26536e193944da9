-- What is left where texts are written.
use Rattle.std.proofs.Common.{◌≡◌, ℕ, inl, inr, List, [], Option, None, Result, Ok, Err, IsTrue, refl, sym, subst, append-nil, ◌∙◌}
use Rattle.gr_io.specs.Devices.{Device, Reading, IsUntouched, Gains, GainsPart}
use Rattle.command_form.specs.Commands.{Command}
use Rattle.command_form.specs.Leaving.{IsDone, FailsToWrite, Leaves, LeavesOut, LeavesAlone, SomeIsCut, IsWritten, WritesOne, WritesOut}
use Rattle.command_form.specs.declared.stop.Outcome.{Outcome}
use Rattle.command_form.specs.declared.stop.Outcome.TheVariants.{Whole, Open}
use Rattle.command_form.specs.declared.stop.Stop.{Stop}
use Rattle.command_form.specs.declared.stop.Stop.TheVariants.{Usage, Fault, NotTree, ReadFailed, WriteFailed, NoMemory}

-- what is whole isn't open
pub open-whole : Open ≡ Whole → ⊥
open-whole is = cc

-- an untouched sink gained the empty text
pub gains-nothing : (device : Device) → IsUntouched device → Gains device []
gains-nothing device untouched = record { faults = untouched.faults; written = λ tells. untouched.written tells ∙ sym (append-nil device.written) }

-- a text and its report, as they were written
pub written : {K : Type 0} (command : Command K) (shelf : Reading) (out err : Device) (kept : Option K) (text report : List ℕ) (end : Result Outcome Stop) →
    IsTrue command.reports → shelf.faults_after ≡ shelf.faults → command.says shelf kept Whole text report →
    IsWritten text report out err end → Leaves command shelf out err kept end
written command shelf out err kept text report (Ok outcome) reports reads says is =
    subst (IsDone command shelf out err kept) (sym is.0)
    (record { reads = reads; text = text; report = report; out_gains = is.1; err_gains = is.2; says = says })
written command shelf out err kept text report (Err Usage) reports reads says is = absurd is
written command shelf out err kept text report (Err (Fault which number token)) reports reads says is = absurd is
written command shelf out err kept text report (Err (NotTree id)) reports reads says is = absurd is
written command shelf out err kept text report (Err ReadFailed) reports reads says is = absurd is
written command shelf out err kept text report (Err WriteFailed) reports reads says is = cut is
  where
    cut : SomeIsCut text report out err → FailsToWrite command shelf out err kept
    cut (inl first) =
        inl (record {
          reads = reads;
          cause = first.0;
          part = record { outcome = Whole; text = text; report = report; part = first.1; says = says };
          silent = first.2;
        })
    cut (inr second) =
        inr (record {
          reads = reads;
          outcome = Whole;
          text = text;
          report = report;
          reports = reports;
          out_gains = second.0;
          cause = second.1;
          part = second.2;
          says = says;
        })
written command shelf out err kept text report (Err NoMemory) reports reads says is =
    (inr (record { outcome = Whole; text = text; report = report; part = is.0; says = says }), is.1)

-- one of a command's texts, as it was written on out, or the stop before it, which is for a net without a tree
module _ {K : Type 0} (command : Command K) (shelf : Reading) (out : Device) (reads : shelf.faults_after ≡ shelf.faults) (says : Outcome → List ℕ → Type 0)
    (said : (outcome : Outcome) (text : List ℕ) → says outcome text → command.says shelf None outcome text []) (stops : Stop → Type 0)
    (is_net : (stop : Stop) → stops stop → (id : ℕ) × (stop ≡ NotTree id)) (refuses : (stop : Stop) → stops stop → command.refuses shelf stop) where
  other : (stop : Stop) → ((id : ℕ) → stop ≡ NotTree id → ⊥) → stops stop × IsUntouched out → ⊥
  other stop apart is = let net = is_net stop is.0 in apart net.0 net.1

  pub written-one : (end : Result Outcome Stop) → WritesOne says stops out end → LeavesOut command shelf out None end
  written-one (Ok outcome) is err untouched = record {
    reads = reads;
    text = is.text;
    report = [];
    out_gains = is.gains;
    err_gains = gains-nothing err untouched;
    says = said outcome is.text is.said;
  }
  written-one (Err WriteFailed) is err untouched =
      inl (record {
        reads = reads;
        cause = is.cause;
        part = record { outcome = is.outcome; text = is.text; report = []; part = is.part; says = said is.outcome is.text is.said };
        silent = untouched;
      })
  written-one (Err NoMemory) is err untouched = (inl (is, refl), untouched)
  written-one (Err (NotTree id)) is err untouched =
      (record { reads = reads; refuses = refuses (NotTree id) is.0; unwritten = is.1 }, (untouched, refl))
  written-one (Err Usage) is err untouched = absurd (other Usage (λ id same. cc) is)
  written-one (Err (Fault which number token)) is err untouched = absurd (other (Fault which number token) (λ id same. cc) is)
  written-one (Err ReadFailed) is err untouched = absurd (other ReadFailed (λ id same. cc) is)

-- a sink that gained nothing gained a first part of each text
pub nothing-part : (device : Device) (text : List ℕ) → IsUntouched device → GainsPart device text
nothing-part device text untouched = λ tells. record {
  done = [];
  rest = text;
  written = untouched.written tells ∙ sym (append-nil device.written);
  whole = refl;
}

-- a command that wrote its text on out alone
pub leaves-alone : {K : Type 0} (command : Command K) (out : Device) (kept : Option K) (text : List ℕ) (end : Result Outcome Stop) →
    ((shelf : Reading) → command.says shelf kept Whole text []) → WritesOut text out end → LeavesAlone command out kept end
leaves-alone command out kept text (Ok outcome) says is = λ shelf reads err untouched.
    subst (λ (o : Outcome). Leaves command shelf out err kept (Ok o)) (sym is.0)
    (record { reads = reads; text = text; report = []; out_gains = is.1; err_gains = gains-nothing err untouched; says = says shelf })
leaves-alone command out kept text (Err Usage) says is = absurd is
leaves-alone command out kept text (Err (Fault which number token)) says is = absurd is
leaves-alone command out kept text (Err (NotTree id)) says is = absurd is
leaves-alone command out kept text (Err ReadFailed) says is = absurd is
leaves-alone command out kept text (Err WriteFailed) says is = λ shelf reads err untouched.
    inl (record {
      reads = reads;
      cause = is.0;
      part = record { outcome = Whole; text = text; report = []; part = is.1; says = says shelf };
      silent = untouched;
    })
leaves-alone command out kept text (Err NoMemory) says is = λ shelf reads err untouched.
    (inr (record { outcome = Whole; text = text; report = []; part = nothing-part out text is; says = says shelf }), untouched)

-- memory was wanting before anything was written
pub wants-memory : {K : Type 0} (command : Command K) (shelf : Reading) (out err : Device) (kept : Option K) (end : Result Outcome Stop) →
    end ≡ Err NoMemory → kept ≡ None → IsUntouched out → IsUntouched err → Leaves command shelf out err kept end
wants-memory {K = K} command shelf out err kept end is none unwritten silent =
    subst (Leaves command shelf out err kept) (sym is)
    (subst (λ (k : Option K). Leaves command shelf out err k (Err NoMemory)) (sym none) (inl (unwritten, refl), silent))
