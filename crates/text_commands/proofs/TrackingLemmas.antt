-- The panels of what was read, and the law of the command.
use Rattle.std.proofs.Common.{◌≡◌, ℕ, List, Option, Some, None, Result, Ok, IsTrue, refl, ap, ◌∙◌}
use Rattle.command_form.specs.Commands.{IsLawful, checked}
use Rattle.command_form.specs.Leaving.{LeavesOut, WritesOne}
use Rattle.command_form.specs.Opening.{IsCovered}
use Rattle.command_form.specs.Said.{design_fault, design_said, solution_fault, solution_said}
use Rattle.command_form.specs.declared.stop.Outcome.{Outcome}
use Rattle.command_form.specs.declared.stop.Stop.{Stop}
use Rattle.command_form.proofs.LeavingLemmas.{open-whole, written-one}
use Rattle.gr_base.specs.Designs.{DesignView}
use Rattle.gr_io.specs.Devices.{Device, Reading}
use Rattle.gr_io.specs.declared.shelf.Slot.TheVariants.{Solution}
use Rattle.ispd_reader.specs.declared.fault.DesignFault.{DesignFault as DesignFaultKind}
use Rattle.panel_text.specs.Texts.{panels_text}
use Rattle.route_reader.specs.Solutions.{SolutionView, edges_by}
use Rattle.solution_text.specs.declared.fault.SolutionFault.{SolutionFault as SolutionFaultKind}
use Rattle.text_commands.specs.Tracking.{tracking, IsPanelsText, IsTracking}
use Rattle.text_commands.proofs.BufferingLemmas.{by-cover}

module _ (shelf : Reading) (design_name solution_name : List ℕ) (d : DesignView) (s : SolutionView)
    (said : IsTrue shelf.tells → design_said shelf.held design_name ≡ Some (Ok d)) (read : IsTrue shelf.tells → solution_said shelf.held solution_name d ≡ Some (Ok s))
    (covered : IsTrue shelf.tells → IsCovered d (shelf.held Solution solution_name) s) where
  is-tracking : (text : List ℕ) → text ≡ panels_text d (edges_by s) → IsTracking shelf design_name solution_name text
  is-tracking text says = record {
    design = d;
    said = said;
    solution = s;
    read = read;
    says = says;
    covered = λ tells. by-cover (λ sets. text ≡ panels_text d sets) d s (shelf.held Solution solution_name) (covered tells) says;
  }

  pub tracked : (K : Type 0) (out : Device) (end : Result Outcome Stop) → shelf.faults_after ≡ shelf.faults →
      WritesOne (IsPanelsText d (edges_by s)) (λ stop. ⊥) out end → LeavesOut (tracking {K = K} design_name solution_name) shelf out None end
  tracked K out end reads is =
      written-one (tracking {K = K} design_name solution_name) shelf out reads (IsPanelsText d (edges_by s))
      (λ outcome text is. (is.whole, refl, refl, is-tracking text is.says)) (λ stop. ⊥) (λ stop no. absurd no) (λ stop no. absurd no) end is

-- the law of the command
pub tracking-lawful : {K : Type 0} → (design solution : List ℕ) → IsLawful {K = K} (tracking design solution)
tracking-lawful design solution = record {
  refuses = λ shelf stop refused. absurd refused;
  accepts = λ shelf kept outcome text report says tells.
      ap (λ (o : Option (Result DesignView (DesignFaultKind × ℕ))). checked o design_fault (λ d. checked (solution_said shelf.held solution d) solution_fault (λ s. Some (Ok tt)))) (says.3.said tells)
      ∙ ap (λ (o : Option (Result SolutionView (SolutionFaultKind × ℕ))). checked o solution_fault (λ s. Some (Ok tt))) (says.3.read tells);
  opens = λ shelf kept text report says tells. absurd (open-whole says.0);
  closes = λ shelf kept text report says tells left. left;
  unkept = λ shelf kept text report says. says.1;
  refuses_read = λ shelf stop refused. absurd refused;
  opens_read = λ shelf kept text report says. refl;
}
