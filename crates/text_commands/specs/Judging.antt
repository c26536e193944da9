-- The command `evaluate`: what its files say, and what it writes.
use Rattle.std.specs.Prelude.{◌≡◌, ℕ, Bool, true, false, List, [], ◌∷◌, ◌++◌, Option, Some, None, Ok, IsTrue, IsSomeAnd}
use Rattle.gr_base.specs.Designs.{DesignView}
use Rattle.gr_base.specs.EdgeSets.{Edges}
use Rattle.gr_io.specs.Devices.{Reading}
use Rattle.gr_io.specs.declared.shelf.Slot.{Slot}
use Rattle.gr_io.specs.declared.shelf.Slot.TheVariants.{Design, Library, Solution}
use Rattle.report_text.specs.Texts.{report_text, unjoined_text}
use Rattle.route_evaluator.specs.Verdicts.{IsVerdict, IsUnjoined}
use Rattle.route_evaluator.specs.declared.verdict.Verdict.{Verdict}
use Rattle.route_reader.specs.Solutions.{SolutionView, edges_by}
use Rattle.solution_text.specs.Cover.{cover}
use Rattle.command_form.specs.Commands.{Command, checked}
use Rattle.command_form.specs.Said.{design_fault, design_said, solution_fault, solution_said}
use Rattle.command_form.specs.declared.stop.Outcome.{Outcome}
use Rattle.command_form.specs.declared.stop.Outcome.TheVariants.{Whole, Open}

-- nothing is open where no routed net is unjoined
abbrev pub outcome_of : List ℕ → Outcome
outcome_of [] = Whole
outcome_of (net ∷ nets) = Open

-- the report of a verdict
abbrev pub report_of : Verdict → List ℕ
report_of v = report_text v.routed v.total v.max v.wirelength v.vias

-- the report of a verdict, and the nets that it finds unjoined
abbrev pub verdict_text : DesignView → Verdict → List ℕ
verdict_text d v = report_of v ++ unjoined_text d.nets v.unjoined

-- a verdict on these sets of edges, and its text
pub record IsVerdictText (d : DesignView) (sets : ℕ → Edges) (via_cost : ℕ) (outcome : Outcome)
    (text : List ℕ) : Type 0 where
  pub verdict : Verdict
  pub judged : IsVerdict d via_cost sets verdict
  pub says : text ≡ verdict_text d verdict
  pub ends : outcome ≡ outcome_of verdict.unjoined

-- a verdict on what the held bytes cover
abbrev pub IsCoverVerdict : DesignView → (via_cost : ℕ) → Option (List ℕ) → Verdict → Type 0
IsCoverVerdict d via_cost held v = IsSomeAnd held (λ bytes. IsVerdict d via_cost (cover d bytes) v)

-- a verdict on the solution that was read, for the design that was read, and its text; where the shelf tells, it is the
-- verdict on what the solution's bytes cover
pub record IsJudging (shelf : Reading) (design_name solution_name : List ℕ) (via_cost : ℕ)
    (outcome : Outcome) (text : List ℕ) : Type 0 where
  pub design : DesignView
  pub said : IsTrue shelf.tells → design_said shelf.held design_name ≡ Some (Ok design)
  pub solution : SolutionView
  pub read : IsTrue shelf.tells → solution_said shelf.held solution_name design ≡ Some (Ok solution)
  pub verdict : Verdict
  pub judged : IsVerdict design via_cost (edges_by solution) verdict
  pub covered : IsTrue shelf.tells → IsCoverVerdict design via_cost (shelf.held Solution solution_name) verdict
  pub says : text ≡ verdict_text design verdict
  pub ends : outcome ≡ outcome_of verdict.unjoined

-- by what the solution's bytes cover, some routed net isn't joined
pub record HasOpenNet (shelf : Reading) (design_name solution_name : List ℕ) : Type 0 where
  pub design : DesignView
  pub said : design_said shelf.held design_name ≡ Some (Ok design)
  pub bytes : List ℕ
  pub held : shelf.held Solution solution_name ≡ Some bytes
  pub net : ℕ
  pub unjoined : IsUnjoined design (cover design bytes) net

-- the texts that it reads
abbrev pub judging_reads : Slot → Bool
judging_reads Design = true
judging_reads Library = false
judging_reads Solution = true

abbrev pub judging : {K : Type 0} → (design solution : List ℕ) → (via_cost : ℕ) → Command K
judging design solution via_cost = record {
  reads = judging_reads;
  files = λ shelf. checked (design_said shelf.held design) design_fault
      (λ d. checked (solution_said shelf.held solution d) solution_fault (λ s. Some (Ok tt)));
  refuses = λ shelf stop. ⊥;
  says = λ shelf kept outcome text report.
      (kept ≡ None) × (report ≡ []) × IsJudging shelf design solution via_cost outcome text;
  reports = false;
  is_open = λ shelf. HasOpenNet shelf design solution;
}
