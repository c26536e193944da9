-- The command `panels`: what its files say, and what it writes.
use Rattle.std.specs.Prelude.{◌≡◌, ℕ, false, List, [], Some, None, Ok, IsTrue, IsSomeAnd}
use Rattle.gr_base.specs.Designs.{DesignView}
use Rattle.gr_base.specs.EdgeSets.{Edges}
use Rattle.gr_io.specs.Devices.{Reading}
use Rattle.gr_io.specs.declared.shelf.Slot.TheVariants.{Solution}
use Rattle.panel_text.specs.Texts.{panels_text}
use Rattle.route_reader.specs.Solutions.{SolutionView, edges_by}
use Rattle.solution_text.specs.Cover.{cover}
use Rattle.command_form.specs.Commands.{Command, checked}
use Rattle.command_form.specs.Said.{design_fault, design_said, solution_fault, solution_said}
use Rattle.command_form.specs.declared.stop.Outcome.{Outcome}
use Rattle.command_form.specs.declared.stop.Outcome.TheVariants.{Whole}
use Rattle.text_commands.specs.Judging.{judging_reads}

-- the panels of these sets of edges
pub record IsPanelsText (d : DesignView) (sets : ℕ → Edges) (outcome : Outcome) (text : List ℕ) : Type 0 where
  pub whole : outcome ≡ Whole
  pub says : text ≡ panels_text d sets

-- the panels of the solution that was read, for the design that was read; where the shelf tells, they are those of what
-- the solution's bytes cover
pub record IsTracking (shelf : Reading) (design_name solution_name text : List ℕ) : Type 0 where
  pub design : DesignView
  pub said : IsTrue shelf.tells → design_said shelf.held design_name ≡ Some (Ok design)
  pub solution : SolutionView
  pub read : IsTrue shelf.tells → solution_said shelf.held solution_name design ≡ Some (Ok solution)
  pub says : text ≡ panels_text design (edges_by solution)
  pub covered : IsTrue shelf.tells →
      IsSomeAnd (shelf.held Solution solution_name) (λ bytes. text ≡ panels_text design (cover design bytes))

abbrev pub tracking : {K : Type 0} → (design solution : List ℕ) → Command K
tracking design solution = record {
  reads = judging_reads;
  files = λ shelf. checked (design_said shelf.held design) design_fault
      (λ d. checked (solution_said shelf.held solution d) solution_fault (λ s. Some (Ok tt)));
  refuses = λ shelf stop. ⊥;
  says = λ shelf kept outcome text report.
      (outcome ≡ Whole) × (kept ≡ None) × (report ≡ []) × IsTracking shelf design solution text;
  reports = false;
  is_open = λ shelf. ⊥;
}
