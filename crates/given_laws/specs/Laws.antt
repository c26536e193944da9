-- What a run that begins from a solution's routes promises of them.
use Rattle.std.specs.Prelude.{◌≡◌, ◌≤◌, ◌↔◌, ℕ, List, ◌++◌, Option, Some, Ok, IsTrue}
use Rattle.command_form.specs.Commands.{Asks}
use Rattle.command_form.specs.Said.{design_said}
use Rattle.command_form.specs.Statuses.{IsByStatus}
use Rattle.gr_base.specs.Designs.{DesignView, is_routed}
use Rattle.gr_base.specs.EdgeSets.{Edges}
use Rattle.gr_base.specs.declared.grid.Edge.{Edge}
use Rattle.gr_io.specs.Devices.{Device, Reading, Gains}
use Rattle.gr_io.specs.declared.shelf.Slot.TheVariants.{Solution}
use Rattle.kept_routes.specs.Kept.{CanBeKept, IsNeeded}
use Rattle.route_evaluator.specs.Verdicts.{IsVerdict}
use Rattle.route_evaluator.specs.declared.verdict.Verdict.{Verdict}
use Rattle.router_top.specs.Routing.{routing}
use Rattle.router_top.specs.declared.kept.Kept.{Kept}
use Rattle.solution_text.specs.Cover.{cover}
use Rattle.text_commands.specs.Judging.{report_of}
use Rattle.word_reader.specs.declared.order.Options.{Options}
use Rattle.word_reader.specs.declared.program.Program.TheVariants.{Groute}

-- by these edges each routed net can be kept: none is open
abbrev pub AreAllKept : DesignView → (sets : ℕ → Edges) → Type 0
AreAllKept d sets = (net : ℕ) → IsTrue (is_routed d net) → CanBeKept d sets net

-- a verdict tells at most the total overflow of another, and where it tells as much, at most its greatest overflow, its
-- wirelength and its vias
pub record IsNoWorse (verdict other : Verdict) : Type 0 where
  pub total : verdict.total ≤ other.total
  pub max : verdict.total ≡ other.total → verdict.max ≤ other.max
  pub wirelength : verdict.total ≡ other.total → verdict.wirelength ≤ other.wirelength
  pub vias : verdict.total ≡ other.total → verdict.vias ≤ other.vias

-- err gained a report that begins with a verdict's, which is no worse than another
pub record ReportsNoWorse (err : Device) (other : Verdict) : Type 0 where
  pub own : Verdict
  pub no_worse : IsNoWorse own other
  pub more : List ℕ
  pub gains : Gains err (report_of own ++ more)

-- out gained a text, which covers of each net that can be kept by these edges just those that lie on ways from its
-- driver to its pins
pub record WritesAsGiven (out : Device) (d : DesignView) (sets : ℕ → Edges) : Type 0 where
  pub text : List ℕ
  pub gains : Gains out text
  pub as_given : (net : ℕ) → CanBeKept d sets net → (e : Edge) → IsTrue (cover d text net e) ↔ IsNeeded d sets net e

-- `route` from a solution by which no routed net is open, where it ends with 0, reports no worse than the verdict on
-- that solution, by the same via cost
abbrev pub NeverWorse : Type 0
NeverWorse =
    (design library solution : List ℕ) (options : Options) (shelf : Reading) (out err : Device) (kept : Option Kept)
    (d : DesignView) (bytes : List ℕ) (other : Verdict) → IsTrue shelf.tells →
    design_said shelf.held design ≡ Some (Ok d) → shelf.held Solution solution ≡ Some bytes →
    AreAllKept d (cover d bytes) → IsVerdict d options.via_cost (cover d bytes) other →
    IsByStatus Groute (Asks (routing design library (Some solution) options)) shelf out err kept 0 →
    ReportsNoWorse err other

-- `route` in no rounds from a solution, where it ends with 0, writes of each net that can be kept as that solution
-- routes it just that route, without stubs
abbrev pub KeptAsGiven : Type 0
KeptAsGiven =
    (design library solution : List ℕ) (options : Options) (shelf : Reading) (out err : Device) (kept : Option Kept)
    (d : DesignView) (bytes : List ℕ) → IsTrue shelf.tells →
    design_said shelf.held design ≡ Some (Ok d) → shelf.held Solution solution ≡ Some bytes → options.rounds ≡ 0 →
    IsByStatus Groute (Asks (routing design library (Some solution) options)) shelf out err kept 0 →
    WritesAsGiven out d (cover d bytes)
