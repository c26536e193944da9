-- The command `route`: the book of its rounds, the text of its routes, and their report.
use Rattle.std.specs.Prelude.{◌≡◌, ℕ, Bool, true, List, ◌++◌, Option, Some, is_some, Result, Ok, take, IsTrue, IsSomeAnd}
use Rattle.gr_base.specs.Designs.{DesignView, IsDesign}
use Rattle.gr_base.specs.EdgeSets.{Edges}
use Rattle.gr_base.specs.Grid.{has_edge, is_wire}
use Rattle.gr_base.specs.Sums.{demand as demand_by}
use Rattle.gr_base.specs.Trees.{TreeView, tree_at}
use Rattle.gr_base.specs.declared.grid.Edge.{Edge}
use Rattle.book_state.specs.Books.{booked, demand as demand_after}
use Rattle.book_state.specs.Marks.{least_mark}
use Rattle.book_state.specs.Views.{BookView}
use Rattle.book_state.specs.declared.entry.Entry.{Entry}
use Rattle.command_form.specs.Commands.{Command, checked}
use Rattle.command_form.specs.Leaving.{Leaves}
use Rattle.command_form.specs.Said.{design_fault, design_said, library_fault, library_said}
use Rattle.command_form.specs.declared.stop.Outcome.{Outcome}
use Rattle.command_form.specs.declared.stop.Outcome.TheVariants.{Whole}
use Rattle.command_form.specs.declared.stop.Stop.{Stop}
use Rattle.elmore_delay.specs.declared.plans.Plan.{Plan}
use Rattle.gr_io.specs.Devices.{Device, Reading}
use Rattle.gr_io.specs.declared.shelf.Slot.{Slot}
use Rattle.gr_io.specs.declared.shelf.Slot.TheVariants.{Design, Library, Solution}
use Rattle.rc_library.specs.Libraries.{LibraryView}
use Rattle.report_text.specs.BufferTexts.{buffers_text}
use Rattle.run_histories.specs.declared.hands.HandLog.{HandLog}
use Rattle.route_evaluator.specs.Verdicts.{IsVerdict}
use Rattle.route_evaluator.specs.declared.verdict.Verdict.{Verdict}
use Rattle.router_top.specs.Beginning.{beginning_files, kept_told, IsBegunFrom}
use Rattle.router_top.specs.Booking.{booked_edges, AllJoined, AreChosenRoutes, AreTrees, IsBookOf, IsVerdictOn}
use Rattle.router_top.specs.Tracing.{rounds_told}
use Rattle.router_top.specs.declared.beginning.Beginning.{Beginning}
use Rattle.router_top.specs.declared.kept.Kept.{Kept}
use Rattle.router_top.specs.declared.routing.RoutedDesign.{RoutedDesign}
use Rattle.solution_text.specs.Cover.{cover}
use Rattle.solution_text.specs.WrittenText.{written_text}
use Rattle.text_commands.specs.Buffering.{AreBestPlans, begun_at}
use Rattle.text_commands.specs.Judging.{report_of}
use Rattle.word_reader.specs.declared.order.Options.{Options}

-- the demand that is booked for each wire edge is the demand of these sets of edges
abbrev pub IsBookedDemand : DesignView → BookView → ℕ → (ℕ → Edges) → Type 0
IsBookedDemand d book front sets =
    (e : Edge) → IsTrue (has_edge d.frame.shape e) → IsTrue (is_wire e) →
    demand_after book.capacity (take front book.history) e ≡ demand_by d sets e

-- what is told between the report and the buffers: how many nets are kept, where rounds begin from a solution, and what
-- each round did, where it is asked for
abbrev pub told_between : DesignView → Beginning → Options → List Entry → List ℕ
told_between d b options h = kept_told d b ++ rounds_told options.trace h

-- the report of a verdict on routes, and the buffers of their plans
abbrev pub routing_report : DesignView → LibraryView → Verdict → (between : List ℕ) → List (Option TreeView) →
    List (Option Plan) → List ℕ
routing_report d lib v between trees plans = report_of v ++ between ++ buffers_text d lib trees plans

-- a design's routes and their report, with the rounds that they are from
pub record IsRoutedDesign (d : DesignView) (lib : LibraryView) (b : Beginning) (options : Options) (r : RoutedDesign)
    : Type 0 where
  pub made : IsBookOf d b.given options r.rounds.book.state r.rounds.hands.items
  pub routes : AreChosenRoutes d r.rounds.book.state r.rounds.chosen r.routes
  pub trees : AreTrees d.frame.shape r.routes
  pub verdict : Verdict
  pub judged : IsVerdictOn d options r.routes verdict
  pub plans : List (Option Plan)
  pub planned : AreBestPlans d lib r.routes plans
  pub reports :
      r.report ≡ routing_report d lib verdict (told_between d b options r.rounds.book.state.history) r.routes plans

-- the text and the report of routes of a design, which rounds made, with buffers of a library: the text is that of the
-- trees booked at the first mark of least overflow; by what it covers, each routed net is joined, booked demand is that
-- of the text, and the first five numbers of the report are the text's; the rest of the report tells, of each routed
-- net, the buffers of a plan than which no allowed one gives its booked tree a greater required time, and that time;
-- what is told between them is that of the whole history
pub record IsRoutingOf (d : DesignView) (lib : LibraryView) (b : Beginning) (options : Options) (book : BookView)
    (hands : List HandLog) (text report : List ℕ) : Type 0 where
  pub design : IsDesign d
  pub made : IsBookOf d b.given options book hands
  pub chosen : ℕ
  pub least : least_mark book.history ≡ Some chosen
  pub says : text ≡ written_text d (booked_edges (take chosen book.history))
  pub joined : AllJoined d (cover d text)
  pub demand : IsBookedDemand d book chosen (cover d text)
  pub verdict : Verdict
  pub judged : IsVerdict d options.via_cost (cover d text) verdict
  pub trees : List (Option TreeView)
  pub booked : (net : ℕ) → tree_at trees net ≡ booked (take chosen book.history) net
  pub plans : List (Option Plan)
  pub planned : AreBestPlans d lib trees plans
  pub reports : report ≡ routing_report d lib verdict (told_between d b options book.history) trees plans

-- they are those of the design and the library that were read, and the rounds begin from the solution that was read, if
-- one is named
pub record IsRouting (shelf : Reading) (design_name library_name : List ℕ) (from : Option (List ℕ)) (options : Options)
    (book : BookView) (hands : List HandLog) (text report : List ℕ) : Type 0 where
  pub design : DesignView
  pub said : IsTrue shelf.tells → design_said shelf.held design_name ≡ Some (Ok design)
  pub library : LibraryView
  pub read : IsTrue shelf.tells → library_said shelf.held library_name design ≡ Some (Ok library)
  pub beginning : Beginning
  pub begun : IsBegunFrom shelf design from beginning
  pub routed : IsRoutingOf design library beginning options book hands text report

-- the texts that it reads
abbrev pub routing_reads : (from : Option (List ℕ)) → Slot → Bool
routing_reads from Design = true
routing_reads from Library = true
routing_reads from Solution = is_some from

abbrev pub routing : (design library : List ℕ) → (from : Option (List ℕ)) → Options → Command Kept
routing design library from options = record {
  reads = routing_reads from;
  files = λ shelf. checked (design_said shelf.held design) design_fault
      (λ d. checked (library_said shelf.held library d) library_fault (λ lib. beginning_files shelf from d));
  refuses = λ shelf stop. ⊥;
  says = λ shelf kept outcome text report.
      (outcome ≡ Whole) ×
      IsSomeAnd kept
      (λ k. IsRouting shelf design library from options k.book.state k.hands.items text report);
  reports = true;
  is_open = λ shelf. ⊥;
}

-- the routing of a design and a library from a beginning, where no read failed and the texts of some names say them
abbrev pub LeavesRouted : DesignView → LibraryView → Beginning → Options → (out err : Device) → Option Kept →
    Result Outcome Stop → Type 0
LeavesRouted d lib b options out err kept end =
    (shelf : Reading) (design library : List ℕ) (from : Option (List ℕ)) → shelf.faults_after ≡ shelf.faults →
    (IsTrue shelf.tells → design_said shelf.held design ≡ Some (Ok d)) →
    (IsTrue shelf.tells → library_said shelf.held library d ≡ Some (Ok lib)) → IsBegunFrom shelf d from b →
    Leaves (routing design library from options) shelf out err kept end

-- the routing from a solution that is still to be opened, where no read failed before, and where texts that the shelf
-- held then say the design and the library
abbrev pub LeavesBegun : DesignView → LibraryView → (from : Option (List ℕ)) → Options → Reading → (out err : Device) →
    Option Kept → Result Outcome Stop → Type 0
LeavesBegun d lib from options shelf out err kept end =
    (held : Slot → List ℕ → Option (List ℕ)) (faults misses : ℕ) (design library : List ℕ) →
    shelf.faults ≡ faults → shelf.misses ≡ misses →
    ((name : List ℕ) → shelf.held Solution name ≡ held Solution name) →
    (IsTrue shelf.tells → design_said held design ≡ Some (Ok d)) →
    (IsTrue shelf.tells → library_said held library d ≡ Some (Ok lib)) →
    Leaves (routing design library from options) (begun_at shelf held faults misses) out err kept end
