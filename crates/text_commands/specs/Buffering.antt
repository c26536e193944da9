-- The command `buffer`: what its files say, and what it writes.
use Rattle.std.specs.Prelude.{◌≡◌, ℕ, ◌<◌, nat_lt, Bool, true, false, List, [], Option, Some, None, Result, Ok, Err, slice_get, IsTrue, IsSomeAnd}
use Rattle.gr_base.specs.Designs.{DesignView, is_routed, pins_at}
use Rattle.gr_base.specs.EdgeSets.{Edges}
use Rattle.gr_base.specs.Plans.{IsRouteOfNet}
use Rattle.gr_base.specs.Trees.{TreeView, IsTree, tree_at}
use Rattle.gr_base.specs.declared.frame.Net.{Net}
use Rattle.gr_io.specs.Devices.{Device, Reading}
use Rattle.gr_io.specs.declared.shelf.Slot.{Slot}
use Rattle.gr_io.specs.declared.shelf.Slot.TheVariants.{Solution}
use Rattle.elmore_delay.specs.declared.plans.Plan.{Plan}
use Rattle.rc_library.specs.Libraries.{LibraryView}
use Rattle.report_text.specs.BufferTexts.{buffers_text}
use Rattle.route_evaluator.specs.NetTrees.{AreTree, HasJust}
use Rattle.route_reader.specs.Solutions.{SolutionView, edges_by}
use Rattle.solution_text.specs.Cover.{cover}
use Rattle.buffer_plan.specs.Plans.{ArePlans}
use Rattle.polar_lists.specs.PolarPlans.{ArePolarPlans}
use Rattle.command_form.specs.Commands.{Command, checked}
use Rattle.command_form.specs.Leaving.{LeavesOut}
use Rattle.command_form.specs.Said.{design_fault, design_said, library_fault, library_said, solution_fault, solution_said}
use Rattle.command_form.specs.declared.stop.Outcome.{Outcome}
use Rattle.command_form.specs.declared.stop.Outcome.TheVariants.{Whole}
use Rattle.command_form.specs.declared.stop.Stop.{Stop}
use Rattle.command_form.specs.declared.stop.Stop.TheVariants.{NotTree, NoMemory}

-- a net's edges are a tree for its pins
abbrev pub HasTree : DesignView → (ℕ → Edges) → ℕ → Type 0
HasTree d sets net = AreTree d.frame.shape (sets net) (pins_at d net)

-- the tree of a net's edges: it has just these, and routes the net
pub record IsTreeBy (d : DesignView) (sets : ℕ → Edges) (net : ℕ) (t : TreeView) : Type 0 where
  pub tree : IsTree t
  pub edges : HasJust (sets net) t
  pub routes : IsRouteOfNet d net t

-- each routed net has the tree of its edges
abbrev pub AreTreesBy : DesignView → (ℕ → Edges) → List (Option TreeView) → Type 0
AreTreesBy d sets trees = (net : ℕ) → IsTrue (is_routed d net) → IsSomeAnd (tree_at trees net) (IsTreeBy d sets net)

-- a stop for the first routed net whose edges aren't a tree, and its id
pub record StopsAtNet (d : DesignView) (sets : ℕ → Edges) (stop : Stop) : Type 0 where
  pub number : ℕ
  pub net : Net
  pub there : slice_get d.nets number ≡ Some net
  pub routed : IsTrue (is_routed d number)
  pub none : ¬ HasTree d sets number
  pub before : (other : ℕ) → other < number → IsTrue (is_routed d other) → HasTree d sets other
  pub is : stop ≡ NotTree net.id

-- plans of the routed nets: for a library of version 1 or 2 an allowed placement, than which none is better, and for
-- one of version 3 a legal one, than which no legal one is better, or none where none is legal
abbrev pub ArePlansBy : (keeps_signals : Bool) → DesignView → LibraryView → List (Option TreeView) →
    List (Option Plan) → Type 0
ArePlansBy true d lib trees plans = ArePlans d lib trees plans
ArePlansBy false d lib trees plans = ArePolarPlans d lib trees plans

abbrev pub AreBestPlans : DesignView → LibraryView → List (Option TreeView) → List (Option Plan) → Type 0
AreBestPlans d lib trees plans = ArePlansBy (nat_lt lib.version 3) d lib trees plans

-- the plans' text of some trees
pub record IsBuffersText (d : DesignView) (lib : LibraryView) (trees : List (Option TreeView)) (text : List ℕ)
    : Type 0 where
  pub plans : List (Option Plan)
  pub planned : AreBestPlans d lib trees plans
  pub says : text ≡ buffers_text d lib trees plans

-- the plans' text of the trees of these sets of edges
pub record IsPlacedText (d : DesignView) (lib : LibraryView) (sets : ℕ → Edges) (outcome : Outcome)
    (text : List ℕ) : Type 0 where
  pub whole : outcome ≡ Whole
  pub trees : List (Option TreeView)
  pub are : AreTreesBy d sets trees
  pub says : IsBuffersText d lib trees text

-- what the files of the command say, where all are accepted
pub record AreAccepted (shelf : Reading) (design_name library_name solution_name : List ℕ) : Type 0 where
  pub design : DesignView
  pub said : IsTrue shelf.tells → design_said shelf.held design_name ≡ Some (Ok design)
  pub library : LibraryView
  pub library_read : IsTrue shelf.tells → library_said shelf.held library_name design ≡ Some (Ok library)
  pub solution : SolutionView
  pub solution_read : IsTrue shelf.tells → solution_said shelf.held solution_name design ≡ Some (Ok solution)

-- the buffers on the trees of the solution that was read, for the design and with the library that were read; where the
-- shelf tells, the trees are those of what the solution's bytes cover
pub record IsBuffering (shelf : Reading) (design_name library_name solution_name text : List ℕ) : Type 0 where
  pub files : AreAccepted shelf design_name library_name solution_name
  pub trees : List (Option TreeView)
  pub are : AreTreesBy files.design (edges_by files.solution) trees
  pub covered : IsTrue shelf.tells →
      IsSomeAnd (shelf.held Solution solution_name) (λ bytes. AreTreesBy files.design (cover files.design bytes) trees)
  pub says : IsBuffersText files.design files.library trees text

-- a routed net of the solution that was read has no tree; where the shelf tells, by what the solution's bytes cover
pub record RefusesNet (shelf : Reading) (design_name library_name solution_name : List ℕ) (stop : Stop) : Type 0 where
  pub files : AreAccepted shelf design_name library_name solution_name
  pub first : StopsAtNet files.design (edges_by files.solution) stop
  pub covered : IsTrue shelf.tells →
      IsSomeAnd (shelf.held Solution solution_name) (λ bytes. StopsAtNet files.design (cover files.design bytes) stop)

-- the tree of one net, or a stop
abbrev pub GivesTree : DesignView → (ℕ → Edges) → ℕ → Result TreeView Stop → Type 0
GivesTree d sets net (Ok t) = IsTreeBy d sets net t × HasTree d sets net
GivesTree d sets net (Err NoMemory) = Unit {0}
GivesTree d sets net (Err stop) =
    (value : Net) → slice_get d.nets net ≡ Some value → (stop ≡ NotTree value.id) × ¬ HasTree d sets net

-- why a solution's trees weren't all made
abbrev pub StopsAtTrees : DesignView → (ℕ → Edges) → Stop → Type 0
StopsAtTrees d sets NoMemory = Unit {0}
StopsAtTrees d sets stop = StopsAtNet d sets stop

-- the tree of each net, or a stop
abbrev pub GiveTrees : DesignView → (ℕ → Edges) → Result (List (Option TreeView)) Stop → Type 0
GiveTrees d sets (Ok trees) = AreTreesBy d sets trees
GiveTrees d sets (Err stop) = StopsAtTrees d sets stop

abbrev pub buffering : {K : Type 0} → (design library solution : List ℕ) → Command K
buffering design library solution = record {
  reads = λ slot. true;
  files = λ shelf. checked (design_said shelf.held design) design_fault
      (λ d. checked (library_said shelf.held library d) library_fault
      (λ lib. checked (solution_said shelf.held solution d) solution_fault (λ s. Some (Ok tt))));
  refuses = λ shelf stop. RefusesNet shelf design library solution stop;
  says = λ shelf kept outcome text report.
      (outcome ≡ Whole) × (kept ≡ None) × (report ≡ []) × IsBuffering shelf design library solution text;
  reports = false;
  is_open = λ shelf. ⊥;
}

-- a reading that began at these counts, of a shelf that held these texts
abbrev pub begun_at : Reading → (held : Slot → List ℕ → Option (List ℕ)) → (faults misses : ℕ) → Reading
begun_at shelf held faults misses = record {
  tells = shelf.tells;
  held = held;
  faults = faults;
  faults_after = shelf.faults_after;
  misses = misses;
  misses_after = shelf.misses_after;
}

-- the buffering of a solution that is still to be opened, where no read failed before, and where texts that the shelf
-- held then say the design and the library
abbrev pub LeavesPlaced : (K : Type 0) → DesignView → LibraryView → (solution : List ℕ) → Reading → (out : Device) →
    Result Outcome Stop → Type 0
LeavesPlaced K d lib solution shelf out end =
    (held : Slot → List ℕ → Option (List ℕ)) (faults misses : ℕ) (design library : List ℕ) →
    shelf.faults ≡ faults → shelf.misses ≡ misses → shelf.held Solution solution ≡ held Solution solution →
    (IsTrue shelf.tells → design_said held design ≡ Some (Ok d)) →
    (IsTrue shelf.tells → library_said held library d ≡ Some (Ok lib)) →
    LeavesOut {K = K} (buffering design library solution) (begun_at shelf held faults misses) out None end
