-- A buffering, and what the files of it say.
use Rattle.std.proofs.Common.{◌≡◌, ℕ, ◌+◌, ◌<◌, ◌≤◌, ◌⊎◌, inl, inr, List, length, slice_set, get_or, Option, Some, None, Result, Ok, Err, IsTrue, refl, sym, ap, subst, ◌∙◌, arith}
use Rattle.std.proofs.Math.Path.{fun_ext}
use Rattle.std.proofs.lemmas.Bool.{cases_eq}
use Rattle.std.specs.Option.{IsSomeAnd, option_and_then, option_map}
use Rattle.std.proofs.lemmas.List.{get_or-set_same, get_or-set_other, length-set}
use Rattle.std.proofs.lemmas.Option.{slice_get-get_or, slice_get_within}
use Rattle.gr_base.proofs.DesignLemmas.{IsNetOf, routed-net}
use Rattle.gr_base.specs.Designs.{DesignView, is_routed}
use Rattle.gr_base.specs.EdgeSets.{Edges}
use Rattle.gr_base.specs.Trees.{TreeView, tree_at}
use Rattle.gr_io.specs.Devices.{Device, Reading, IsUntouched}
use Rattle.gr_io.specs.Counts.{Rose}
use Rattle.gr_io.specs.declared.shelf.Slot.{Slot}
use Rattle.gr_io.specs.declared.shelf.Slot.TheVariants.{Design, Library, Solution}
use Rattle.ispd_reader.specs.declared.fault.DesignFault.{DesignFault as DesignFaultKind}
use Rattle.rc_library.specs.Libraries.{LibraryView}
use Rattle.rc_library.specs.declared.fault.LibraryFault.{LibraryFault as LibraryFaultKind}
use Rattle.route_reader.specs.SolutionText.{solution_of}
use Rattle.solution_text.specs.declared.fault.SolutionFault.{SolutionFault as SolutionFaultKind}
use Rattle.route_reader.specs.Solutions.{SolutionView, edges_by}
use Rattle.solution_text.specs.Cover.{cover}
use Rattle.text_commands.specs.Buffering.{HasTree, IsTreeBy, AreTreesBy, StopsAtNet, AreAccepted, IsBuffersText, IsPlacedText, IsBuffering, RefusesNet, GivesTree, StopsAtTrees, buffering}
use Rattle.command_form.proofs.LeavingLemmas.{open-whole, written-one}
use Rattle.command_form.specs.Commands.{IsLawful, checked}
use Rattle.command_form.specs.Leaving.{IsMissing, LeavesOut, WritesOne}
use Rattle.command_form.specs.Opening.{IsCovered, Opens}
use Rattle.command_form.specs.Said.{design_fault, design_said, library_fault, library_said, solution_fault, solution_said}
use Rattle.command_form.specs.declared.stop.Outcome.{Outcome}
use Rattle.command_form.specs.declared.stop.Stop.{Stop}
use Rattle.command_form.specs.declared.stop.Stop.TheVariants.{Usage, Fault, NotTree, ReadFailed, WriteFailed, NoMemory}

-- what holds of the sets of edges that a solution's runs cover holds of those that the held bytes cover
pub by-cover : (P : (ℕ → Edges) → Type 0) (d : DesignView) (s : SolutionView) (held : Option (List ℕ)) → IsCovered d held s → P (edges_by s) →
    IsSomeAnd held (λ bytes. P (cover d bytes))
by-cover P d s None covered holds = covered
by-cover P d s (Some bytes) covered holds = subst P (fun_ext (λ net. fun_ext (λ e. covered net e))) holds

-- the files of a buffering, and that the runs of the solution are those of its bytes
pub record AreRead (shelf : Reading) (design_name library_name solution_name : List ℕ) : Type 0 where
  pub files : AreAccepted shelf design_name library_name solution_name
  pub covered : IsTrue shelf.tells → IsCovered files.design (shelf.held Solution solution_name) files.solution

-- once the solution was opened last, where the shelf held what it held at first
abbrev pub are-read : (shelf : Reading) (design_name library_name solution_name : List ℕ) (d : DesignView) (lib : LibraryView) (s : SolutionView)
    (solution : Option (List ℕ)) → (IsTrue shelf.tells → design_said shelf.held design_name ≡ Some (Ok d)) →
    (IsTrue shelf.tells → library_said shelf.held library_name d ≡ Some (Ok lib)) →
    solution ≡ shelf.held Solution solution_name → (IsTrue shelf.tells → option_map (solution_of d) solution ≡ Some (Ok s)) →
    (IsTrue shelf.tells → IsCovered d solution s) → AreRead shelf design_name library_name solution_name
are-read shelf design_name library_name solution_name d lib s solution said library_read kept solution_read covered = record {
  files = record {
    design = d;
    said = said;
    library = lib;
    library_read = library_read;
    solution = s;
    solution_read = λ tells. ap (option_map (solution_of d)) (sym kept) ∙ solution_read tells;
  };
  covered = λ tells. subst (λ (o : Option (List ℕ)). IsCovered d o s) kept (covered tells);
}

-- the texts of a buffering, all of which are accepted
module _ (shelf : Reading) (design_name library_name solution_name : List ℕ) (files : AreAccepted shelf design_name library_name solution_name)
    (covered : IsTrue shelf.tells → IsCovered files.design (shelf.held Solution solution_name) files.solution) where
  is-buffering : (trees : List (Option TreeView)) (text : List ℕ) → AreTreesBy files.design (edges_by files.solution) trees →
      IsBuffersText files.design files.library trees text → IsBuffering shelf design_name library_name solution_name text
  is-buffering trees text are says = record {
    files = files;
    trees = trees;
    are = are;
    covered = λ tells. by-cover (λ sets. AreTreesBy files.design sets trees) files.design files.solution (shelf.held Solution solution_name) (covered tells) are;
    says = says;
  }

  refused : (stop : Stop) → StopsAtNet files.design (edges_by files.solution) stop → RefusesNet shelf design_name library_name solution_name stop
  refused stop first = record {
    files = files;
    first = first;
    covered = λ tells. by-cover (λ sets. StopsAtNet files.design sets stop) files.design files.solution (shelf.held Solution solution_name) (covered tells) first;
  }

  -- what was written, or the stop before it, is what the command leaves
  pub placed : (K : Type 0) (out : Device) (end : Result Outcome Stop) → shelf.faults_after ≡ shelf.faults →
      WritesOne (IsPlacedText files.design files.library (edges_by files.solution)) (StopsAtNet files.design (edges_by files.solution)) out end →
      LeavesOut (buffering {K = K} design_name library_name solution_name) shelf out None end
  placed K out end reads is =
      written-one (buffering {K = K} design_name library_name solution_name) shelf out reads (IsPlacedText files.design files.library (edges_by files.solution))
      (λ outcome text is. (is.whole, refl, refl, is-buffering is.trees text is.are is.says))
      (StopsAtNet files.design (edges_by files.solution)) (λ stop first. (first.net.id, first.is)) refused end is

-- a stop at a solution's trees, before anything was written
pub stops-unwritten : (d : DesignView) (sets : ℕ → Edges) (says : Outcome → List ℕ → Type 0) (out : Device) (stop : Stop) → IsUntouched out →
    StopsAtTrees d sets stop → WritesOne says (StopsAtNet d sets) out (Err stop)
stops-unwritten d sets says out NoMemory untouched is = untouched
stops-unwritten d sets says out WriteFailed untouched is = absurd (let same = is.is in cc)
stops-unwritten d sets says out Usage untouched is = (is, untouched)
stops-unwritten d sets says out (Fault which number token) untouched is = (is, untouched)
stops-unwritten d sets says out (NotTree id) untouched is = (is, untouched)
stops-unwritten d sets says out ReadFailed untouched is = (is, untouched)

-- a net whose edges aren't a tree, behind nets that have theirs, is a stop
pub stops-at : (d : DesignView) (sets : ℕ → Edges) (net : ℕ) (stop : Stop) → IsTrue (is_routed d net) →
    ((other : ℕ) → other < net → IsTrue (is_routed d other) → HasTree d sets other) → GivesTree d sets net (Err stop) → StopsAtTrees d sets stop
stops-at d sets net stop routed before given = by stop given
  where
    one : IsNetOf d net
    one = routed-net d net routed

    stopped-by : (stop : Stop) → (stop ≡ NotTree one.net.id) × (HasTree d sets net → ⊥) → StopsAtNet d sets stop
    stopped-by stop is = record {
      number = net;
      net = one.net;
      there = one.there;
      routed = routed;
      none = is.1;
      before = before;
      is = is.0;
    }

    by : (stop : Stop) → GivesTree d sets net (Err stop) → StopsAtTrees d sets stop
    by NoMemory given = tt
    by (NotTree id) given = stopped-by (NotTree id) (given one.net one.there)
    by Usage given = stopped-by Usage (given one.net one.there)
    by (Fault which number token) given = stopped-by (Fault which number token) (given one.net one.there)
    by ReadFailed given = stopped-by ReadFailed (given one.net one.there)
    by WriteFailed given = stopped-by WriteFailed (given one.net one.there)

-- so many nets have the trees of their edges
pub record AreTreesBelow (most : ℕ) (d : DesignView) (sets : ℕ → Edges) (trees : List (Option TreeView)) : Type 0 where
  pub trees_are : (net : ℕ) → net < most → IsTrue (is_routed d net) → IsSomeAnd (tree_at trees net) (IsTreeBy d sets net)
  pub have : (net : ℕ) → net < most → IsTrue (is_routed d net) → HasTree d sets net

get-tree : (trees : List (Option TreeView)) (net : ℕ) → net < length trees → tree_at trees net ≡ get_or trees net None
get-tree trees net below = ap (option_and_then (λ (tree : Option TreeView). tree)) (slice_get-get_or trees net None below)

-- one more net, with its tree
pub below-next : (d : DesignView) (sets : ℕ → Edges) (trees : List (Option TreeView)) (net : ℕ) (t : TreeView) → net < length trees →
    GivesTree d sets net (Ok t) → AreTreesBelow net d sets trees → AreTreesBelow (net + 1) d sets (slice_set trees net (Some t))
below-next d sets trees net t within gives are = record {
  trees_are = λ other below routed. elim (cases_eq other net) [
    | inl same ↦
        subst (λ (n : ℕ). IsSomeAnd (tree_at after n) (IsTreeBy d sets n)) (sym same)
        (subst (λ (o : Option TreeView). IsSomeAnd o (IsTreeBy d sets net)) (sym has-set) gives.0)
    | inr apart ↦
        let earlier : other < net = omega (arith, below, apart) in
        subst (λ (o : Option TreeView). IsSomeAnd o (IsTreeBy d sets other)) (sym (has-other other apart (omega (arith, earlier, within))))
        (are.trees_are other earlier routed)
  ];
  have = λ other below routed. elim (cases_eq other net) [
    | inl same ↦ subst (HasTree d sets) (sym same) gives.1
    | inr apart ↦ are.have other (omega (arith, below, apart)) routed
  ];
}
  where
    after : List (Option TreeView)
    after = slice_set trees net (Some t)

    same-length : length after ≡ length trees
    same-length = length-set trees net (Some t)

    has-set : tree_at after net ≡ Some t
    has-set = get-tree after net (omega (arith, within, same-length)) ∙ get_or-set_same trees net (Some t) None within

    has-other : (other : ℕ) → (other ≡ net → ⊥) → other < length trees → tree_at after other ≡ tree_at trees other
    has-other other apart inside =
        get-tree after other (omega (arith, inside, same-length)) ∙ get_or-set_other trees net other (Some t) None apart ∙ sym (get-tree trees other inside)

-- all nets have their trees
pub below-all : (d : DesignView) (sets : ℕ → Edges) (trees : List (Option TreeView)) (most : ℕ) → length d.nets ≤ most →
    AreTreesBelow most d sets trees → AreTreesBy d sets trees
below-all d sets trees most all are net routed =
    let one = routed-net d net routed in
    let inside = slice_get_within d.nets net one.net one.there in
    are.trees_are net (omega (arith, all, inside)) routed

-- files of which the design and the library are accepted say what the solution says
pub files-read : (K : Type 0) (design library solution : List ℕ) (shelf : Reading) (d : DesignView) (lib : LibraryView) →
    design_said shelf.held design ≡ Some (Ok d) → library_said shelf.held library d ≡ Some (Ok lib) →
    (buffering {K = K} design library solution).files shelf ≡ checked (solution_said shelf.held solution d) solution_fault (λ s. Some (Ok tt))
files-read K design library solution shelf d lib said read =
    ap (λ (o : Option (Result DesignView (DesignFaultKind × ℕ))). checked o design_fault (λ d. checked (library_said shelf.held library d) library_fault
    (λ lib. checked (solution_said shelf.held solution d) solution_fault (λ s. Some (Ok tt))))) said
    ∙ ap (λ (o : Option (Result LibraryView (LibraryFaultKind × ℕ))). checked o library_fault
    (λ lib. checked (solution_said shelf.held solution d) solution_fault (λ s. Some (Ok tt)))) read

-- a command that stopped at the solution's text
module _ (shelf : Reading) (design library solution : List ℕ) (d : DesignView) (lib : LibraryView)
    (said : IsTrue shelf.tells → design_said shelf.held design ≡ Some (Ok d)) (read : IsTrue shelf.tells → library_said shelf.held library d ≡ Some (Ok lib))
    (held_then : Slot → List ℕ → Option (List ℕ)) (faults misses : ℕ) (same_faults : faults ≡ shelf.faults) (same_misses : misses ≡ shelf.misses)
    (same_held : held_then Solution solution ≡ shelf.held Solution solution) (out : Device) (unwritten : IsUntouched out) where
  abbrev then_on : Reading
  then_on = record {
    tells = shelf.tells;
    held = held_then;
    faults = faults;
    faults_after = shelf.faults_after;
    misses = misses;
    misses_after = shelf.misses_after;
  }

  abbrev after : Option (List ℕ) → Option (Result (Unit {0}) Stop)
  after held = checked (option_map (solution_of d) held) solution_fault (λ s. Some (Ok tt))

  files-then : (K : Type 0) → IsTrue shelf.tells → (buffering {K = K} design library solution).files shelf ≡ after (held_then Solution solution)
  files-then K tells = files-read K design library solution shelf d lib (said tells) (read tells) ∙ ap after (sym same_held)

  cause : (K : Type 0) → Rose faults shelf.faults_after ⊎ (Rose misses shelf.misses_after × (IsTrue shelf.tells → held_then Solution solution ≡ None)) →
      Rose shelf.faults shelf.faults_after ⊎ IsMissing (buffering {K = K} design library solution) shelf
  cause K (inl rose) = inl (subst (λ (n : ℕ). Rose n shelf.faults_after) same_faults rose)
  cause K (inr missing) =
      inr (subst (λ (n : ℕ). Rose n shelf.misses_after) same_misses missing.0, λ tells. files-then K tells ∙ ap after (missing.1 tells))

  pub solution-fails : (K : Type 0) (stop : Stop) →
      Opens then_on (held_then Solution solution) (option_map (solution_of d) (held_then Solution solution)) solution_fault (Err stop) →
      LeavesOut (buffering {K = K} design library solution) shelf out None (Err stop)
  solution-fails K NoMemory opens err untouched = (inl (unwritten, refl), untouched)
  solution-fails K ReadFailed opens err untouched = (record { read = refl; cause = cause K opens; unwritten = unwritten }, (untouched, refl))
  solution-fails K (Fault Solution number token) opens err untouched = (
    record {
      read = refl;
      reads = opens.reads ∙ same_faults;
      said = λ tells.
          files-then K tells
          ∙ ap (λ (o : Option (Result SolutionView (SolutionFaultKind × ℕ))). checked o solution_fault (λ s. Some (Ok tt))) (opens.says tells)
          ∙ ap (λ (s : Stop). Some (Err s)) (sym opens.is);
      unwritten = unwritten;
    },
    (untouched, refl),
  )
  solution-fails K Usage opens err untouched = absurd (let is = opens.is in cc)
  solution-fails K (Fault Design number token) opens err untouched = absurd (let is = opens.is in cc)
  solution-fails K (Fault Library number token) opens err untouched = absurd (let is = opens.is in cc)
  solution-fails K (NotTree id) opens err untouched = absurd (let is = opens.is in cc)
  solution-fails K WriteFailed opens err untouched = absurd (let is = opens.is in cc)

-- the law of the command
buffering-accepts : (K : Type 0) (design library solution : List ℕ) (shelf : Reading) → AreAccepted shelf design library solution → IsTrue shelf.tells →
    (buffering {K = K} design library solution).files shelf ≡ Some (Ok tt)
buffering-accepts K design library solution shelf files tells =
    ap (λ (o : Option (Result DesignView (DesignFaultKind × ℕ))). checked o design_fault (λ d. checked (library_said shelf.held library d) library_fault
    (λ lib. checked (solution_said shelf.held solution d) solution_fault (λ s. Some (Ok tt))))) (files.said tells)
    ∙ ap (λ (o : Option (Result LibraryView (LibraryFaultKind × ℕ))). checked o library_fault
    (λ lib. checked (solution_said shelf.held solution files.design) solution_fault (λ s. Some (Ok tt)))) (files.library_read tells)
    ∙ ap (λ (o : Option (Result SolutionView (SolutionFaultKind × ℕ))). checked o solution_fault (λ s. Some (Ok tt))) (files.solution_read tells)

pub buffering-lawful : {K : Type 0} → (design library solution : List ℕ) → IsLawful {K = K} (buffering design library solution)
buffering-lawful {K = K} design library solution = record {
  refuses = λ shelf stop refused. buffering-accepts K design library solution shelf refused.files;
  accepts = λ shelf kept outcome text report says. buffering-accepts K design library solution shelf says.3.files;
  opens = λ shelf kept text report says tells. absurd (open-whole says.0);
  closes = λ shelf kept text report says tells left. left;
  unkept = λ shelf kept text report says. says.1;
  refuses_read = λ shelf stop refused. refl;
  opens_read = λ shelf kept text report says. refl;
}
