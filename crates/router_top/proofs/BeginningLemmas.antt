-- What rounds begin from, where it is opened last.
use Rattle.std.proofs.Common.{◌≡◌, ℕ, ◌+◌, ◌⊎◌, cond, count_by, inl, inr, Bool, true, false, List, [], ◌∷◌, ◌++◌, Option, Some, None, Result, Ok, Err, IsTrue, refl, sym, ap, subst, ◌∙◌, arith}
use Rattle.std.specs.List.{range_with_len}
use Rattle.std.specs.Option.{IsSomeAnd, option_map}
use Rattle.std.proofs.lemmas.Bool.{cases_Bool}
use Rattle.std.proofs.lemmas.List.Sums.{sum_by_push}
use Rattle.std.proofs.lemmas.Option.{none-some}
use Rattle.gr_base.specs.Capacities.{usable_along, layer_at}
use Rattle.gr_base.specs.Designs.{DesignView}
use Rattle.gr_base.specs.EdgeSets.{Edges}
use Rattle.gr_base.specs.Grid.{is_wire, is_wire_way}
use Rattle.gr_base.specs.Trees.{TreeView}
use Rattle.gr_base.specs.declared.frame.Layer.{Layer}
use Rattle.gr_base.specs.declared.grid.Way.{Way}
use Rattle.gr_base.specs.declared.grid.Way.TheVariants.{East, North, Up}
use Rattle.gr_base.proofs.General.{range-more}
use Rattle.gr_io.specs.Counts.{Rose}
use Rattle.gr_io.specs.Devices.{Device, Reading, IsUntouched}
use Rattle.gr_io.specs.declared.shelf.Slot.{Slot}
use Rattle.gr_io.specs.declared.shelf.Slot.TheVariants.{Design, Library, Solution}
use Rattle.command_form.specs.Commands.{checked}
use Rattle.command_form.specs.Leaving.{IsMissing, Leaves}
use Rattle.command_form.specs.Opening.{Opens}
use Rattle.command_form.specs.Said.{design_fault, design_said, library_fault, library_said, solution_fault, solution_said}
use Rattle.command_form.specs.declared.stop.Outcome.{Outcome}
use Rattle.command_form.specs.declared.stop.Stop.{Stop}
use Rattle.command_form.specs.declared.stop.Stop.TheVariants.{Usage, Fault, NotTree, ReadFailed, WriteFailed, NoMemory}
use Rattle.ispd_reader.specs.declared.fault.DesignFault.{DesignFault as DesignFaultKind}
use Rattle.kept_routes.specs.Kept.{AreKept}
use Rattle.rc_library.specs.Libraries.{LibraryView}
use Rattle.rc_library.specs.declared.fault.LibraryFault.{LibraryFault as LibraryFaultKind}
use Rattle.route_reader.specs.SolutionText.{solution_of}
use Rattle.route_reader.specs.Solutions.{SolutionView}
use Rattle.run_histories.specs.GivenRoutes.{AreGivenRoutes}
use Rattle.solution_text.specs.Cover.{cover}
use Rattle.solution_text.specs.declared.fault.SolutionFault.{SolutionFault as SolutionFaultKind}
use Rattle.text_commands.specs.Buffering.{begun_at}
use Rattle.word_reader.specs.declared.order.Options.{Options}
use Rattle.router_top.specs.Beginning.{beginning_files, IsBegunFrom, OpensBeginning}
use Rattle.router_top.specs.Routing.{routing}
use Rattle.router_top.specs.declared.beginning.Beginning.{Beginning}
use Rattle.router_top.specs.declared.kept.Kept.{Kept}

-- ---- the trees that are given

via-usable : (way : Way) (layer : Option Layer) → is_wire_way way ≡ false → usable_along way layer ≡ true
via-usable East layer is = absurd cc
via-usable North layer is = absurd cc
via-usable Up layer is = refl

pub none-given : (d : DesignView) (given : List (Option TreeView)) → given ≡ [] → AreGivenRoutes d given
none-given d given is =
    subst (AreGivenRoutes d) (sym is) (record { each = λ net tree there. absurd (none-some tree there) })

-- the trees of kept nets are such as may be given
kept-given : (d : DesignView) (sets : ℕ → Edges) (given : List (Option TreeView)) → AreKept d sets given → AreGivenRoutes d given
kept-given d sets given are = record {
  each = λ net tree there.
      let kept = are.kept net tree there in
      record {
        routed = kept.0.routed;
        routes = kept.1.routes;
        usable_edges = λ e has. elim (cases_Bool (is_wire e)) [
          | inl wire ↦ kept.0.directed e ((kept.1.edges e).0 has) wire
          | inr via ↦ via-usable e.way (layer_at d.frame e) via
        ];
      };
}

pub begun-given : (shelf : Reading) (d : DesignView) (from : Option (List ℕ)) (b : Beginning) → IsBegunFrom shelf d from b → AreGivenRoutes d b.given
begun-given shelf d None b begun = none-given d b.given begun.1
begun-given shelf d (Some name) b begun = kept-given d _ b.given begun.kept

-- ---- a shelf that held the same when the first text was opened

pub begun-first : (shelf : Reading) (held : Slot → List ℕ → Option (List ℕ)) (faults misses : ℕ) (d : DesignView) (from : Option (List ℕ)) (b : Beginning) →
    ((name : List ℕ) → shelf.held Solution name ≡ held Solution name) → IsBegunFrom shelf d from b → IsBegunFrom (begun_at shelf held faults misses) d from b
begun-first shelf held faults misses d None b same begun = begun
begun-first shelf held faults misses d (Some name) b same begun = record {
  told = begun.told;
  solution = begun.solution;
  said = λ tells. ap (option_map (solution_of d)) (sym (same name)) ∙ begun.said tells;
  kept = begun.kept;
  covered = λ tells. subst (λ (o : Option (List ℕ)). IsSomeAnd o (λ bytes. AreKept d (cover d bytes) b.given)) (same name) (begun.covered tells);
}

-- ---- a solution that isn't read

module _ (shelf : Reading) (held : Slot → List ℕ → Option (List ℕ)) (faults misses : ℕ) (design library : List ℕ) (options : Options) (d : DesignView) (lib : LibraryView)
    (same_faults : shelf.faults ≡ faults) (same_misses : shelf.misses ≡ misses) (same : (name : List ℕ) → shelf.held Solution name ≡ held Solution name)
    (said : IsTrue shelf.tells → design_said held design ≡ Some (Ok d)) (read : IsTrue shelf.tells → library_said held library d ≡ Some (Ok lib))
    (out err : Device) (unwritten : IsUntouched out) (silent : IsUntouched err) where
  abbrev first : Reading
  first = begun_at shelf held faults misses

  files-then : (from : Option (List ℕ)) → IsTrue shelf.tells → (routing design library from options).files first ≡ beginning_files first from d
  files-then from tells =
      ap (λ (o : Option (Result DesignView (DesignFaultKind × ℕ))). checked o design_fault (λ x. checked (library_said held library x) library_fault
      (λ l. beginning_files first from x))) (said tells)
      ∙ ap (λ (o : Option (Result LibraryView (LibraryFaultKind × ℕ))). checked o library_fault (λ l. beginning_files first from d)) (read tells)

  said-first : (name : List ℕ) → solution_said held name d ≡ solution_said shelf.held name d
  said-first name = ap (option_map (solution_of d)) (sym (same name))

  cause : (name : List ℕ) → Rose shelf.faults shelf.faults_after ⊎ (Rose shelf.misses shelf.misses_after × (IsTrue shelf.tells → shelf.held Solution name ≡ None)) →
      Rose faults shelf.faults_after ⊎ IsMissing (routing design library (Some name) options) first
  cause name (inl rose) = inl (subst (λ (n : ℕ). Rose n shelf.faults_after) same_faults rose)
  cause name (inr missing) =
      inr (
        subst (λ (n : ℕ). Rose n shelf.misses_after) same_misses missing.0,
        λ tells.
            files-then (Some name) tells
            ∙ ap (λ (o : Option (List ℕ)). checked (option_map (solution_of d) o) solution_fault (λ s. Some (Ok tt))) (sym (same name) ∙ missing.1 tells),
      )

  fails-by : (name : List ℕ) (stop : Stop) → Opens {V = SolutionView} shelf (shelf.held Solution name) (solution_said shelf.held name d) solution_fault (Err stop) →
      Leaves (routing design library (Some name) options) first out err None (Err stop)
  fails-by name NoMemory opens = (inl (unwritten, refl), silent)
  fails-by name ReadFailed opens = (record { read = refl; cause = cause name opens; unwritten = unwritten }, (silent, refl))
  fails-by name (Fault Solution number token) opens = (
    record {
      read = refl;
      reads = opens.reads ∙ same_faults;
      said = λ tells.
          files-then (Some name) tells
          ∙ ap (λ (o : Option (Result SolutionView (SolutionFaultKind × ℕ))). checked o solution_fault (λ s. Some (Ok tt))) (said-first name ∙ opens.says tells)
          ∙ ap (λ (s : Stop). Some (Err s)) (sym opens.is);
      unwritten = unwritten;
    },
    (silent, refl),
  )
  fails-by name Usage opens = absurd (let is = opens.is in cc)
  fails-by name (Fault Design number token) opens = absurd (let is = opens.is in cc)
  fails-by name (Fault Library number token) opens = absurd (let is = opens.is in cc)
  fails-by name (NotTree id) opens = absurd (let is = opens.is in cc)
  fails-by name WriteFailed opens = absurd (let is = opens.is in cc)

  fails : (from : Option (List ℕ)) (stop : Stop) → OpensBeginning shelf d from (Err stop) → Leaves (routing design library from options) first out err None (Err stop)
  fails None stop opens =
      subst (λ (s : Stop). Leaves (routing design library None options) first out err None (Err s)) (sym opens) (inl (unwritten, refl), silent)
  fails (Some name) stop opens = fails-by name stop opens

  pub beginning-fails : (from : Option (List ℕ)) (stop : Stop) (kept : Option Kept) (end : Result Outcome Stop) → OpensBeginning shelf d from (Err stop) →
      end ≡ Err stop → kept ≡ None → Leaves (routing design library from options) first out err kept end
  beginning-fails from stop kept end opens ends nothing =
      subst (λ (k : Option Kept). Leaves (routing design library from options) first out err k end) (sym nothing)
      (subst (λ (r : Result Outcome Stop). Leaves (routing design library from options) first out err None r) (sym ends) (fails from stop opens))

-- ---- how many nets have a tree

pub counted-more : (p : ℕ → Bool) (n : ℕ) → count_by p (range_with_len 0 (n + 1)) ≡ count_by p (range_with_len 0 n) + cond (p n) 1 0
counted-more p n =
    let same : 0 + n ≡ n = omega arith in
    ap (count_by p) (range-more 0 n) ∙ ap (λ (k : ℕ). count_by p (range_with_len 0 n ++ k ∷ [])) same ∙ sum_by_push (λ (x : ℕ). cond (p x) 1 0) (range_with_len 0 n) n

-- one more net, by whether it has a tree
pub counted-next : (p : ℕ → Bool) (n kept : ℕ) (b : Bool) → p n ≡ b → kept ≡ count_by p (range_with_len 0 n) →
    kept + cond b 1 0 ≡ count_by p (range_with_len 0 (n + 1))
counted-next p n kept b is count =
    let more = counted-more p n in
    let one : cond {A = ℕ} (p n) 1 0 ≡ cond b 1 0 = ap (λ (x : Bool). cond {A = ℕ} x 1 0) is in
    omega (arith, more, one, count)
