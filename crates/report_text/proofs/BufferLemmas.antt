-- The lines of buffers, and of nets with plans.
use Rattle.std.proofs.Common.{◌≡◌, ℕ, zero, suc, ◌+◌, ◌-◌, ◌<◌, ◌≤◌, inl, inr, Bool, true, false, List, [], ◌∷◌, ◌++◌, All, length, map, filter, sum_by, Option, Some, None, IfSome, IsSomeAnd, is_some, unwrap_or, option_and_then, slice_get, if◌then◌else◌, refl, sym, ap, subst, ◌∙◌, append-nil, append_assoc, arith}
use Rattle.std.specs.Borrow.{Bor}
use Rattle.std.specs.List.{AllByRecursion, flat_map, range_with_len}
use Rattle.std.specs.Option.{option_copied}
use Rattle.std.proofs.lemmas.Bool.{cases_Bool, cases_lt, false≢true}
use Rattle.std.proofs.lemmas.List.{get_or_past}
use Rattle.std.proofs.lemmas.List.Elements.{All-from_recursion, filter-append}
use Rattle.std.proofs.lemmas.Grind.{flat_map-append}
use Rattle.std.proofs.lemmas.List.Sums.{sum_by-append}
use Rattle.gr_base.proofs.General.{and-some, filter-yes, filter-no, range-more}
use Rattle.gr_base.specs.Designs.{DesignView, is_routed}
use Rattle.gr_base.specs.Grid.{cells_of}
use Rattle.gr_base.specs.Trees.{TreeView, node_with, tree_at}
use Rattle.gr_base.specs.declared.frame.Frame.{Frame}
use Rattle.gr_base.specs.declared.frame.Net.{Net}
use Rattle.rc_library.specs.Libraries.{LibraryView}
use Rattle.elmore_delay.specs.Placements.{placed_at, NamesKinds}
use Rattle.elmore_delay.specs.PlanLists.{plan_at}
use Rattle.elmore_delay.specs.declared.plans.Plan.{Plan}
use Rattle.report_text.specs.BufferTexts.{kind_on, buffered_cells, kind_line, buffer_line, placement_text, plan_text, net_buffers, buffers_in, IsPlanFor, ArePlanned, AreSomePlanned}
use Rattle.report_text.specs.Placed.{rising_buffers}
use Rattle.report_text.specs.declared.buffer_text.Buffered.{Buffered}

-- a part that was put behind others
pub then-part : (old x y n m : List ℕ) → n ≡ old ++ x → m ≡ n ++ y → m ≡ old ++ (x ++ y)
then-part old x y n m first second = second ∙ ap (λ (t : List ℕ). t ++ y) first ∙ append_assoc old x y

-- ---- the buffers of a tree, rising by their cells

-- the numbers of a range that pass a test
abbrev Passes : (ℕ → Bool) → ℕ → ℕ → Type 0
Passes p end n = (p n ≡ true) × (n < end)

kept : (p : ℕ → Bool) (from n end : ℕ) → from + n ≤ end → AllByRecursion (Passes p end) (filter p (range_with_len from n))
kept p from zero end within = tt
kept p from (suc n) end within =
    let rest = kept p (from + 1) n end (omega arith) in
    let below : from < end = omega arith in
    elim (cases_Bool (p from)) [
      | inl is ↦ subst (λ (ns : List ℕ). AllByRecursion (Passes p end) ns) (sym (filter-yes p from (range_with_len (from + 1) n) is)) ((is, below), rest)
      | inr not ↦ subst (λ (ns : List ℕ). AllByRecursion (Passes p end) ns) (sym (filter-no p from (range_with_len (from + 1) n) not)) rest
    ]

module _ (t : TreeView) (kinds : List (Option ℕ)) where
  abbrev at_cell : ℕ → Buffered
  at_cell cell = record { cell = cell; kind = unwrap_or (kind_on t kinds cell) 0 }

  abbrev holds : ℕ → Bool
  holds cell = is_some (kind_on t kinds cell)

  some-kind : (o : Option ℕ) → is_some o ≡ true → Some (unwrap_or o 0) ≡ o
  some-kind None is = absurd (false≢true is)
  some-kind (Some kind) is = refl

  -- their lines
  lines-of : (frame : Frame) (lib : LibraryView) (end : ℕ) (cells : List ℕ) → AllByRecursion (Passes holds end) cells →
      flat_map (λ (b : Buffered). kind_line frame lib b.cell (Some b.kind)) (map at_cell cells) ≡ flat_map (buffer_line frame lib t kinds) cells
  lines-of frame lib end [] each = refl
  lines-of frame lib end (cell ∷ cells) each =
      ap (λ (o : Option ℕ). kind_line frame lib cell o ++ flat_map (λ (b : Buffered). kind_line frame lib b.cell (Some b.kind)) (map at_cell cells)) (some-kind (kind_on t kinds cell) each.0.0)
      ∙ ap (λ (text : List ℕ). buffer_line frame lib t kinds cell ++ text) (lines-of frame lib end cells each.1)

  pub placement-lines : (frame : Frame) (lib : LibraryView) →
      flat_map (λ (b : Buffered). kind_line frame lib b.cell (Some b.kind)) (rising_buffers t kinds) ≡ placement_text frame lib t kinds
  placement-lines frame lib = lines-of frame lib (cells_of t.shape) (buffered_cells t kinds) (kept holds 0 (cells_of t.shape) (cells_of t.shape) (omega arith))

  -- their cells are the grid's, and their kinds the library's
  named : (lib : LibraryView) (cell : ℕ) → NamesKinds lib kinds → holds cell ≡ true → unwrap_or (kind_on t kinds cell) 0 < length lib.kinds
  named lib cell names is = by_node (node_with t.nodes cell) is
    where
      by_kind : (o : Option ℕ) → IfSome o (λ number. number < length lib.kinds) → is_some o ≡ true → unwrap_or o 0 < length lib.kinds
      by_kind None fits is_some = absurd (false≢true is_some)
      by_kind (Some kind) fits is_some = fits

      by_node : (o : Option ℕ) → is_some (option_and_then (placed_at kinds) o) ≡ true → unwrap_or (option_and_then (placed_at kinds) o) 0 < length lib.kinds
      by_node None some = absurd (false≢true some)
      by_node (Some node) some =
          elim (cases_lt node (length kinds)) [
            | inl below ↦ by_kind (placed_at kinds node) (names node None below) some
            | inr past ↦ absurd (false≢true (ap (λ (o : Option ℕ). is_some o) (sym (get_or_past kinds node None past)) ∙ some))
          ]

  cells-below : (end : ℕ) (cells : List ℕ) → AllByRecursion (Passes holds end) cells → AllByRecursion (λ b. b.cell < end) (map at_cell cells)
  cells-below end [] each = tt
  cells-below end (cell ∷ cells) each = (each.0.1, cells-below end cells each.1)

  kinds-named : (lib : LibraryView) (end : ℕ) (cells : List ℕ) → NamesKinds lib kinds → AllByRecursion (Passes holds end) cells →
      AllByRecursion (λ b. b.kind < length lib.kinds) (map at_cell cells)
  kinds-named lib end [] names each = tt
  kinds-named lib end (cell ∷ cells) names each = (named lib cell names each.0.0, kinds-named lib end cells names each.1)

  pub rising-cells : All (λ (b : Buffered). b.cell < cells_of t.shape) (rising_buffers t kinds)
  rising-cells = All-from_recursion (λ (b : Buffered). b.cell < cells_of t.shape) (rising_buffers t kinds)
      (cells-below (cells_of t.shape) (buffered_cells t kinds) (kept holds 0 (cells_of t.shape) (cells_of t.shape) (omega arith)))

  pub rising-kinds : (lib : LibraryView) → NamesKinds lib kinds → All (λ (b : Buffered). b.kind < length lib.kinds) (rising_buffers t kinds)
  rising-kinds lib names = All-from_recursion (λ (b : Buffered). b.kind < length lib.kinds) (rising_buffers t kinds)
      (kinds-named lib (cells_of t.shape) (buffered_cells t kinds) names (kept holds 0 (cells_of t.shape) (cells_of t.shape) (omega arith)))

-- ---- nets

-- a net that isn't routed has no lines
pub net-skipped : (d : DesignView) (lib : LibraryView) (trees : List (Option TreeView)) (plans : List (Option Plan)) (net : ℕ) →
    is_routed d net ≡ false → net_buffers d lib trees plans net ≡ []
net-skipped d lib trees plans net is = rw is refl

-- the lines of a routed net with its tree
pub net-lines : (d : DesignView) (lib : LibraryView) (trees : List (Option TreeView)) (plans : List (Option Plan)) (number : ℕ)
    (net : Net) (t : TreeView) (plan : Option Plan) → is_routed d number ≡ true → slice_get d.nets number ≡ Some net → tree_at trees number ≡ Some t →
    plan_at plans number ≡ plan → net_buffers d lib trees plans number ≡ plan_text d.frame lib (Some net) (Some t) plan
net-lines d lib trees plans number net t plan is found tree planned =
    ap (λ (b : Bool). if b then plan_text d.frame lib (slice_get d.nets number) (tree_at trees number) (plan_at plans number) else []) is
    ∙ ap (λ (o : Option Net). plan_text d.frame lib o (tree_at trees number) (plan_at plans number)) found
    ∙ ap (λ (o : Option TreeView). plan_text d.frame lib (Some net) o (plan_at plans number)) tree
    ∙ ap (λ (o : Option Plan). plan_text d.frame lib (Some net) (Some t) o) planned

-- the plan of a routed net, if there is one, is one for its tree
pub planned-for : (d : DesignView) (lib : LibraryView) (trees : List (Option TreeView)) (plans : List (Option Plan)) (number : ℕ) (t : TreeView)
    (plan : Option (Bor Plan)) → AreSomePlanned d lib trees plans → is_routed d number ≡ true → tree_at trees number ≡ Some t →
    option_copied plan ≡ plan_at plans number → IfSome plan (λ (p : Bor Plan). IsPlanFor d lib t p.now)
planned-for d lib trees plans number t None are is tree planned = tt
planned-for d lib trees plans number t (Some plan) are is tree planned =
    subst (λ (o : Option Plan). IfSome o (IsPlanFor d lib t)) (sym planned)
    (and-some (λ u. IfSome (plan_at plans number) (IsPlanFor d lib u)) (tree_at trees number) t tree (are number is))

-- where each routed net has a plan, it has one or none
pub all-planned : (d : DesignView) (lib : LibraryView) (trees : List (Option TreeView)) (plans : List (Option Plan)) → ArePlanned d lib trees plans →
    AreSomePlanned d lib trees plans
all-planned d lib trees plans are net is = by (tree_at trees net) (are net is)
  where
    with : (t : TreeView) (o : Option Plan) → IsSomeAnd o (IsPlanFor d lib t) → IfSome o (IsPlanFor d lib t)
    with t None some = tt
    with t (Some plan) some = some

    by : (o : Option TreeView) → IsSomeAnd o (λ t. IsSomeAnd (plan_at plans net) (IsPlanFor d lib t)) →
        IsSomeAnd o (λ t. IfSome (plan_at plans net) (IsPlanFor d lib t))
    by None some = some
    by (Some t) some = with t (plan_at plans net) some

-- the sum over the routed nets before a number, with one more net
abbrev pub sum_before : DesignView → List (Option Plan) → ℕ → ℕ
sum_before d plans n = sum_by (λ net. buffers_in (plan_at plans net)) (filter (is_routed d) (range_with_len 0 n))

sum-more : (d : DesignView) (plans : List (Option Plan)) (n : ℕ) →
    sum_before d plans (n + 1) ≡ sum_before d plans n + (if is_routed d n then buffers_in (plan_at plans n) else 0)
sum-more d plans n =
    let here : 0 + n ≡ n = omega arith in
    let f : ℕ → ℕ = λ net. buffers_in (plan_at plans net) in
    ap (λ (ns : List ℕ). sum_by f (filter (is_routed d) ns)) (range-more 0 n)
    ∙ ap (λ (k : ℕ). sum_by f (filter (is_routed d) (range_with_len 0 n ++ k ∷ []))) here
    ∙ ap (sum_by f) (filter-append (is_routed d) (range_with_len 0 n) (n ∷ []))
    ∙ sum_by-append f (filter (is_routed d) (range_with_len 0 n)) (filter (is_routed d) (n ∷ []))
    ∙ ap (λ (k : ℕ). sum_before d plans n + k) (last (is_routed d n))
  where
    last : (b : Bool) → sum_by (λ net. buffers_in (plan_at plans net)) (if b then n ∷ [] else []) ≡ (if b then buffers_in (plan_at plans n) else 0)
    last true = omega arith
    last false = refl

pub sum-skipped : (d : DesignView) (plans : List (Option Plan)) (n : ℕ) → is_routed d n ≡ false → sum_before d plans n ≡ sum_before d plans (n + 1)
sum-skipped d plans n is =
    let none : (if is_routed d n then buffers_in (plan_at plans n) else 0) ≡ 0 = rw is refl in
    omega (arith, sum-more d plans n, none)

pub sum-counted : (d : DesignView) (plans : List (Option Plan)) (n : ℕ) → is_routed d n ≡ true →
    sum_before d plans n + buffers_in (plan_at plans n) ≡ sum_before d plans (n + 1)
sum-counted d plans n is =
    let one : (if is_routed d n then buffers_in (plan_at plans n) else 0) ≡ buffers_in (plan_at plans n) = rw is refl in
    omega (arith, sum-more d plans n, one)

-- the lines of one more net
pub lines-more : (f : ℕ → List ℕ) (head : List ℕ) (first last : ℕ) → first ≤ last →
    (head ++ flat_map f (range_with_len first (last - first))) ++ f last ≡ head ++ flat_map f (range_with_len first (last + 1 - first))
lines-more f head first last low =
    let count : ℕ = last - first in
    let here : first + count ≡ last = omega arith in
    let more : last + 1 - first ≡ count + 1 = omega arith in
    append_assoc head (flat_map f (range_with_len first count)) (f last)
    ∙ ap (λ (text : List ℕ). head ++ (flat_map f (range_with_len first count) ++ text)) (sym (append-nil (f last)))
    ∙ ap (λ (text : List ℕ). head ++ text) (sym (flat_map-append f (range_with_len first count) (last ∷ [])))
    ∙ ap (λ (k : ℕ). head ++ flat_map f (range_with_len first count ++ k ∷ [])) (sym here)
    ∙ ap (λ (ns : List ℕ). head ++ flat_map f ns) (sym (range-more first count))
    ∙ ap (λ (n : ℕ). head ++ flat_map f (range_with_len first n)) (sym more)
