-- A maze plan's tree, walk by walk.
use Rattle.std.proofs.Common.{◌≡◌, ℕ, ◌<◌, ◌≤◌, inl, inr, Bool, true, false, not, ◌&&◌, ◌||◌, ◌==◌, option_and_then, List, [], ◌∷◌, length, filter, get_or, slice_get, slice_index, All, Option, Some, None, is_some, if◌then◌else◌, IsTrue, refl, sym, ap, subst, ◌∙◌, arith}
use Rattle.std.proofs.lemmas.Bool.{cases_Bool}
use Rattle.std.proofs.lemmas.Bool.Decides.{nat_tests}
use Rattle.std.proofs.lemmas.List.Elements.{All-nil, All-cons, All-head, All-tail, All-filter}
use Rattle.std.proofs.lemmas.List.Sums.{length-filter, count_by-le-length}
use Rattle.std.proofs.lemmas.Option.{slice_get-get_or}
use Rattle.gr_base.proofs.TreeLemmas.{cell_at-append}
use Rattle.gr_base.specs.Grid.{edge_of}
use Rattle.gr_base.specs.Trees.{TreeView, cell_at, holds, is_among, attached, Begins, AddsCells}
use Rattle.gr_base.specs.declared.grid.Edge.{Edge}
use Rattle.gr_base.specs.declared.grid.Shape.{Shape}
use Rattle.gr_base.specs.declared.tree.Node.{Node}
use Rattle.maze_route.specs.Walks.{LeadsBack, IsLeastWalk}
use Rattle.maze_route.specs.Windows.{in_window, window_graph, TreeLiesIn, LieIn}
use Rattle.maze_route.specs.declared.window.Window.{Window}
use Rattle.net_plan.specs.Mazes.{missing, driver_tree, GrowsTo}
use Rattle.net_plan.specs.Mazes.GrowsTo.{Ends, Goes_on}
use Rattle.net_plan.proofs.MazeLemmas.{differ}

-- what a test keeps of a list
filter-yes : (p : ℕ → Bool) (x : ℕ) (xs : List ℕ) → p x ≡ true → filter p (x ∷ xs) ≡ x ∷ filter p xs
filter-yes p x xs passes = rw passes refl

filter-no : (p : ℕ → Bool) (x : ℕ) (xs : List ℕ) → p x ≡ false → filter p (x ∷ xs) ≡ filter p xs
filter-no p x xs fails = rw fails refl

-- a second test keeps what both keep
filter-both : (p q r : ℕ → Bool) → ((x : ℕ) → p x ≡ true → r x ≡ q x) → ((x : ℕ) → p x ≡ false → r x ≡ false) →
    (xs : List ℕ) → filter q (filter p xs) ≡ filter r xs
filter-both p q r kept dropped [] = refl
filter-both p q r kept dropped (x ∷ xs) =
    let rest = filter-both p q r kept dropped xs in
    elim (cases_Bool (p x)) [
      | inr fails ↦ ap (filter q) (filter-no p x xs fails) ∙ rest ∙ sym (filter-no r x xs (dropped x fails))
      | inl passes ↦
          elim (cases_Bool (q x)) [
            | inl too ↦
                ap (filter q) (filter-yes p x xs passes) ∙ filter-yes q x (filter p xs) too ∙ ap (λ (ys : List ℕ). x ∷ ys) rest ∙
                sym (filter-yes r x xs (kept x passes ∙ too))
            | inr no_more ↦
                ap (filter q) (filter-yes p x xs passes) ∙ filter-no q x (filter p xs) no_more ∙ rest ∙
                sym (filter-no r x xs (kept x passes ∙ no_more))
          ]
    ]

-- what is kept is shorter where one is dropped
filter-short : (p : ℕ → Bool) (xs : List ℕ) → length (filter p xs) ≤ length xs
filter-short p xs = omega (arith, length-filter p xs, count_by-le-length p xs)

same-number : (a b : ℕ) → (a == b) ≡ true → a ≡ b
same-number a b test = grind (arith, nat_tests)

filter-less : (p : ℕ → Bool) (x : ℕ) (xs : List ℕ) → is_among xs x ≡ true → p x ≡ false → length (filter p xs) < length xs
filter-less p x [] among fails = absurd (differ false refl among)
filter-less p x (y ∷ ys) among fails =
    let shorter = filter-short p ys in
    elim (cases_Bool (y == x)) [
      | inl here ↦
          let e = ap length (filter-no p y ys (ap p (same-number y x here) ∙ fails)) in
          omega arith
      | inr elsewhere ↦
          let later : is_among ys x ≡ true = sym (rw elsewhere refl) ∙ among in
          let rest = filter-less p x ys later fails in
          elim (cases_Bool (p y)) [
            | inl passes ↦ let e = ap length (filter-yes p y ys passes) in omega arith
            | inr too ↦ let e = ap length (filter-no p y ys too) in omega arith
          ]
    ]

not-true : (b : Bool) → not b ≡ true → b ≡ false
not-true true is = sym is
not-true false is = refl

not-false : (b : Bool) → not b ≡ false → b ≡ true
not-false true is = refl
not-false false is = sym is

-- where nothing is kept, all fail
filter-none : (p : ℕ → Bool) (xs : List ℕ) → filter p xs ≡ [] → All (λ x. p x ≡ false) xs
filter-none p [] none = All-nil (λ x. p x ≡ false)
filter-none p (x ∷ xs) none =
    elim (cases_Bool (p x)) [
      | inl passes ↦ let e = ap length (sym (filter-yes p x xs passes) ∙ none) in absurd (omega arith)
      | inr fails ↦ All-cons (λ y. p y ≡ false) x xs fails (filter-none p xs (sym (filter-no p x xs fails) ∙ none))
    ]

-- the tree has grown from the driver's cell inside the window, and these pins are missing
pub record IsGrowing (g : Shape) (w : Window) (price : Edge → Option ℕ) (pins : List ℕ) (t : TreeView) (goals : List ℕ) : Type 0 where
  pub shape : t.shape ≡ g
  pub inside : TreeLiesIn w t
  pub missed : goals ≡ missing t pins
  pub goes_on : (u : TreeView) → GrowsTo w price pins t u → GrowsTo w price pins (driver_tree g pins) u
  pub driver : cell_at t.nodes 0 ≡ Some (slice_index pins 0)

one-held : (b : Bool) → is_some {T = ℕ} (if b then Some 0 else None) ≡ true → b ≡ true
one-held true held = refl
one-held false held = held

pub growing-first : (g : Shape) (w : Window) (price : Edge → Option ℕ) (pins : List ℕ) (t : TreeView) (goals : List ℕ) → 0 < length pins →
    LieIn g w pins → t ≡ driver_tree g pins → goals ≡ missing t pins → IsGrowing g w price pins t goals
growing-first g w price pins t goals some lie is missed = record {
  shape = ap (λ (u : TreeView). u.shape) is;
  inside = λ cell held.
      let driver = slice_index pins 0 in
      let same : driver ≡ cell = same-number driver cell (one-held (driver == cell) (sym (ap (λ (u : TreeView). holds u cell) is) ∙ held)) in
      let here : IsTrue (in_window g w cell) = subst (λ (n : ℕ). IsTrue (in_window g w n)) same (lie 0 0 some) in
      subst (λ (s : Shape). IsTrue (in_window s w cell)) (sym (ap (λ (u : TreeView). u.shape) is)) here;
  missed = missed;
  goes_on = λ u grows. subst (λ (v : TreeView). GrowsTo w price pins v u) is grows;
  driver = ap (λ (u : TreeView). cell_at u.nodes 0) is;
}

-- the goals lie in the window, and outside of the tree
pub growing-goals : (g : Shape) (w : Window) (price : Edge → Option ℕ) (pins : List ℕ) (t : TreeView) (goals : List ℕ) → LieIn g w pins →
    IsGrowing g w price pins t goals → LieIn t.shape w goals
growing-goals g w price pins t goals lie growing =
    subst (λ (s : Shape). LieIn s w goals) (sym growing.shape)
    (subst (LieIn g w) (sym growing.missed) (All-filter (λ pin. not (holds t pin)) (λ cell. IsTrue (in_window g w cell)) pins lie))

or-cases : (a b : Bool) (P : Type 0) → (a || b) ≡ true → (a ≡ true → P) → (b ≡ true → P) → P
or-cases true b P is left right = left refl
or-cases false b P is left right = right is

-- the cells of a least walk from goals in the window lie in the window
step-from : (b c : Bool) (o : Option ℕ) (cost : ℕ) → (if b && c then o else None) ≡ Some cost → b ≡ true
step-from true c o cost is = refl
step-from false c o cost is = cc

back-inside : (t : TreeView) (w : Window) (price : Edge → Option ℕ) (v : ℕ) (rest : List ℕ) → IsTrue (in_window t.shape w v) →
    LeadsBack (window_graph t w price) (v ∷ rest) → LieIn t.shape w (v ∷ rest)
back-inside t w price v [] inside back =
    let P : ℕ → Type 0 = λ cell. IsTrue (in_window t.shape w cell) in
    All-cons P v [] inside (All-nil P)
back-inside t w price v (u ∷ rest) inside back =
    let P : ℕ → Type 0 = λ cell. IsTrue (in_window t.shape w cell) in
    let step = back.1.0.is_back in
    let next : P u = step-from (in_window t.shape w u) (in_window t.shape w v) (option_and_then price (edge_of t.shape u v)) step.cost step.taken in
    All-cons P v (u ∷ rest) inside (back-inside t w price u rest next back.1.1)

among-in : (g : Shape) (w : Window) (walk : List ℕ) (cell : ℕ) → LieIn g w walk → is_among walk cell ≡ true → IsTrue (in_window g w cell)
among-in g w [] cell lie among = absurd (differ false refl among)
among-in g w (c ∷ walk) cell lie among =
    let P : ℕ → Type 0 = λ n. IsTrue (in_window g w n) in
    or-cases (c == cell) (is_among walk cell) (P cell) among
    (λ here. subst P (same-number c cell here) (All-head P c walk lie))
    (λ later. among-in g w walk cell (All-tail P c walk lie) later)

walk-inside : (t : TreeView) (w : Window) (price : Edge → Option ℕ) (goals walk : List ℕ) → LieIn t.shape w goals →
    IsLeastWalk (window_graph t w price) goals walk → LieIn t.shape w walk
walk-inside t w price goals walk lie least =
    let first = among-in t.shape w goals least.goal lie least.first_goal.among in
    subst (LieIn t.shape w) (sym least.begins)
    (back-inside t w price least.goal least.rest first (subst (LeadsBack (window_graph t w price)) least.begins least.leads_back))

or-true : (a b : Bool) → a ≡ true → not (a || b) ≡ false
or-true true b is = refl
or-true false b is = absurd (differ false refl is)

or-false : (a b : Bool) → a ≡ false → not (a || b) ≡ not b
or-false true b is = absurd (differ true is refl)
or-false false b is = refl

-- after one more walk
pub record IsGrown (g : Shape) (w : Window) (price : Edge → Option ℕ) (pins : List ℕ) (goals : List ℕ) (new : TreeView) (fewer : List ℕ) : Type 0 where
  pub growing : IsGrowing g w price pins new fewer
  pub less : length fewer < length goals

pub growing-more : (g : Shape) (w : Window) (price : Edge → Option ℕ) (pins : List ℕ) (t new : TreeView) (goals walk fewer : List ℕ) →
    IsGrowing g w price pins t goals → IsLeastWalk (window_graph t w price) goals walk → LieIn g w pins → new ≡ attached t walk → AddsCells t walk new →
    Begins t new → fewer ≡ filter (λ goal. not (is_among walk goal)) goals → IsGrown g w price pins goals new fewer
growing-more g w price pins t new goals walk fewer growing least lie made adds begins kept =
    let inside = walk-inside t w price goals walk (growing-goals g w price pins t goals lie growing) least in
    let begun : is_among walk least.goal ≡ true = first-among walk least.goal least.rest least.begins in
    record {
      growing = record {
        shape = begins.shape ∙ growing.shape;
        inside = λ cell held.
            let P : Shape → Type 0 = λ s. IsTrue (in_window s w cell) in
            subst P (sym begins.shape) (or-cases (holds t cell) (is_among walk cell) (P t.shape) (sym (adds cell) ∙ held)
            (λ before. growing.inside cell before) (λ now. among-in t.shape w walk cell inside now));
        missed =
            kept ∙ ap (filter (λ goal. not (is_among walk goal))) growing.missed ∙
            filter-both (λ pin. not (holds t pin)) (λ pin. not (is_among walk pin)) (λ pin. not (holds new pin))
            (λ pin out. ap not (adds pin) ∙ or-false (holds t pin) (is_among walk pin) (not-true (holds t pin) out))
            (λ pin held. ap not (adds pin) ∙ or-true (holds t pin) (is_among walk pin) (not-false (holds t pin) held)) pins;
        goes_on = λ u grows.
            growing.goes_on u (Goes_on walk (subst (λ (cells : List ℕ). IsLeastWalk (window_graph t w price) cells walk) growing.missed least)
            (subst (λ (v : TreeView). GrowsTo w price pins v u) made grows));
        driver =
            ap (λ (nodes : List Node). cell_at nodes 0) begins.nodes ∙ cell_at-append t.nodes begins.added 0 (slice_index pins 0) growing.driver;
      };
      less =
          subst (λ (cells : List ℕ). length cells < length goals) (sym kept)
          (filter-less (λ goal. not (is_among walk goal)) least.goal goals least.first_goal.among (ap not begun));
    }
  where
    first-among : (walk : List ℕ) (goal : ℕ) (rest : List ℕ) → walk ≡ goal ∷ rest → is_among walk goal ≡ true
    first-among walk goal rest is =
        let test : (goal == goal) ≡ true = grind (arith, nat_tests) in
        let here : is_among (goal ∷ rest) goal ≡ true = rw test refl in
        ap (λ (cells : List ℕ). is_among cells goal) is ∙ here

or-left : (a b : Bool) → a ≡ true → (a || b) ≡ true
or-left true b is = refl
or-left false b is = absurd (differ false refl is)

-- a tree keeps its cells as it grows
pub adds-keeps : (t new : TreeView) (walk : List ℕ) → AddsCells t walk new → (cell : ℕ) → IsTrue (holds t cell) → IsTrue (holds new cell)
adds-keeps t new walk adds cell held = adds cell ∙ or-left (holds t cell) (is_among walk cell) held

-- all pins are in the tree
pub growing-done : (g : Shape) (w : Window) (price : Edge → Option ℕ) (pins : List ℕ) (t : TreeView) (goals : List ℕ) → IsGrowing g w price pins t goals →
    goals ≡ [] → GrowsTo w price pins (driver_tree g pins) t
growing-done g w price pins t goals growing none = growing.goes_on t (Ends (sym growing.missed ∙ none))

pub growing-pins : (g : Shape) (w : Window) (price : Edge → Option ℕ) (pins : List ℕ) (t : TreeView) (goals : List ℕ) → IsGrowing g w price pins t goals →
    goals ≡ [] → All (λ pin. IsTrue (holds t pin)) pins
growing-pins g w price pins t goals growing none =
    let all = filter-none (λ pin. not (holds t pin)) pins (sym growing.missed ∙ none) in
    λ k d below. not-false (holds t (get_or pins k d)) (all k d below)

pub growing-driver : (g : Shape) (w : Window) (price : Edge → Option ℕ) (pins : List ℕ) (t : TreeView) (goals : List ℕ) → 0 < length pins →
    IsGrowing g w price pins t goals → cell_at t.nodes 0 ≡ slice_get pins 0
growing-driver g w price pins t goals some growing = growing.driver ∙ sym (slice_get-get_or pins 0 0 some)

-- one turn, as the code reads its lists
pub growing-turn : (g : Shape) (w : Window) (price : Edge → Option ℕ) (pins : List ℕ) (t new : TreeView) (walk cells again goals read reread fewer : List ℕ) →
    cells ≡ walk → again ≡ walk → read ≡ goals → reread ≡ goals → IsGrowing g w price pins t goals → IsLeastWalk (window_graph t w price) read walk → LieIn g w pins →
    new ≡ attached t cells → AddsCells t cells new → Begins t new → fewer ≡ filter (λ goal. not (is_among again goal)) reread → IsGrown g w price pins goals new fewer
growing-turn g w price pins t new walk cells again goals read reread fewer cs agains rs rereads growing least lie made adds begins kept =
    growing-more g w price pins t new goals walk fewer growing (subst (λ (xs : List ℕ). IsLeastWalk (window_graph t w price) xs walk) rs least) lie
    (made ∙ ap (attached t) cs) (subst (λ (xs : List ℕ). AddsCells t xs new) cs adds) begins
    (kept ∙ ap (λ (xs : List ℕ). filter (λ goal. not (is_among xs goal)) reread) agains ∙ ap (filter (λ goal. not (is_among walk goal))) rereads)

-- no goals are left
pub no-goals : (goals : List ℕ) (count : ℕ) → count ≡ length goals → (count == 0) ≡ true → goals ≡ []
no-goals [] count is empty = refl
no-goals (x ∷ xs) count is empty = let none = same-number count 0 empty in absurd (omega arith)
