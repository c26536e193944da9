-- The goal that is found is the first goal.
use Rattle.std.proofs.Common.{◌≡◌, ℕ, ◌<◌, ◌≤◌, inl, inr, Bool, true, false, ◌||◌, ◌==◌, List, [], ◌∷◌, length, map, All, Option, Some, None, Result, Ok, Err, IfOk, IsSome, IsTrue, refl, sym, ap, subst, ◌∙◌, arith}
use Rattle.std.proofs.lemmas.Bool.{cases_lt, cases_eq, both_ways}
use Rattle.std.proofs.lemmas.Bool.Decides.{nat_tests}
use Rattle.std.proofs.lemmas.Option.{none-some}
use Rattle.std.proofs.lemmas.List.Elements.{All-head, All-tail, All-cons, All-nil}
use Rattle.cost_rules.specs.Prices.{ArePrices}
use Rattle.gr_base.specs.declared.grid.Edge.{Edge}
use Rattle.gr_base.specs.declared.grid.Shape.{Shape}
use Rattle.gr_base.specs.declared.grid.Way.{Way}
use Rattle.gr_base.specs.Trees.{TreeView, is_among, IsTree, cell_at}
use Rattle.gr_base.specs.declared.tree.Node.{Node}
use Rattle.gr_base.proofs.TreeLemmas.{cell-only}
use Rattle.maze_route.specs.Ends.{IsFirst, IsFirstOf}
use Rattle.maze_route.specs.Search.{IsConsistent, AreGuided, is_marked, HasGoal, CanReach, Finds}
use Rattle.maze_route.specs.Steps.{size_of, local_of, pane_source, pane_graph, rest_of, IsGuide}
use Rattle.maze_route.specs.Walks.{Graph, IsFirstGoal, IsLeastWalk}
use Rattle.maze_route.specs.Whole.{whole}
use Rattle.maze_route.specs.Windows.{in_window, LieIn, IsPassable, TreeLiesIn}
use Rattle.maze_route.specs.Backs.{IsNear, IsWalkBack}
use Rattle.maze_route.specs.declared.pane.Pane.{Pane}
use Rattle.maze_route.specs.declared.pane.Reached.{Reached}
use Rattle.maze_route.specs.declared.pane.Aim.{Aim}
use Rattle.maze_route.proofs.Distances.{at-most, guided-low, guided-distance}
use Rattle.maze_route.proofs.PaneLemmas.{local-below, cell-local}
use Rattle.maze_route.proofs.SeedLemmas.{tree-window, tree-source}
use Rattle.maze_route.proofs.HandingLemmas.{pane-rest}
use Rattle.maze_route.proofs.WindowLemmas.{LiesIn, out-least}
use Rattle.maze_route.proofs.ReachLemmas.{reach-cell}

-- the goals' numbers lie in the window
pub locals-below : (p : Pane) (goals : List ℕ) (size : ℕ) → size ≡ size_of p → LieIn p.grid p.window goals → All (λ end. end < size) (map (local_of p) goals)
locals-below p [] size all lie = All-nil (λ end. end < size)
locals-below p (goal ∷ goals) size all lie =
    let P : ℕ → Type 0 = λ cell. IsTrue (in_window p.grid p.window cell) in
    let below = local-below p goal (All-head P goal goals lie) in
    All-cons (λ end. end < size) (local_of p goal) (map (local_of p) goals) (omega arith) (locals-below p goals size all (All-tail P goal goals lie))

pub among-below : (ends : List ℕ) (size end : ℕ) → All (λ e. e < size) ends → IsTrue (is_among ends end) → end < size
among-below [] size end all among = absurd (both_ways true (sym among) refl)
among-below (e ∷ ends) size end all among =
    elim (cases_eq e end) [
      | inl same ↦ let h = All-head (λ (x : ℕ). x < size) e ends all in omega arith
      | inr other ↦
          let test : (e == end) ≡ false = grind (arith, nat_tests) in
          among-below ends size end (All-tail (λ (x : ℕ). x < size) e ends all) (sym (ap (λ b. b || is_among ends end) test) ∙ among)
    ]

-- the first of some cells is among them
pub first-among : (ends : List ℕ) → 0 < length ends → (end : ℕ) × IsTrue (is_among ends end)
first-among [] some = absurd (omega arith)
first-among (e ∷ ends) some =
    let test : (e == e) ≡ true = grind (arith, nat_tests) in
    (e, ap (λ b. b || is_among ends e) test)

-- some goal can be reached
pub can-reach : (p : Pane) (t : TreeView) (ways : ℕ → Way → Bool) (price : Edge → Option ℕ) (marks : List Bool) (ends : List ℕ) (source : ℕ) → ArePrices p.grid ways price →
    IsPassable p.grid ways p.window → source < size_of p → IsTrue ((pane_graph p t price).source source) → 0 < length ends → All (λ e. e < size_of p) ends →
    ((n : ℕ) → is_marked marks n ≡ is_among ends n) → CanReach (pane_graph p t price) marks
can-reach p t ways price marks ends source prices passable inside is_source some below marked =
    let first = first-among ends some in
    let walk = reach-cell p t ways price source first.0 prices passable inside (among-below ends (size_of p) first.0 below first.1) is_source in
    record { goal = first.0; marked = marked first.0 ∙ first.1; cost = walk.0; walk = walk.1.0; small = walk.1.1 }

-- a labelled goal is found
pub finds-first : (marks : List Bool) (ends : List ℕ) (label : ℕ → Option ℕ) (bound : ℕ) (first : Option Reached) → HasGoal marks label bound → ((n : ℕ) → is_marked marks n ≡ is_among ends n) →
    IsFirstOf label ends first → IsSome first
finds-first marks ends label bound None goal marked none =
    let low = at-most (label goal.goal) bound goal.low in
    absurd (none-some low.0 (sym (none goal.goal (sym (marked goal.goal) ∙ goal.marked)) ∙ low.1.0))
finds-first marks ends label bound (Some first) goal marked is = refl

pub first-low : (marks : List Bool) (ends : List ℕ) (label : ℕ → Option ℕ) (bound : ℕ) (first : Reached) → HasGoal marks label bound → ((n : ℕ) → is_marked marks n ≡ is_among ends n) →
    IsFirst label ends first → first.cost ≤ bound
first-low marks ends label bound first goal marked is =
    let low = at-most (label goal.goal) bound goal.low in
    let h = low.1.1 in
    elim (is.before goal.goal low.0 (sym (marked goal.goal) ∙ goal.marked) low.1.0) [
      | inl less ↦ omega arith
      | inr same ↦ omega (arith, same.0)
    ]

-- it is the first goal by distance
pub first-goal : (graph : Graph) (rest : ℕ → ℕ) (label : ℕ → Option ℕ) (bound : ℕ) (ends : List ℕ) (first : Reached) → IsConsistent graph rest → AreGuided graph rest label bound →
    IsFirst label ends first → first.cost ≤ bound → ((end : ℕ) → IsTrue (is_among ends end) → rest end ≡ 0) → IsFirstGoal graph ends first.cell
first-goal graph rest label bound ends first consistent guided is low free = record {
  among = is.among;
  distance = first.cost;
  is_distance = let none = free first.cell is.among in guided-distance graph rest label bound consistent guided first.cell first.cost is.labelled (omega arith);
  nearest = λ other d among distance.
      let none = free other among in
      elim (cases_lt d first.cost) [
        | inl less ↦
            let found = at-most (label other) d (guided-low graph rest label bound consistent guided other d distance.reached (omega arith)) in
            let h = found.1.1 in
            elim (is.before other found.0 among found.1.0) [
              | inl below ↦ absurd (omega arith)
              | inr same ↦ omega (arith, same.0)
            ]
        | inr more ↦ more
      ];
  first = λ other among distance.
      let none = free other among in
      let found = at-most (label other) first.cost (guided-low graph rest label bound consistent guided other first.cost distance.reached (omega arith)) in
      let h = found.1.1 in
      elim (is.before other found.0 among found.1.0) [
        | inl below ↦ absurd (omega arith)
        | inr same ↦ same.1
      ];
}

-- the walk back from the first goal is the least walk
pub walk-least : (p : Pane) (t : TreeView) (price : Edge → Option ℕ) (goals cells : List ℕ) (goal : ℕ) → LiesIn p t → LieIn p.grid p.window goals →
    IsFirstGoal (pane_graph p t price) (map (local_of p) goals) goal → IsWalkBack p t price goal cells → IsLeastWalk (whole p t price) goals cells
walk-least p t price goals cells goal lies lie first walk =
    let P : List ℕ → Type 0 = λ xs. IsLeastWalk (whole p t price) goals xs in
    let least : IsLeastWalk (pane_graph p t price) (map (local_of p) goals) walk.locals =
    record { goal = goal; rest = walk.rest; begins = walk.begins; first_goal = first; leads_back = walk.leads } in
    let below = locals-below p goals (size_of p) refl lie in
    subst P (sym walk.are) (out-least p t price goals walk.locals lies lie least (λ end among. among-below (map (local_of p) goals) (size_of p) end below among))

first-cell : (nodes : List Node) → 0 < length nodes → (cell : ℕ) × (cell_at nodes 0 ≡ Some cell)
first-cell [] some = absurd (omega arith)
first-cell (node ∷ nodes) some = (node.cell, refl)

-- a tree's first cell is a source
pub some-source : (p : Pane) (t : TreeView) → t.shape ≡ p.grid → TreeLiesIn p.window t → IsTree t → (n : ℕ) × ((n < size_of p) × IsTrue (pane_source p t n))
some-source p t same lies tree =
    let at = first-cell t.nodes tree.rooted in
    let cell = at.0 in
    let found = cell-only t.shape t.nodes 0 cell tree.hanging at.1 in
    let within = tree-window p t 0 cell same lies found in
    let below = local-below p cell within in
    (local_of p cell, (below, tree-source p t 0 cell (local_of p cell) found below (cell-local p cell within)))

pub lies-in : (p : Pane) (t : TreeView) → t.shape ≡ p.grid → TreeLiesIn p.window t → LiesIn p t
lies-in p t same lies cell held = let P : Shape → Type 0 = λ g. IsTrue (in_window g p.window cell) in subst P same (lies cell held)

-- what the search and the first goal come to
pub record Found (p : Pane) (t : TreeView) (price : Edge → Option ℕ) (label : ℕ → Option ℕ) (ends : List ℕ) (first : Reached) : Type 0 where
  pub near : IsNear p t price label first.cell first.cost
  pub goal : IsFirstGoal (pane_graph p t price) ends first.cell

pub found-first : (p : Pane) (t : TreeView) (price : Edge → Option ℕ) (aim : Aim) (marks : List Bool) (label : ℕ → Option ℕ) (ends : List ℕ) (first : Reached) →
    IsGuide p price aim → Finds (pane_graph p t price) (rest_of p aim) marks label → ((n : ℕ) → is_marked marks n ≡ is_among ends n) → ((end : ℕ) → IsTrue (is_among ends end) → rest_of p aim end ≡ 0) →
    All (λ e. e < size_of p) ends → IsFirst label ends first → Found p t price label ends first
found-first p t price aim marks label ends first guide finds marked free below is =
    let consistent = pane-rest p t price aim guide in
    let low = first-low marks ends label finds.bound first finds.goal marked is in
    let none = free first.cell is.among in
    record {
      near = record {
        aim = aim;
        inside = among-below ends (size_of p) first.cell below is.among;
        labelled = is.labelled;
        bound = finds.bound;
        consistent = consistent;
        guided = finds.guided;
        near = omega arith;
      };
      goal = first-goal (pane_graph p t price) (rest_of p aim) label finds.bound ends first consistent finds.guided is low free;
    }

-- the same, from what is known of each list of the goals' numbers, and of the marks
pub found-of : (p : Pane) (t : TreeView) (price : Edge → Option ℕ) (aim : Aim) (marks made : List Bool) (label : ℕ → Option ℕ)
    (goals ends boxed marked kept : List ℕ) (o : Option Reached) (first : Reached) → IsGuide p price aim →
    Finds (pane_graph p t price) (rest_of p aim) marks label → boxed ≡ kept → marked ≡ kept → ends ≡ kept → kept ≡ map (local_of p) goals →
    marks ≡ made → ((n : ℕ) → is_marked made n ≡ is_among marked n) → ((end : ℕ) → IsTrue (is_among boxed end) → rest_of p aim end ≡ 0) →
    LieIn p.grid p.window goals → IsFirstOf label ends o → o ≡ Some first → Found p t price label (map (local_of p) goals) first
found-of p t price aim marks made label goals ends boxed marked kept o first guide finds as_boxed as_marked as_ends kept_are marks_are of_marks of_box inside is found =
    let are = as_ends ∙ kept_are in
    subst (λ (xs : List ℕ). Found p t price label xs first) are
    (found-first p t price aim marks label ends first guide finds
    (λ n. ap (λ (xs : List Bool). is_marked xs n) marks_are ∙ of_marks n ∙ ap (λ (xs : List ℕ). is_among xs n) (as_marked ∙ sym as_ends))
    (λ end among. of_box end (ap (λ (xs : List ℕ). is_among xs end) (as_boxed ∙ sym as_ends) ∙ among))
    (subst (λ (xs : List ℕ). All (λ e. e < size_of p) xs) (sym are) (locals-below p goals (size_of p) refl inside))
    (subst (λ (r : Option Reached). IsFirstOf label ends r) found is))

pub some-locals : (p : Pane) (goals : List ℕ) → 0 < length goals → 0 < length (map (local_of p) goals)
some-locals p [] some = absurd (omega arith)
some-locals p (goal ∷ goals) some = omega arith

pub result-then : {A E : Type 0} (r : Result A E) (P Q : A → Type 0) → IfOk r P → ((x : A) → P x → Q x) → IfOk r Q
result-then (Ok x) P Q is then_is = then_is x is
result-then (Err e) P Q is then_is = tt
