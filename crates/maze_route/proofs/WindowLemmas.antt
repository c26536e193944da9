-- Walks in a window, by numbers in the grid and in the window.
use Rattle.std.proofs.Common.{◌≡◌, ℕ, ◌+◌, ◌<◌, inl, inr, Bool, true, false, ◌&&◌, ◌||◌, ◌==◌, nat_lt, List, [], ◌∷◌, map, Option, Some, None, IsTrue, if◌then◌else◌, refl, sym, ap, subst, ◌∙◌, arith}
use Rattle.std.specs.Prelude.{option_and_then}
use Rattle.std.proofs.lemmas.Bool.{cases_eq}
use Rattle.std.proofs.lemmas.Bool.Decides.{nat_tests}
use Rattle.std.proofs.lemmas.List.Elements.{All-head, All-tail}
use Rattle.gr_base.specs.declared.grid.Edge.{Edge}
use Rattle.gr_base.specs.declared.grid.Shape.{Shape}
use Rattle.gr_base.specs.Grid.{edge_of}
use Rattle.gr_base.specs.Trees.{TreeView, holds, is_among}
use Rattle.maze_route.specs.Steps.{size_of, cell_in, local_of, pane_step, pane_source, pane_graph}
use Rattle.maze_route.specs.Walks.{Reaches, Starts, Goes_on, IsDistance, IsBack, IsFirstBack, LeadsBack, IsLeastWalk}
use Rattle.maze_route.specs.Whole.{whole}
use Rattle.maze_route.specs.Windows.{in_window, window_step, LieIn}
use Rattle.maze_route.specs.declared.pane.Pane.{Pane}
use Rattle.maze_route.specs.declared.window.Window.{Window}
use Rattle.maze_route.proofs.PaneLemmas.{local-below, cell-local, local-cell, order-back}
use Rattle.maze_route.proofs.StepLemmas.{chosen-some}

out-step : (p : Pane) (price : Edge → Option ℕ) (m n k : ℕ) → pane_step p price m n ≡ Some k → window_step p.grid p.window price (cell_in p m) (cell_in p n) ≡ Some k
out-step p price m n k is = (chosen-some (nat_lt m (size_of p) && nat_lt n (size_of p)) (window_step p.grid p.window price (cell_in p m) (cell_in p n)) k is).1

out-source : (p : Pane) (t : TreeView) (n : ℕ) → IsTrue (pane_source p t n) → IsTrue (holds t (cell_in p n))
out-source p t n source = grind (arith, nat_tests)

pub out-reaches : (p : Pane) (t : TreeView) (price : Edge → Option ℕ) (n d : ℕ) → Reaches (pane_graph p t price) n d → Reaches (whole p t price) (cell_in p n) d
out-reaches p t price n d (Starts source) = Starts (out-source p t n source)
out-reaches p t price n d (Goes_on {u = u} {cost = cost} {k = k} walk taken) =
    Goes_on (out-reaches p t price u cost walk) (out-step p price u n k taken)

-- both ends of a step lie in the window
pub step-ends : (g : Shape) (w : Window) (price : Edge → Option ℕ) (u v k : ℕ) → window_step g w price u v ≡ Some k → (IsTrue (in_window g w u)) × (IsTrue (in_window g w v))
step-ends g w price u v k is =
    let both = (chosen-some (in_window g w u && in_window g w v) (option_and_then price (edge_of g u v)) k is).0 in
    (grind (arith, nat_tests), grind (arith, nat_tests))

in-step : (p : Pane) (price : Edge → Option ℕ) (u v k : ℕ) → window_step p.grid p.window price u v ≡ Some k → pane_step p price (local_of p u) (local_of p v) ≡ Some k
in-step p price u v k is =
    let ends = step-ends p.grid p.window price u v k is in
    let u_in = local-below p u ends.0 in
    let v_in = local-below p v ends.1 in
    let first : (nat_lt (local_of p u) (size_of p) && nat_lt (local_of p v) (size_of p)) ≡ true = grind (arith, nat_tests) in
    ap (λ b. if b then window_step p.grid p.window price (cell_in p (local_of p u)) (cell_in p (local_of p v)) else None) first
    ∙ ap (λ (c : ℕ). window_step p.grid p.window price c (cell_in p (local_of p v))) (cell-local p u ends.0)
    ∙ ap (λ (c : ℕ). window_step p.grid p.window price u c) (cell-local p v ends.1) ∙ is

in-source : (p : Pane) (t : TreeView) (cell : ℕ) → IsTrue (in_window p.grid p.window cell) → IsTrue (holds t cell) → IsTrue (pane_source p t (local_of p cell))
in-source p t cell within source =
    let below = local-below p cell within in
    let same : holds t (cell_in p (local_of p cell)) ≡ true = ap (λ (c : ℕ). holds t c) (cell-local p cell within) ∙ source in
    grind (arith, nat_tests)

-- the tree's cells lie in the pane
abbrev pub LiesIn : Pane → TreeView → Type 0
LiesIn p t = (cell : ℕ) → IsTrue (holds t cell) → IsTrue (in_window p.grid p.window cell)

pub in-reaches : (p : Pane) (t : TreeView) (price : Edge → Option ℕ) (c d : ℕ) → LiesIn p t → Reaches (whole p t price) c d → Reaches (pane_graph p t price) (local_of p c) d
in-reaches p t price c d lies (Starts source) = Starts (in-source p t c (lies c source) source)
in-reaches p t price c d lies (Goes_on {u = u} {cost = cost} {k = k} walk taken) =
    Goes_on (in-reaches p t price u cost lies walk) (in-step p price u c k taken)

-- a cell that walks reach lies in the window
pub reached-inside : (p : Pane) (t : TreeView) (price : Edge → Option ℕ) (c d : ℕ) → LiesIn p t → Reaches (whole p t price) c d → IsTrue (in_window p.grid p.window c)
reached-inside p t price c d lies (Starts source) = lies c source
reached-inside p t price c d lies (Goes_on {u = u} {k = k} walk taken) = (step-ends p.grid p.window price u c k taken).1

pub out-distance : (p : Pane) (t : TreeView) (price : Edge → Option ℕ) (n d : ℕ) → LiesIn p t → n < size_of p → IsDistance (pane_graph p t price) n d → IsDistance (whole p t price) (cell_in p n) d
out-distance p t price n d lies below distance = record {
  reached = out-reaches p t price n d distance.reached;
  least = λ cost walk.
      let P : ℕ → Type 0 = λ m. Reaches (pane_graph p t price) m cost in
      distance.least cost (subst P (local-cell p n below) (in-reaches p t price (cell_in p n) cost lies walk));
}

pub in-distance : (p : Pane) (t : TreeView) (price : Edge → Option ℕ) (c d : ℕ) → LiesIn p t → IsDistance (whole p t price) c d → IsDistance (pane_graph p t price) (local_of p c) d
in-distance p t price c d lies distance = record {
  reached = in-reaches p t price c d lies distance.reached;
  least = λ cost walk.
      let within = reached-inside p t price c d lies distance.reached in
      let P : ℕ → Type 0 = λ m. Reaches (whole p t price) m cost in
      distance.least cost (subst P (cell-local p c within) (out-reaches p t price (local_of p c) cost walk));
}

pub in-back : (p : Pane) (t : TreeView) (price : Edge → Option ℕ) (v u : ℕ) → LiesIn p t → IsBack (whole p t price) v u → IsBack (pane_graph p t price) (local_of p v) (local_of p u)
in-back p t price v u lies back = record {
  distance = back.distance;
  cost = back.cost;
  taken = in-step p price u v back.cost back.taken;
  of_u = in-distance p t price u back.distance lies back.of_u;
  of_v = in-distance p t price v (back.distance + back.cost) lies back.of_v;
}

step-inside : (p : Pane) (price : Edge → Option ℕ) (m n k : ℕ) → pane_step p price m n ≡ Some k → (m < size_of p) × (n < size_of p)
step-inside p price m n k is =
    let both = (chosen-some (nat_lt m (size_of p) && nat_lt n (size_of p)) (window_step p.grid p.window price (cell_in p m) (cell_in p n)) k is).0 in
    (grind (arith, nat_tests), grind (arith, nat_tests))

pub out-back : (p : Pane) (t : TreeView) (price : Edge → Option ℕ) (v u : ℕ) → LiesIn p t → IsFirstBack (pane_graph p t price) v u → IsFirstBack (whole p t price) (cell_in p v) (cell_in p u)
out-back p t price v u lies first =
    let back = first.is_back in
    let inside = step-inside p price u v back.cost back.taken in
    record {
      is_back = record {
        distance = back.distance;
        cost = back.cost;
        taken = out-step p price u v back.cost back.taken;
        of_u = out-distance p t price u back.distance lies inside.0 back.of_u;
        of_v = out-distance p t price v (back.distance + back.cost) lies inside.1 back.of_v;
      };
      first = λ other is.
          let P : ℕ → Type 0 = λ m. IsBack (pane_graph p t price) m (local_of p other) in
          let lower = first.first (local_of p other) (subst P (local-cell p v inside.1) (in-back p t price (cell_in p v) other lies is)) in
          let within = (step-ends p.grid p.window price other (cell_in p v) is.cost is.taken).0 in
          let h = order-back p u (local_of p other) inside.0 (local-below p other within) lower in
          omega (arith, h, cell-local p other within);
    }

out-outside : (p : Pane) (t : TreeView) (n : ℕ) → n < size_of p → pane_source p t n ≡ false → holds t (cell_in p n) ≡ false
out-outside p t n below outside = let test : nat_lt n (size_of p) ≡ true = grind (arith, nat_tests) in sym (ap (λ b. b && holds t (cell_in p n)) test) ∙ outside

pub out-leads : (p : Pane) (t : TreeView) (price : Edge → Option ℕ) (walk : List ℕ) → LiesIn p t → LeadsBack (pane_graph p t price) walk → LeadsBack (whole p t price) (map (cell_in p) walk)
out-leads p t price [] lies leads = absurd leads
out-leads p t price (last ∷ []) lies leads = out-source p t last leads
out-leads p t price (v ∷ u ∷ rest) lies leads =
    let inside = step-inside p price u v leads.1.0.is_back.cost leads.1.0.is_back.taken in
    (out-outside p t v inside.1 leads.0, (out-back p t price v u lies leads.1.0, out-leads p t price (u ∷ rest) lies leads.1.1))

lie-head : (p : Pane) (goal : ℕ) (goals : List ℕ) → LieIn p.grid p.window (goal ∷ goals) → IsTrue (in_window p.grid p.window goal)
lie-head p goal goals lie = All-head (λ (cell : ℕ). IsTrue (in_window p.grid p.window cell)) goal goals lie

lie-tail : (p : Pane) (goal : ℕ) (goals : List ℕ) → LieIn p.grid p.window (goal ∷ goals) → LieIn p.grid p.window goals
lie-tail p goal goals lie = All-tail (λ (cell : ℕ). IsTrue (in_window p.grid p.window cell)) goal goals lie

or-right : (a b : Bool) → b ≡ true → (a || b) ≡ true
or-right true b is = refl
or-right false b is = is

-- cells and their numbers in the window
among-out : (p : Pane) (goals : List ℕ) (n : ℕ) → LieIn p.grid p.window goals → n < size_of p → IsTrue (is_among (map (local_of p) goals) n) → IsTrue (is_among goals (cell_in p n))
among-out p [] n lie below among = among
among-out p (goal ∷ goals) n lie below among =
    elim (cases_eq (local_of p goal) n) [
      | inl same ↦
          let own : goal ≡ cell_in p n = sym (cell-local p goal (lie-head p goal goals lie)) ∙ ap (λ (m : ℕ). cell_in p m) same in
          let test : (goal == cell_in p n) ≡ true = grind (arith, nat_tests) in
          ap (λ b. b || is_among goals (cell_in p n)) test
      | inr other ↦
          let test : (local_of p goal == n) ≡ false = grind (arith, nat_tests) in
          let more : is_among (map (local_of p) goals) n ≡ true = sym (ap (λ b. b || is_among (map (local_of p) goals) n) test) ∙ among in
          or-right (goal == cell_in p n) (is_among goals (cell_in p n)) (among-out p goals n (lie-tail p goal goals lie) below more)
    ]

pub among-in : (p : Pane) (goals : List ℕ) (cell : ℕ) → IsTrue (is_among goals cell) → IsTrue (is_among (map (local_of p) goals) (local_of p cell))
among-in p [] cell among = among
among-in p (goal ∷ goals) cell among =
    elim (cases_eq goal cell) [
      | inl same ↦
          let own = ap (λ (c : ℕ). local_of p c) same in
          let test : (local_of p goal == local_of p cell) ≡ true = grind (arith, nat_tests) in
          ap (λ b. b || is_among (map (local_of p) goals) (local_of p cell)) test
      | inr other ↦
          let test : (goal == cell) ≡ false = grind (arith, nat_tests) in
          let more : is_among goals cell ≡ true = sym (ap (λ b. b || is_among goals cell) test) ∙ among in
          or-right (local_of p goal == local_of p cell) (is_among (map (local_of p) goals) (local_of p cell)) (among-in p goals cell more)
    ]

pub out-least : (p : Pane) (t : TreeView) (price : Edge → Option ℕ) (goals walk : List ℕ) → LiesIn p t → LieIn p.grid p.window goals →
    IsLeastWalk (pane_graph p t price) (map (local_of p) goals) walk → ((goal : ℕ) → IsTrue (is_among (map (local_of p) goals) goal) → goal < size_of p) →
    IsLeastWalk (whole p t price) goals (map (cell_in p) walk)
out-least p t price goals walk lies lie least inside =
    let first = least.first_goal in
    let below = inside least.goal first.among in
    record {
      goal = cell_in p least.goal;
      rest = map (cell_in p) least.rest;
      begins = ap (λ (xs : List ℕ). map (cell_in p) xs) least.begins;
      first_goal = record {
        among = among-out p goals least.goal lie below first.among;
        distance = first.distance;
        is_distance = out-distance p t price least.goal first.distance lies below first.is_distance;
        nearest = λ other d among is. first.nearest (local_of p other) d (among-in p goals other among) (in-distance p t price other d lies is);
        first = λ other among is.
            let within = reached-inside p t price other first.distance lies is.reached in
            let lower = first.first (local_of p other) (among-in p goals other among) (in-distance p t price other first.distance lies is) in
            let h = order-back p least.goal (local_of p other) below (local-below p other within) lower in
            omega (arith, h, cell-local p other within);
      };
      leads_back = out-leads p t price walk lies least.leads_back;
    }
