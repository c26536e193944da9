-- A least walk can be attached to the tree.
use Rattle.std.proofs.Common.{◌≡◌, ℕ, ◌+◌, ◌<◌, ◌≤◌, inl, inr, Bool, true, false, ◌&&◌, ◌||◌, ◌==◌, min, List, [], ◌∷◌, Option, Some, None, if◌then◌else◌, refl, sym, ap, subst, ◌∙◌, arith}
use Rattle.std.specs.Prelude.{option_and_then}
use Rattle.std.proofs.lemmas.Bool.{cases_eq}
use Rattle.std.proofs.lemmas.Bool.Decides.{nat_tests}
use Rattle.std.proofs.lemmas.Option.{none-some}
use Rattle.gr_base.specs.declared.grid.Edge.{Edge}
use Rattle.gr_base.specs.declared.grid.Shape.{Shape}
use Rattle.gr_base.specs.Grid.{cells_of, edge_of, edge_at, way_between, AreNeighbours, steps_between, Joins}
use Rattle.gr_base.specs.declared.grid.Way.{Way}
use Rattle.gr_base.proofs.GridLemmas.{edge_of-joins}
use Rattle.cost_rules.specs.Prices.{ArePrices}
use Rattle.gr_base.specs.Trees.{TreeView, holds, is_among, IsWalkTo}
use Rattle.maze_route.specs.Search.{HasCosts}
use Rattle.maze_route.specs.Walks.{Graph, IsDistance, IsBack, LeadsBack, IsLeastWalk}
use Rattle.maze_route.specs.Windows.{in_window, window_step, window_graph}
use Rattle.maze_route.specs.Whole.{whole}
use Rattle.maze_route.specs.declared.pane.Pane.{Pane}
use Rattle.maze_route.specs.declared.window.Window.{Window}
use Rattle.maze_route.proofs.Distances.{one-distance}
use Rattle.maze_route.proofs.StepLemmas.{chosen-some, then-some, at-some}
use Rattle.maze_route.proofs.WindowLemmas.{step-ends}

-- the distance of the cell that is back is less
nearer : (graph : Graph) (v u d : ℕ) → HasCosts graph → IsDistance graph v d → (back : IsBack graph v u) → back.distance < d
nearer graph v u d costs distance back =
    let same = one-distance graph v (back.distance + back.cost) d back.of_v distance in
    let some = costs u v back.cost back.taken in
    omega arith

differs : (graph : Graph) (v d u e : ℕ) → IsDistance graph v d → IsDistance graph u e → e < d → (u == v) ≡ false
differs graph v d u e far near less =
    elim (cases_eq u v) [
      | inl same ↦
          let P : ℕ → Type 0 = λ n. IsDistance graph n e in
          let h = one-distance graph v e d (subst P same near) far in
          absurd (omega arith)
      | inr other ↦ grind (arith, nat_tests)
    ]

chosen-edge : (b : Bool) (e f : Edge) → (if b then Some e else None) ≡ Some f → b ≡ true
chosen-edge true e f is = refl
chosen-edge false e f is = absurd (none-some f is)

-- a cell that is farther off isn't on the way back
farther : (graph : Graph) (v d u e : ℕ) (rest : List ℕ) → HasCosts graph → IsDistance graph v d → IsDistance graph u e → e < d → LeadsBack graph (u ∷ rest) →
    is_among (u ∷ rest) v ≡ false
farther graph v d u e [] costs far near less leads =
    let other : (u == v) ≡ false = differs graph v d u e far near less in
    ap (λ b. b || false) other
farther graph v d u e (w ∷ rest) costs far near less leads =
    let other : (u == v) ≡ false = differs graph v d u e far near less in
    let back = leads.1.0.is_back in
    let closer = nearer graph u w e costs near back in
    ap (λ b. b || is_among (w ∷ rest) v) other ∙ farther graph v d w back.distance rest costs far back.of_u (omega arith) leads.1.1

-- a step joins neighbours
pub step-neighbours : (g : Shape) (w : Window) (price : Edge → Option ℕ) (u v k : ℕ) → window_step g w price u v ≡ Some k → AreNeighbours g v u
step-neighbours g w price u v k is =
    let second = chosen-some (in_window g w u && in_window g w v) (option_and_then price (edge_of g u v)) k is in
    let found = then-some price (edge_of g u v) k second.1 in
    let one = chosen-edge (steps_between g u v == 1) (edge_at (min u v) (way_between g u v)) found.0 found.1.0 in
    let same : steps_between g u v ≡ 1 = grind (arith, nat_tests) in
    omega arith

pub walk-attaches : (t : TreeView) (w : Window) (price : Edge → Option ℕ) (v d : ℕ) (rest : List ℕ) →
    let graph : Graph = record { source = holds t; step = window_step t.shape w price } in
    HasCosts graph → IsDistance graph v d → LeadsBack graph (v ∷ rest) → IsWalkTo t (v ∷ rest)
walk-attaches t w price v d [] costs distance leads = leads
walk-attaches t w price v d (u ∷ rest) costs distance leads =
    let graph : Graph = record { source = holds t; step = window_step t.shape w price } in
    let back = leads.1.0.is_back in
    let ends = step-ends t.shape w price u v back.cost back.taken in
    let inside = ends.1 in
    let closer = nearer graph v u d costs distance back in (
      record {
        inside = grind (arith, nat_tests);
        outside = leads.0;
        once = farther graph v d u back.distance rest costs distance back.of_u closer leads.1.1;
        neighbours = step-neighbours t.shape w price u v back.cost back.taken;
      },
      walk-attaches t w price u back.distance rest costs back.of_u leads.1.1,
    )

-- each step in a window costs something
pub window-costs : (g : Shape) (w : Window) (ways : ℕ → Way → Bool) (price : Edge → Option ℕ) → ArePrices g ways price → (u v k : ℕ) → window_step g w price u v ≡ Some k → 1 ≤ k
window-costs g w ways price prices u v k is =
    let ends = step-ends g w price u v k is in
    let u_in : u < cells_of g = let h = ends.0 in grind (arith, nat_tests) in
    let v_in : v < cells_of g = let h = ends.1 in grind (arith, nat_tests) in
    let second = chosen-some (in_window g w u && in_window g w v) (option_and_then price (edge_of g u v)) k is in
    let found = then-some price (edge_of g u v) k second.1 in
    let joins = at-some (edge_of g u v) found.0 (λ (f : Edge). Joins g f u v) found.1.0 (edge_of-joins g u v u_in v_in) in
    at-some (price found.0) k (λ cost. 1 ≤ cost) found.1.1 (prices.least found.0 joins.edge)

-- a least walk can be attached
pub least-attaches : (t : TreeView) (w : Window) (ways : ℕ → Way → Bool) (price : Edge → Option ℕ) (goals walk : List ℕ) → ArePrices t.shape ways price →
    IsLeastWalk (window_graph t w price) goals walk → IsWalkTo t walk
least-attaches t w ways price goals walk prices least =
    let P : List ℕ → Type 0 = λ xs. IsWalkTo t xs in
    let L : List ℕ → Type 0 = λ xs. LeadsBack (window_graph t w price) xs in
    subst P (sym least.begins)
    (walk-attaches t w price least.goal least.first_goal.distance least.rest (window-costs t.shape w ways price prices) least.first_goal.is_distance (subst L least.begins least.leads_back))

pub least-attaches-in : (p : Pane) (t : TreeView) (ways : ℕ → Way → Bool) (price : Edge → Option ℕ) (goals walk : List ℕ) → p.grid ≡ t.shape → ArePrices t.shape ways price →
    IsLeastWalk (whole p t price) goals walk → IsWalkTo t walk
least-attaches-in p t ways price goals walk same prices least =
    let P : Shape → Type 0 = λ g. IsLeastWalk (record { source = holds t; step = window_step g p.window price }) goals walk in
    least-attaches t p.window ways price goals walk prices (subst P same least)
