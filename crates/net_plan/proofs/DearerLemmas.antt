-- Maze plans where prices off them only get dearer.
use Rattle.std.proofs.Common.{◌≡◌, ℕ, ◌<◌, ◌≤◌, inl, inr, Bool, true, false, ◌&&◌, ◌==◌, nat_lt, List, [], ◌∷◌, get_or, All, Option, Some, None, is_some, unwrap_or, if◌then◌else◌, IfSome, IsTrue, refl, sym, ap, subst, ◌∙◌, arith}
use Rattle.std.proofs.lemmas.Bool.{and_parts, or_left, or_right}
use Rattle.std.proofs.lemmas.Bool.Decides.{nat_tests}
use Rattle.std.proofs.lemmas.List.Elements.{All-nil, All-cons}
use Rattle.std.specs.Option.{option_and_then}
use Rattle.gr_base.proofs.GridLemmas.{edge_of-joins}
use Rattle.gr_base.proofs.TreeLemmas.{found-append}
use Rattle.gr_base.specs.Grid.{cells_of, place_at, edge_of, has_edge, high_of, Joins}
use Rattle.gr_base.specs.Trees.{TreeView, node_of, node_with, holds, grown, attached}
use Rattle.gr_base.specs.declared.grid.Edge.{Edge}
use Rattle.gr_base.specs.declared.grid.Shape.{Shape}
use Rattle.gr_base.specs.declared.tree.Node.{Node}
use Rattle.maze_route.proofs.StepLemmas.{chosen-some, then-some}
use Rattle.maze_route.specs.Walks.{LeadsBack}
use Rattle.maze_route.specs.Windows.{is_within, in_window, window_step}
use Rattle.maze_route.specs.declared.window.Window.{Window}
use Rattle.net_plan.specs.Mazes.{missing, GrowsTo}
use Rattle.net_plan.specs.Mazes.GrowsTo.{Ends, Goes_on}
use Rattle.net_plan.proofs.DearerWalks.{Steps, walks, AreDearer, least-stays}

-- nodes keep their cells as walks are hung on them
grown-holds : (nodes : List Node) (walk : List ℕ) (cell : ℕ) → IsTrue (is_some (node_with nodes cell)) → IsTrue (is_some (node_with (grown nodes walk) cell))
grown-holds nodes [] cell held = held
grown-holds nodes (last ∷ []) cell held = held
grown-holds nodes (first ∷ next ∷ after) cell held =
    let rest = grown nodes (next ∷ after) in
    let node = node_of first (unwrap_or (node_with rest next) 0) in
    found-append rest (node ∷ []) cell
    ∙ or_left (is_some (node_with rest cell)) (is_some (node_with (node ∷ []) cell)) (grown-holds nodes (next ∷ after) cell held)

own-cell : (b : Bool) → b ≡ true → is_some {T = ℕ} (if b then Some 0 else None) ≡ true
own-cell true is = refl
own-cell false is = is

-- the cells of a walk back are held once it is attached
walk-held : (t : TreeView) (step : Steps) (walk : List ℕ) → LeadsBack (walks (holds t) step) walk → All (λ cell. IsTrue (holds (attached t walk) cell)) walk
walk-held t step [] leads = absurd leads
walk-held t step (last ∷ []) leads =
    let P : ℕ → Type 0 = λ cell. IsTrue (holds t cell) in
    All-cons P last [] leads (All-nil P)
walk-held t step (first ∷ next ∷ after) leads =
    let rest = grown t.nodes (next ∷ after) in
    let node = node_of first (unwrap_or (node_with rest next) 0) in
    let P : ℕ → Type 0 = λ cell. IsTrue (is_some (node_with rest cell)) in
    let Q : ℕ → Type 0 = λ cell. IsTrue (holds (attached t (first ∷ next ∷ after)) cell) in
    let own : (first == first) ≡ true = grind (arith, nat_tests) in
    let here : Q first =
    found-append rest (node ∷ []) first
    ∙ or_right (is_some (node_with rest first)) (is_some (node_with (node ∷ []) first)) (own-cell (first == first) own) in
    let others = walk-held t step (next ∷ after) leads.1.1 in
    All-cons Q first (next ∷ after) here (λ k d below.
    let cell = get_or (next ∷ after) k d in
    found-append rest (node ∷ []) cell ∙ or_left (is_some (node_with rest cell)) (is_some (node_with (node ∷ []) cell)) (others k d below))

-- a tree keeps its cells as it grows
grows-holds : (w : Window) (p : Edge → Option ℕ) (pins : List ℕ) (t u : TreeView) → GrowsTo w p pins t u → (cell : ℕ) → IsTrue (holds t cell) → IsTrue (holds u cell)
grows-holds w p pins t u (Ends none) cell held = held
grows-holds w p pins t u (Goes_on walk least grows) cell held =
    grows-holds w p pins (attached t walk) u grows cell (grown-holds t.nodes walk cell held)

-- an edge of a grid that begins in a window
pub record IsIn (g : Shape) (w : Window) (e : Edge) : Type 0 where
  pub edge : IsTrue (has_edge g e)
  pub begins : IsTrue (in_window g w e.low)

-- the edge between two cells of the window begins there
record JoinsIn (g : Shape) (w : Window) (u v : ℕ) (e : Edge) : Type 0 where
  is_in : IsIn g w e
  joins : Joins g e u v

joins-in : (g : Shape) (w : Window) (u v : ℕ) (e : Edge) → IsTrue (in_window g w u) → IsTrue (in_window g w v) → edge_of g u v ≡ Some e → JoinsIn g w u v e
joins-in g w u v e u_in v_in is =
    let u_below : u < cells_of g = (let test = (and_parts (nat_lt u (cells_of g)) (is_within w (place_at g u)) u_in).0 in grind (arith, nat_tests)) in
    let v_below : v < cells_of g = (let test = (and_parts (nat_lt v (cells_of g)) (is_within w (place_at g v)) v_in).0 in grind (arith, nat_tests)) in
    let joins : Joins g e u v = subst (λ (o : Option Edge). IfSome o (λ x. Joins g x u v)) is (edge_of-joins g u v u_below v_below) in
    record {
      is_in = record {
        edge = joins.edge;
        begins = elim joins.ends [
          | inl first ↦ subst (λ (n : ℕ). IsTrue (in_window g w n)) (sym first.0) u_in
          | inr second ↦ subst (λ (n : ℕ). IsTrue (in_window g w n)) (sym second.0) v_in
        ];
      };
      joins = joins;
    }

-- both ends of an edge between two held cells are held
ends-held : (held : ℕ → Bool) (g : Shape) (u v : ℕ) (e : Edge) → Joins g e u v → IsTrue (held u) → IsTrue (held v) → IsTrue (held e.low) × IsTrue (held (high_of g e))
ends-held held g u v e joins held_u held_v =
    let P : ℕ → Type 0 = λ n. IsTrue (held n) in
    elim joins.ends [
      | inl first ↦ (subst P (sym first.0) held_u, subst P (sym first.1) held_v)
      | inr second ↦ (subst P (sym second.0) held_v, subst P (sym second.1) held_u)
    ]

-- of the edges that begin in a window none has a lower price by the second prices than by the first, or a price there
-- alone; each whose ends both are held has the same
pub record AreDearerIn (g : Shape) (w : Window) (held : ℕ → Bool) (p q : Edge → Option ℕ) : Type 0 where
  pub lower : (e : Edge) (b : ℕ) → IsIn g w e → q e ≡ Some b → (a : ℕ) × ((p e ≡ Some a) × (a ≤ b))
  pub same : (e : Edge) → IsIn g w e → IsTrue (held e.low) → IsTrue (held (high_of g e)) → q e ≡ p e

-- so are the steps in the window
steps-dearer : (g : Shape) (w : Window) (held : ℕ → Bool) (p q : Edge → Option ℕ) → AreDearerIn g w held p q →
    AreDearer held (window_step g w p) (window_step g w q)
steps-dearer g w held p q dearer = record {
  lower = λ u v b is.
      let chosen = chosen-some (in_window g w u && in_window g w v) (option_and_then q (edge_of g u v)) b is in
      let both = and_parts (in_window g w u) (in_window g w v) chosen.0 in
      let found = then-some q (edge_of g u v) b chosen.1 in
      let joined = joins-in g w u v found.0 both.0 both.1 found.1.0 in
      let low = dearer.lower found.0 b joined.is_in found.1.1 in
      (low.0, (ap (λ x. if x then option_and_then p (edge_of g u v) else None) chosen.0 ∙ ap (option_and_then p) found.1.0 ∙ low.1.0, low.1.1));
  same = λ u v held_u held_v. by_test u v held_u held_v (in_window g w u) (in_window g w v) refl refl;
}
  where
    by_edge : (u v : ℕ) → IsTrue (held u) → IsTrue (held v) → (o : Option Edge) → IsTrue (in_window g w u) → IsTrue (in_window g w v) → edge_of g u v ≡ o →
        option_and_then q o ≡ option_and_then p o
    by_edge u v held_u held_v None u_in v_in is = refl
    by_edge u v held_u held_v (Some e) u_in v_in is =
        let joined = joins-in g w u v e u_in v_in is in
        let ends = ends-held held g u v e joined.joins held_u held_v in
        dearer.same e joined.is_in ends.0 ends.1

    by_test : (u v : ℕ) → IsTrue (held u) → IsTrue (held v) → (a b : Bool) → in_window g w u ≡ a → in_window g w v ≡ b →
        (if a && b then option_and_then q (edge_of g u v) else None) ≡ (if a && b then option_and_then p (edge_of g u v) else None)
    by_test u v held_u held_v false b u_is v_is = refl
    by_test u v held_u held_v true false u_is v_is = refl
    by_test u v held_u held_v true true u_is v_is = by_edge u v held_u held_v (edge_of g u v) u_is v_is refl

-- a tree grows by the dearer prices to the same tree, where the prices of the edges between that tree's cells stay
pub grows-dearer : (w : Window) (p q : Edge → Option ℕ) (pins : List ℕ) (t u : TreeView) → AreDearerIn t.shape w (holds u) p q → GrowsTo w p pins t u → GrowsTo w q pins t u
grows-dearer w p q pins t u dearer (Ends none) = Ends none
grows-dearer w p q pins t u dearer (Goes_on walk least grows) =
    let held = walk-held t (window_step t.shape w p) walk least.leads_back in
    Goes_on walk
    (least-stays (holds u) (holds t) (window_step t.shape w p) (window_step t.shape w q) (steps-dearer t.shape w (holds u) p q dearer) (missing t pins) walk
    (λ k d below. grows-holds w p pins (attached t walk) u grows (get_or walk k d) (held k d below)) least)
    (grows-dearer w p q pins (attached t walk) u dearer grows)
