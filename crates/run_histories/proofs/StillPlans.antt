-- Plans that stay the same while in their window only edges off them get dearer.
use Rattle.std.proofs.Common.{◌≡◌, ℕ, ◌+◌, ◌-◌, ◌*◌, ◌≤◌, length, Bool, true, false, ◌&&◌, min, List, Some, None, if◌then◌else◌, IsTrue, refl, sym, ap, subst, ◌∙◌, arith}
use Rattle.std.proofs.Math.Nat.{min-le_left}
use Rattle.std.proofs.lemmas.Option.{same_Some}
use Rattle.std.specs.List.{count_by, range_with_len}
use Rattle.cost_rules.proofs.RiseLemmas.{cost-rises}
use Rattle.cost_rules.specs.Formulas.{cost_at, reach, via_price}
use Rattle.cost_rules.specs.declared.site.Formula.{Formula}
use Rattle.cost_rules.specs.declared.site.Site.{Site}
use Rattle.gr_base.specs.Grid.{has_edge, is_wire, high_of}
use Rattle.gr_base.specs.Limits.{most_marks}
use Rattle.gr_base.specs.Trees.{TreeView, holds}
use Rattle.gr_base.specs.declared.grid.Edge.{Edge}
use Rattle.grid_demand.specs.LoadSums.{LoadsView, demand_at, marks_at}
use Rattle.grid_demand.specs.Tables.{CapacityView, usable_at}
use Rattle.maze_route.proofs.StepLemmas.{chosen-some}
use Rattle.maze_route.specs.declared.window.Window.{Window}
use Rattle.net_plan.proofs.DearerLemmas.{IsIn, AreDearerIn, grows-dearer}
use Rattle.net_plan.specs.Mazes.{window_of, IsMaze}
use Rattle.net_plan.specs.Prices.{site_of, price_of}
use Rattle.book_state.specs.Books.{demand, marks, marks_over, AreLoadsOf}
use Rattle.book_state.specs.Still.{StaysBest, IsWireIn, over_with}
use Rattle.book_state.specs.declared.entry.Entry.{Entry}

-- a site tells its cost by its marks and by what it would be over its capacity within the formula's reach
cost-by : (formula : Formula) (s u : Site) → s.capacity ≡ u.capacity → s.need ≡ u.need → s.marks ≡ u.marks → s.marks ≤ most_marks →
    s.demand + s.need + reach formula s.need - s.capacity ≤ u.demand + s.need + reach formula s.need - s.capacity → cost_at formula s ≤ cost_at formula u
cost-by formula s u capacity need marks few over =
    let by : ℕ → ℕ → ℕ → Type 0 = λ c n m. cost_at formula s ≤ cost_at formula (record { demand = u.demand; capacity = c; need = n; marks = m }) in
    let rises = cost-rises formula s s.demand u.demand few over in
    subst (λ (m : ℕ). by u.capacity u.need m) marks (subst (λ (n : ℕ). by u.capacity n s.marks) need (subst (λ (c : ℕ). by c s.need s.marks) capacity rises))

price-same : (c : CapacityView) (l m : LoadsView) (formula : Formula) (net : ℕ) (e : Edge) → (IsTrue (is_wire e) → marks_at l e ≤ most_marks) →
    (IsTrue (is_wire e) → (over_with c formula net e (demand_at l e) ≡ over_with c formula net e (demand_at m e)) × (marks_at l e ≡ marks_at m e)) → price_of c l formula net e ≡ price_of c m formula net e
price-same c l m formula net e few same = ap (λ (n : ℕ). if usable_at c e then Some n else None) (by_way (is_wire e) refl)
  where
    by_way : (b : Bool) → is_wire e ≡ b → (if b then cost_at formula (site_of c l net e) else via_price) ≡ (if b then cost_at formula (site_of c m net e) else via_price)
    by_way false is = refl
    by_way true is =
        let two = same is in
        let up = cost-by formula (site_of c l net e) (site_of c m net e) refl refl two.1 (few is) (omega (arith, two.0)) in
        let down = cost-by formula (site_of c m net e) (site_of c l net e) refl refl (sym two.1) (let most = few is in omega (arith, most, two.1)) (omega (arith, two.0)) in
        omega (arith, up, down)

price-rises : (c : CapacityView) (l m : LoadsView) (formula : Formula) (net : ℕ) (e : Edge) (b : ℕ) → (IsTrue (is_wire e) → marks_at l e ≤ most_marks) →
    (IsTrue (is_wire e) → (over_with c formula net e (demand_at l e) ≤ over_with c formula net e (demand_at m e)) × (marks_at l e ≡ marks_at m e)) → price_of c m formula net e ≡ Some b →
    (a : ℕ) × ((price_of c l formula net e ≡ Some a) × (a ≤ b))
price-rises c l m formula net e b few rises is =
    let cost : LoadsView → ℕ = λ v. if is_wire e then cost_at formula (site_of c v net e) else via_price in
    let two = chosen-some (usable_at c e) (Some (cost m)) b is in
    (cost l, (ap (λ u. if u then Some (cost l) else None) two.0, subst (λ (n : ℕ). cost l ≤ n) (same_Some (cost m) b two.1) (by_way (is_wire e) refl)))
  where
    by_way : (w : Bool) → is_wire e ≡ w → (if w then cost_at formula (site_of c l net e) else via_price) ≤ (if w then cost_at formula (site_of c m net e) else via_price)
    by_way false is = omega arith
    by_way true is =
        let two = rises is in
        cost-by formula (site_of c l net e) (site_of c m net e) refl refl two.1 (few is) two.0

-- from one history to another each wire edge of the grid that begins in the window stays as much over its capacity with the
-- net on it, or gets more so where it doesn't join two cells of the tree, and keeps its marks
pub record StaysBestIn (c : CapacityView) (formula : Formula) (net : ℕ) (w : Window) (t : TreeView) (before after : List Entry) : Type 0 where
  pub rises : (e : Edge) → IsIn c.shape w e → IsTrue (is_wire e) → over_with c formula net e (demand c before e) ≤ over_with c formula net e (demand c after e)
  pub stays : (e : Edge) → IsIn c.shape w e → IsTrue (is_wire e) → IsTrue (holds t e.low) → IsTrue (holds t (high_of c.shape e)) →
      over_with c formula net e (demand c after e) ≡ over_with c formula net e (demand c before e)
  pub marks : (e : Edge) → IsIn c.shape w e → IsTrue (is_wire e) → marks c after e ≡ marks c before e

best-in : (c : CapacityView) (formula : Formula) (net : ℕ) (w : Window) (t : TreeView) (before after : List Entry) → StaysBest c formula net w t before after → StaysBestIn c formula net w t before after
best-in c formula net w t before after still = record {
  rises = λ e is_in wire. still.rises e (wire_in e is_in wire);
  stays = λ e is_in wire low high. still.stays e (wire_in e is_in wire) (both (holds t e.low) (holds t (high_of c.shape e)) low high);
  marks = λ e is_in wire. still.marks e (wire_in e is_in wire);
}
  where
    wire_in : (e : Edge) → IsIn c.shape w e → IsTrue (is_wire e) → IsWireIn c w e
    wire_in e is_in wire = record { wire = wire; begins = is_in.begins }

    both : (a b : Bool) → IsTrue a → IsTrue b → IsTrue (a && b)
    both true b first second = second
    both false b first second = first

-- marks are in their range
marks-few : (c : CapacityView) (h : List Entry) (e : Edge) → marks c h e ≤ most_marks
unfolding marks
marks-few c h e = min-le_left most_marks (count_by (marks_over c h e) (range_with_len 0 (length h)))

-- prices off a tree that stays the best only rise
prices-dearer : (c : CapacityView) (l m : LoadsView) (formula : Formula) (net : ℕ) (w : Window) (t : TreeView) (first now : List Entry) →
    AreLoadsOf c first l → AreLoadsOf c now m → StaysBestIn c formula net w t first now → AreDearerIn c.shape w (holds t) (price_of c l formula net) (price_of c m formula net)
prices-dearer c l m formula net w t first now of_first of_now still = record {
  lower = λ e b is_in is. price-rises c l m formula net e b (λ wire. few first l of_first e is_in.edge wire) (λ wire.
      let before = of_first.demand e is_in.edge wire in
      let after = of_now.demand e is_in.edge wire in
      let rises = still.rises e is_in wire in
      (omega (arith, before, after, rises), sym (marked e is_in wire))) is;
  same = λ e is_in low high. price-same c m l formula net e (λ wire. few now m of_now e is_in.edge wire) (λ wire. (
    ap (over_with c formula net e) (of_now.demand e is_in.edge wire)
        ∙ still.stays e is_in wire low high
        ∙ sym (ap (over_with c formula net e) (of_first.demand e is_in.edge wire)),
    marked e is_in wire,
  ));
}
  where
    few : (h : List Entry) (v : LoadsView) → AreLoadsOf c h v → (e : Edge) → IsTrue (has_edge c.shape e) → IsTrue (is_wire e) → marks_at v e ≤ most_marks
    few h v of e edge wire = subst (λ (n : ℕ). n ≤ most_marks) (sym (of.marks e edge wire)) (marks-few c h e)

    marked : (e : Edge) → IsIn c.shape w e → IsTrue (is_wire e) → marks_at m e ≡ marks_at l e
    marked e is_in wire = of_now.marks e is_in.edge wire ∙ still.marks e is_in wire ∙ sym (of_first.marks e is_in.edge wire)

-- a maze plan over a history is one over a later history that leaves it the best in its window
pub still-maze-in : (c : CapacityView) (l m : LoadsView) (formula : Formula) (net : ℕ) (pins : List ℕ) (margin : ℕ) (t : TreeView) (first now : List Entry) →
    AreLoadsOf c first l → AreLoadsOf c now m → StaysBestIn c formula net (window_of c.shape pins margin) t first now → IsMaze c l formula net pins margin t → IsMaze c m formula net pins margin t
still-maze-in c l m formula net pins margin t first now of_first of_now still plan =
    let w = window_of c.shape pins margin in
    grows-dearer w (price_of c l formula net) (price_of c m formula net) pins _ t
    (prices-dearer c l m formula net w t first now of_first of_now still) plan

pub still-maze : (c : CapacityView) (l m : LoadsView) (formula : Formula) (net : ℕ) (pins : List ℕ) (margin : ℕ) (t : TreeView) (first now : List Entry) →
    AreLoadsOf c first l → AreLoadsOf c now m → StaysBest c formula net (window_of c.shape pins margin) t first now → IsMaze c l formula net pins margin t → IsMaze c m formula net pins margin t
still-maze c l m formula net pins margin t first now of_first of_now still =
    still-maze-in c l m formula net pins margin t first now of_first of_now (best-in c formula net (window_of c.shape pins margin) t first now still)
