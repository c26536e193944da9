-- A net's prices are prices.
use Rattle.std.proofs.Common.{◌≡◌, ℕ, ◌+◌, ◌*◌, ◌<◌, ◌≤◌, ◌↔◌, Bool, true, false, Some, None, IsSome, IfSome, IsTrue, slice_get, if◌then◌else◌, min, refl, subst, sym, ap, ◌∙◌, arith}
use Rattle.cost_rules.specs.Formulas.{cost_at, most_cost, overflow_at, via_price}
use Rattle.cost_rules.specs.Prices.{layer_of, ArePrices, IsBelowVias}
use Rattle.cost_rules.specs.declared.site.Formula.{Formula}
use Rattle.cost_rules.specs.declared.site.Formula.TheVariants.{First, Steep, Flat, Near}
use Rattle.cost_rules.specs.declared.site.Site.{Site}
use Rattle.gr_base.specs.Capacities.{usable_along, need_along, width_in}
use Rattle.gr_base.specs.Grid.{has_edge, edge_at, is_wire, is_wire_way}
use Rattle.gr_base.specs.declared.grid.Edge.{Edge}
use Rattle.gr_base.specs.declared.grid.Shape.{Shape}
use Rattle.gr_base.specs.declared.grid.Way.{Way}
use Rattle.grid_demand.specs.LoadSums.{LoadsView, demand_at, marks_at}
use Rattle.grid_demand.specs.Tables.{CapacityView, capacity_at, need_at, usable_at}
use Rattle.maze_route.specs.Runs.{AreSideBySide}
use Rattle.cost_rules.proofs.RiseLemmas.{near-calm}
use Rattle.net_plan.specs.Sites.{calm_room}
use Rattle.net_plan.specs.Prices.{site_of, price_of, ways_of}

-- a formula gives at least 1 and at most the greatest cost
cost-least : (f : Formula) (site : Site) → 1 ≤ cost_at f site
cost-least First site = omega arith
cost-least Steep site = omega arith
cost-least Flat site = omega arith
cost-least Near site = omega arith

cost-most : (f : Formula) (site : Site) → cost_at f site ≤ most_cost
cost-most First site = omega arith
cost-most Steep site = omega arith
cost-most Flat site = omega arith
cost-most Near site = omega arith

some-if : (b : Bool) (n : ℕ) → IsSome (if b then Some n else None) ↔ IsTrue b
some-if true n = (λ h. h, λ h. h)
some-if false n = (λ h. h, λ h. h)

if-paid : (b : Bool) (n : ℕ) (P : ℕ → Type 0) → P n → IfSome (if b then Some n else None) P
if-paid true n P holds = holds
if-paid false n P holds = tt

-- of two costs the one or the other
either : (b : Bool) (n m : ℕ) (P : ℕ → Type 0) → P n → P m → P (if b then n else m)
either true n m P of_n of_m = of_n
either false n m P of_n of_m = of_m

-- the prices of a net are prices
pub prices-of_net : (c : CapacityView) (l : LoadsView) (f : Formula) (net : ℕ) → ArePrices c.shape (ways_of c) (price_of c l f net)
prices-of_net c l f net = record {
  up = λ layer. refl;
  some = λ e edge. some-if (usable_at c e) (if is_wire e then cost_at f (site_of c l net e) else 3);
  least = λ e edge. let P : ℕ → Type 0 = λ n. 1 ≤ n in
      if-paid (usable_at c e) _ P (either (is_wire e) _ 3 P (cost-least f (site_of c l net e)) (omega arith));
  most = λ e edge. let P : ℕ → Type 0 = λ n. n ≤ most_cost in
      if-paid (usable_at c e) _ P (either (is_wire e) _ 3 P (cost-most f (site_of c l net e)) (omega arith));
}

-- each via edge has the cost of a via
pub vias-of_net : (c : CapacityView) (l : LoadsView) (f : Formula) (net : ℕ) → IsBelowVias c.shape (price_of c l f net) via_price
vias-of_net c l f net e edge up =
    let no_wire : (if is_wire e then cost_at f (site_of c l net e) else via_price) ≡ via_price =
    ap (λ (way : Way). if is_wire_way way then cost_at f (site_of c l net e) else via_price) up in
    if-paid (usable_at c e) _ (λ n. via_price ≤ n) (omega (arith, no_wire))

-- where a net fits with the room that a formula wants beside it, and there is no mark, it gives 1
pub cost-free : (f : Formula) (site : Site) → site.marks ≡ 0 → site.demand + site.need + calm_room f site.need ≤ site.capacity → 1 ≡ cost_at f site
cost-free First site none fits = let free : overflow_at site ≡ 0 = omega arith in omega (arith, free, none)
cost-free Steep site none fits =
    let free : overflow_at site ≡ 0 = omega arith in
    sym (ap (λ (m : ℕ). min most_cost (1 + m + (8 + m) * overflow_at site)) none ∙ ap (λ (k : ℕ). min most_cost (1 + 0 + (8 + 0) * k)) free)
cost-free Flat site none fits = let free : overflow_at site ≡ 0 = omega arith in omega (arith, free)
cost-free Near site none fits = sym (near-calm 3 site (omega (arith, none)) fits)

-- the price of one of the edges that lie side by side
same-site : (a b : Site) → a.demand ≡ b.demand → a.capacity ≡ b.capacity → a.need ≡ b.need → a.marks ≡ b.marks → a ≡ b
same-site a b demand capacity need marks =
    let by_demand : ℕ → Site = λ n. record { demand = n; capacity = a.capacity; need = a.need; marks = a.marks } in
    let by_capacity : ℕ → Site = λ n. record { demand = b.demand; capacity = n; need = a.need; marks = a.marks } in
    let by_need : ℕ → Site = λ n. record { demand = b.demand; capacity = b.capacity; need = n; marks = a.marks } in
    let by_marks : ℕ → Site = λ n. record { demand = b.demand; capacity = b.capacity; need = b.need; marks = n } in
    ap by_demand demand ∙ ap by_capacity capacity ∙ ap by_need need ∙ ap by_marks marks

pub side-price : (c : CapacityView) (l : LoadsView) (f : Formula) (net : ℕ) (from : Edge) (count place : ℕ) (site : Site) → AreSideBySide c.shape (ways_of c) from count → place < count →
    site.demand ≡ demand_at l (edge_at (from.low + place) from.way) → site.capacity ≡ capacity_at c (edge_at (from.low + place) from.way) → site.need ≡ need_at c net from →
    site.marks ≡ marks_at l (edge_at (from.low + place) from.way) → Some (cost_at f site) ≡ price_of c l f net (edge_at (from.low + place) from.way)
side-price c l f net from count place site beside below demand capacity need marks =
    let e = edge_at (from.low + place) from.way in
    let level : layer_of c.shape e ≡ layer_of c.shape from = beside.level place below in
    let needs : need_at c net e ≡ need_at c net from = ap (λ (n : ℕ). need_along from.way (width_in c.widths net) (slice_get c.layers n)) level in
    let usable : usable_at c e ≡ true = ap (λ (n : ℕ). usable_along from.way (slice_get c.layers n)) level ∙ beside.goes in
    let wire : is_wire e ≡ true = beside.wire in
    let same : site ≡ site_of c l net e = same-site site (site_of c l net e) demand capacity (need ∙ sym needs) marks in
    ap (λ (s : Site). Some (cost_at f s)) same ∙ sym (ap (λ b. Some (if b then cost_at f (site_of c l net e) else via_price)) wire)
    ∙ sym (ap (λ b. if b then Some (if is_wire e then cost_at f (site_of c l net e) else via_price) else None) usable)

-- the first of them is an edge of the grid
pub first-edge : (g : Shape) (ways : ℕ → Way → Bool) (from : Edge) (count : ℕ) → AreSideBySide g ways from count → 0 < count → IsTrue (has_edge g from)
first-edge g ways from count beside some =
    let none : from.low + 0 ≡ from.low = omega arith in
    let Q : ℕ → Type 0 = λ n. IsTrue (has_edge g (edge_at n from.way)) in
    subst Q none (beside.edges 0 some)
