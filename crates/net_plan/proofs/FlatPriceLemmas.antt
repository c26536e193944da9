-- The least prices over all layers.
use Rattle.std.proofs.Common.{◌≡◌, ℕ, zero, suc, ◌+◌, ◌<◌, ◌≤◌, ◌↔◌, inl, inr, Bool, true, false, ◌||◌, min, List, [], ◌∷◌, map, fold, All, Option, Some, None, is_some, if◌then◌else◌, IfSome, IsTrue, refl, sym, ap, subst, ◌∙◌, arith}
use Rattle.std.specs.List.{range_with_len, list_any}
use Rattle.std.proofs.lemmas.Bool.{cases_lt, cases_eq, both_ways}
use Rattle.std.proofs.lemmas.Bool.Decides.{nat_tests}
use Rattle.std.proofs.lemmas.List.Elements.{All-head, All-tail}
use Rattle.std.proofs.lemmas.List.FromFn.{map-range_with_len_more}
use Rattle.std.proofs.lemmas.List.Sums.{fold_push}
use Rattle.cost_rules.specs.Prices.{ArePrices}
use Rattle.cost_rules.specs.declared.site.Formula.{Formula}
use Rattle.cost_rules.specs.Formulas.{most_cost}
use Rattle.gr_base.proofs.GridLemmas.{edge-room}
use Rattle.gr_base.specs.Designs.{DesignView, IsFrame}
use Rattle.gr_base.specs.Grid.{has_edge, place_at, on_layer}
use Rattle.gr_base.specs.declared.grid.Edge.{Edge}
use Rattle.gr_base.specs.declared.grid.Shape.{Shape}
use Rattle.gr_base.specs.declared.grid.Way.{Way}
use Rattle.gr_base.specs.declared.grid.Way.TheVariants.{Up}
use Rattle.grid_demand.specs.LoadSums.{LoadsView}
use Rattle.grid_demand.specs.Tables.{CapacityView, usable_at, capacity_of}
use Rattle.net_plan.specs.Prices.{HasPrices, price_of, ways_of}
use Rattle.layer_assign.specs.Assignments.{IsFlat as IsFlattened}
use Rattle.net_plan.specs.FlatPrices.{lesser, flat_price, some_goes}
use Rattle.pattern_route.specs.Walks.{IsFlat}
use Rattle.net_plan.proofs.RangeLemmas.{All-range, any-range}
use Rattle.net_plan.proofs.WayLemmas.{edge-layer}
use Rattle.net_plan.proofs.PriceLemmas.{prices-of_net}
use Rattle.layer_assign.proofs.FlatLemmas.{on_layer-edge, on_layer-layer}

-- there is a lesser price where there is one
lesser-some : (a b : Option ℕ) → is_some (lesser a b) ≡ (is_some a || is_some b)
lesser-some None b = refl
lesser-some (Some a) None = refl
lesser-some (Some a) (Some b) = refl

or-assoc : (a b c : Bool) → ((a || b) || c) ≡ (a || (b || c))
or-assoc true b c = refl
or-assoc false b c = refl

or-false : (a : Bool) → a ≡ (a || false)
or-false true = refl
or-false false = refl

-- there is a least price where some layer has one
least-some : (f : ℕ → Option ℕ) (h : ℕ → Bool) (xs : List ℕ) (a : Option ℕ) → All (λ x. is_some (f x) ≡ h x) xs →
    is_some (fold lesser a (map f xs)) ≡ (is_some a || list_any h xs)
least-some f h [] a same = or-false (is_some a)
least-some f h (x ∷ xs) a same =
    let P : ℕ → Type 0 = λ y. is_some (f y) ≡ h y in
    least-some f h xs (lesser a (f x)) (All-tail P x xs same) ∙
    ap (λ (b : Bool). b || list_any h xs) (lesser-some a (f x) ∙ ap (λ (b : Bool). is_some a || b) (All-head P x xs same)) ∙
    or-assoc (is_some a) (h x) (list_any h xs)

-- what holds of two prices holds of the lesser
min-either : (P : ℕ → Type 0) (a b : ℕ) → P a → P b → P (min a b)
min-either P a b of_a of_b =
    elim (cases_lt a b) [
      | inl less ↦ let e : a ≡ min a b = omega arith in subst P e of_a
      | inr more ↦ let e : b ≡ min a b = omega arith in subst P e of_b
    ]

lesser-if : (P : ℕ → Type 0) (a b : Option ℕ) → IfSome a P → IfSome b P → IfSome (lesser a b) P
lesser-if P None b of_a of_b = of_b
lesser-if P (Some a) None of_a of_b = of_a
lesser-if P (Some a) (Some b) of_a of_b = min-either P a b of_a of_b

least-if : (P : ℕ → Type 0) (f : ℕ → Option ℕ) (xs : List ℕ) (a : Option ℕ) → IfSome a P → All (λ x. IfSome (f x) P) xs →
    IfSome (fold lesser a (map f xs)) P
least-if P f [] a of_a each = of_a
least-if P f (x ∷ xs) a of_a each =
    let Q : ℕ → Type 0 = λ y. IfSome (f y) P in
    least-if P f xs (lesser a (f x)) (lesser-if P a (f x) of_a (All-head Q x xs each)) (All-tail Q x xs each)

if-some : (b : Bool) (n : ℕ) → is_some (if b then Some n else None) ≡ b
if-some true n = refl
if-some false n = refl

-- the edge over a flat edge has a price where its layer goes its way
some-over : (c : CapacityView) (l : LoadsView) (f : Formula) (net : ℕ) (flat : Shape) (e : Edge) (layer : ℕ) → IsFlattened c.shape flat →
    IsTrue (has_edge flat e) → layer < c.shape.layers → is_some (price_of c l f net (on_layer c.shape layer e)) ≡ ways_of c layer e.way
some-over c l f net flat e layer flattened edge below =
    if-some (usable_at c (on_layer c.shape layer e)) _ ∙
    ap (λ (n : ℕ). ways_of c n e.way) (on_layer-layer c.shape flat layer e flattened edge below)

pub flat-some : (c : CapacityView) (l : LoadsView) (f : Formula) (net : ℕ) (flat : Shape) (e : Edge) → IsFlattened c.shape flat → IsTrue (has_edge flat e) →
    is_some (flat_price c.shape (price_of c l f net) e) ≡ some_goes c.shape (ways_of c) e.way
flat-some c l f net flat e flattened edge =
    least-some (λ layer. price_of c l f net (on_layer c.shape layer e)) (λ layer. ways_of c layer e.way) (range_with_len 0 c.shape.layers) None
    (All-range (λ layer. is_some (price_of c l f net (on_layer c.shape layer e)) ≡ ways_of c layer e.way) c.shape.layers 0
    (λ layer below. some-over c l f net flat e layer flattened edge (omega arith)))

flat-if : (c : CapacityView) (l : LoadsView) (f : Formula) (net : ℕ) (flat : Shape) (P : ℕ → Type 0) (e : Edge) → IsFlattened c.shape flat →
    ((d : Edge) → IsTrue (has_edge c.shape d) → IfSome (price_of c l f net d) P) → IsTrue (has_edge flat e) →
    IfSome (flat_price c.shape (price_of c l f net) e) P
flat-if c l f net flat P e flattened each edge =
    least-if P (λ layer. price_of c l f net (on_layer c.shape layer e)) (range_with_len 0 c.shape.layers) None tt
    (All-range (λ layer. IfSome (price_of c l f net (on_layer c.shape layer e)) P) c.shape.layers 0
    (λ layer below. each (on_layer c.shape layer e) (on_layer-edge c.shape flat layer e flattened edge (omega arith))))

pub some_layers : (g : Shape) → 0 < g.layers
some_layers g = let v = g.valid in grind (arith, nat_tests)

alike : (a b : Bool) → a ≡ b → (a ≡ true) ↔ (b ≡ true)
alike a b same = (λ h. sym same ∙ h, λ h. same ∙ h)

-- the least prices over all layers are prices
pub prices-of_layers : (c : CapacityView) (l : LoadsView) (f : Formula) (net : ℕ) (flat : Shape) → IsFlattened c.shape flat →
    ArePrices flat (λ _. some_goes c.shape (ways_of c)) (flat_price c.shape (price_of c l f net))
prices-of_layers c l f net flat flattened = record {
  up = λ layer. any-range (λ n. ways_of c n Up) c.shape.layers 0 0 (omega arith) (let h = some_layers c.shape in omega arith) refl;
  some = λ e edge. alike _ _ (flat-some c l f net flat e flattened edge);
  least = λ e edge. flat-if c l f net flat (λ n. 1 ≤ n) e flattened (prices-of_net c l f net).least edge;
  most = λ e edge. flat-if c l f net flat (λ n. n ≤ most_cost) e flattened (prices-of_net c l f net).most edge;
}

-- the least price of one layer more
pub least-more : (f : ℕ → Option ℕ) (n : ℕ) (least new price : Option ℕ) → least ≡ fold lesser None (map f (range_with_len 0 n)) →
    price ≡ f n → new ≡ lesser least price → new ≡ fold lesser None (map f (range_with_len 0 (n + 1)))
least-more f n least new price so_far is made =
    made ∙ ap (lesser least) is ∙ ap (λ (o : Option ℕ). lesser o (f n)) so_far ∙
    sym (fold_push lesser None (map f (range_with_len 0 n)) (f n)) ∙
    ap (fold lesser None) (sym (map-range_with_len_more f 0 n n (omega arith)))

-- a layer without a price changes nothing
lesser-none : (a : Option ℕ) → a ≡ lesser a None
lesser-none None = refl
lesser-none (Some a) = refl

pub least-passed : (f : ℕ → Option ℕ) (n : ℕ) (least : Option ℕ) → least ≡ fold lesser None (map f (range_with_len 0 n)) → None ≡ f n →
    least ≡ fold lesser None (map f (range_with_len 0 (n + 1)))
least-passed f n least so_far none = least-more f n least least None so_far none (lesser-none least)

no-price : (o : Option ℕ) → is_some o ≡ false → None ≡ o
no-price None is = refl
no-price (Some n) is = absurd (both_ways true is refl)

-- the edge over a flat edge has no price where its layer doesn't go its way
pub none-over : (c : CapacityView) (l : LoadsView) (f : Formula) (net : ℕ) (flat : Shape) (e : Edge) (layer : ℕ) → IsFlattened c.shape flat →
    IsTrue (has_edge flat e) → layer < c.shape.layers → ways_of c layer e.way ≡ false → None ≡ price_of c l f net (on_layer c.shape layer e)
none-over c l f net flat e layer flattened edge below none =
    no-price (price_of c l f net (on_layer c.shape layer e)) (some-over c l f net flat e layer flattened edge below ∙ none)

-- a price of 1 is the least where none is below 1
lesser-one : (a : Option ℕ) → IfSome a (λ n. 1 ≤ n) → lesser (Some 1) a ≡ Some 1
lesser-one None least = refl
lesser-one (Some n) least = let e : min 1 n ≡ 1 = omega arith in ap (λ (k : ℕ). Some k) e

one-lesser : (a : Option ℕ) → IfSome a (λ n. 1 ≤ n) → lesser a (Some 1) ≡ Some 1
one-lesser None least = refl
one-lesser (Some n) least = let e : min n 1 ≡ 1 = omega arith in ap (λ (k : ℕ). Some k) e

one-stays : (f : ℕ → Option ℕ) (xs : List ℕ) → All (λ x. IfSome (f x) (λ n. 1 ≤ n)) xs → fold lesser (Some 1) (map f xs) ≡ Some 1
one-stays f [] each = refl
one-stays f (x ∷ xs) each =
    let P : ℕ → Type 0 = λ y. IfSome (f y) (λ n. 1 ≤ n) in
    ap (λ (o : Option ℕ). fold lesser o (map f xs)) (lesser-one (f x) (All-head P x xs each)) ∙ one-stays f xs (All-tail P x xs each)

pub least-one : (f : ℕ → Option ℕ) (n a k : ℕ) (least : Option ℕ) → a ≤ k → k < a + n → f k ≡ Some 1 → IfSome least (λ n. 1 ≤ n) →
    ((j : ℕ) → j < a + n → IfSome (f j) (λ n. 1 ≤ n)) → fold lesser least (map f (range_with_len a n)) ≡ Some 1
least-one f zero a k least low high is so_far each = absurd (omega arith)
least-one f (suc n) a k least low high is so_far each =
    let rest = range_with_len (a + 1) n in
    elim (cases_eq a k) [
      | inl same ↦
          ap (λ (o : Option ℕ). fold lesser (lesser least o) (map f rest)) (ap f same ∙ is) ∙
          ap (λ (o : Option ℕ). fold lesser o (map f rest)) (one-lesser least so_far) ∙
          one-stays f rest (All-range (λ j. IfSome (f j) (λ n. 1 ≤ n)) n (a + 1) (λ j below. each j (omega arith)))
      | inr other ↦
          least-one f n (a + 1) k (lesser least (f a)) (omega arith) (omega arith) is
          (lesser-if (λ n. 1 ≤ n) least (f a) so_far (each a (omega arith))) (λ j below. each j (omega arith))
    ]

-- where one layer's edge over a flat edge costs 1 so does the flat edge
pub flat-one : (c : CapacityView) (l : LoadsView) (f : Formula) (net : ℕ) (flat : Shape) (e : Edge) (layer : ℕ) → IsFlattened c.shape flat → IsTrue (has_edge flat e) →
    layer < c.shape.layers → price_of c l f net (on_layer c.shape layer e) ≡ Some 1 → Some 1 ≡ flat_price c.shape (price_of c l f net) e
flat-one c l f net flat e layer flattened edge below is =
    sym (least-one (λ n. price_of c l f net (on_layer c.shape n e)) c.shape.layers 0 layer None (omega arith) (omega arith) is tt
    (λ n inside. (prices-of_net c l f net).least (on_layer c.shape n e) (on_layer-edge c.shape flat n e flattened edge (omega arith))))

-- some layer goes up
pub some-up : (c : CapacityView) (way : Way) (n : ℕ) → way ≡ Up → c.shape.layers ≤ n → list_any (λ layer. ways_of c layer way) (range_with_len 0 n) ≡ false → true ≡ false
some-up c way n up all none =
    let some = some_layers c.shape in
    sym (any-range (λ layer. ways_of c layer way) n 0 0 (omega arith) (omega arith) (ap (ways_of c 0) up)) ∙ none

-- each wire edge of the flat grid has a price
pub flat-priced : (d : DesignView) (l : LoadsView) (f : Formula) (net : ℕ) (flat : Shape) → IsFrame d.frame → IsFlattened d.frame.shape flat →
    IsFlat flat (flat_price d.frame.shape (price_of (capacity_of d) l f net))
flat-priced d l f net flat frame flattened = record {
  level = flattened.layers;
  priced = λ e edge wire.
      let layer = edge-layer d flat (place_at flat e.low) e.way frame flattened (edge-room flat e edge) in
      let below = layer.1.0 in
      flat-some (capacity_of d) l f net flat e flattened edge ∙
      any-range (λ n. ways_of (capacity_of d) n e.way) d.frame.shape.layers 0 layer.0 (omega arith) (omega arith) layer.1.1;
}

-- prices as a struct keeps them
some-of : (o : Option ℕ) (P : ℕ → Type 0) (n : ℕ) → IfSome o P → o ≡ Some n → P n
some-of o P n holds is = subst (λ (p : Option ℕ). IfSome p P) is holds

pub keep-prices : (g : Shape) (ways : ℕ → Way → Bool) (price : Edge → Option ℕ) → ArePrices g ways price → HasPrices g ways price
keep-prices g ways price are = record {
  up = are.up;
  some = are.some;
  least = λ e cost edge is. some-of (price e) (λ n. 1 ≤ n) cost (are.least e edge) is;
  most = λ e cost edge is. some-of (price e) (λ n. n ≤ most_cost) cost (are.most e edge) is;
}
