-- The best of the layers that are offered.
use Rattle.std.proofs.Common.{◌≡◌, ℕ, suc, zero, ◌+◌, ◌^◌, ◌<◌, ◌≤◌, inl, inr, Bool, true, false, ◌&&◌, nat_lt, if◌then◌else◌, List, [], ◌∷◌, Option, Some, None, unwrap_or, replicate, length, set, slice_get, get_or, IfSome, IsSome, IsSomeAnd, IsTrue, refl, sym, ap, subst, ◌∙◌, arith}
use Rattle.std.proofs.lemmas.Bool.{cases_Bool, cases_lt, cases_eq, both_ways}
use Rattle.std.proofs.lemmas.Option.{same_Some}
use Rattle.std.proofs.lemmas.Bool.Decides.{nat_tests}
use Rattle.std.specs.Option.{option_map, option_and_then}
use Rattle.cost_rules.specs.Prices.{ArePrices}
use Rattle.gr_base.specs.ParentEdges.{parent_edge}
use Rattle.gr_base.specs.Grid.{has_edge, on_layer}
use Rattle.gr_base.specs.Trees.{TreeView}
use Rattle.gr_base.specs.declared.grid.Edge.{Edge}
use Rattle.gr_base.specs.declared.grid.Shape.{Shape}
use Rattle.gr_base.specs.declared.grid.Way.{Way}
use Rattle.gr_base.proofs.GridLemmas.{edge-low}
use Rattle.layer_assign.specs.declared.span.Best.{Best}
use Rattle.layer_assign.specs.declared.span.Limb.{Limb}
use Rattle.layer_assign.specs.declared.span.Span.{Span}
use Rattle.layer_assign.specs.Spans.{IsWithin, widened}
use Rattle.layer_assign.specs.Assignments.{IsFlat, goes_on, may_take, wire_cost}
use Rattle.layer_assign.specs.Choices.{IsBest, entry}
use Rattle.layer_assign.specs.Tables.{IsSmall, IsLimb, AreWires, number_in, limb_cost, priced, is_at_most, offer, better, best_below}
use Rattle.layer_assign.proofs.Elimination.{widened-within}
use Rattle.layer_assign.proofs.FlatLemmas.{flat-cells, on_layer-edge, on_layer-layer}
use Rattle.layer_assign.proofs.TableLemmas.{get-set_same, get-set_other}

-- an offer of a layer that is allowed
abbrev pub offered : (ℕ → Bool) → (ℕ → ℕ) → ℕ → Option Best
offered may f layer = if may layer then Some (record { layer = layer; cost = f layer }) else None

pub record IsBestOf (may : ℕ → Bool) (f : ℕ → ℕ) (n : ℕ) (b : Best) : Type 0 where
  pub allowed : may b.layer ≡ true
  pub is : f b.layer ≡ b.cost
  pub least : (l : ℕ) → l < n → may l ≡ true → b.cost ≤ f l
  pub first : (l : ℕ) → l < n → may l ≡ true → f l ≡ b.cost → b.layer ≤ l
  pub inside : b.layer < n

abbrev pub Below : (ℕ → Bool) → (ℕ → ℕ) → ℕ → Option Best → Type 0
Below may f n None = (l : ℕ) → l < n → may l ≡ false
Below may f n (Some b) = IsBestOf may f n b

below-kept : (may : ℕ → Bool) (f : ℕ → ℕ) (n : ℕ) (o : Option Best) → may n ≡ false → Below may f n o → Below may f (suc n) (better o None)
below-kept may f n None never so_far = λ l lt. elim (cases_eq l n) [ inl same ↦ ap may same ∙ never | inr other ↦ so_far l (omega arith) ]
below-kept may f n (Some b) never so_far = record {
  allowed = so_far.allowed;
  is = so_far.is;
  least = λ l lt allowed. elim (cases_eq l n) [ inl same ↦ absurd (both_ways (may l) (ap may same ∙ never) allowed) | inr other ↦ so_far.least l (omega arith) allowed ];
  first = λ l lt allowed is. elim (cases_eq l n) [ inl same ↦ absurd (both_ways (may l) (ap may same ∙ never) allowed) | inr other ↦ so_far.first l (omega arith) allowed is ];
  inside = let h = so_far.inside in omega arith;
}

below-none : (may : ℕ → Bool) (f : ℕ → ℕ) (n : ℕ) → may n ≡ true → ((l : ℕ) → l < n → may l ≡ false) → IsBestOf may f (suc n) (record { layer = n; cost = f n })
below-none may f n is none = record {
  allowed = is;
  is = refl;
  least = λ l lt allowed. elim (cases_eq l n) [ inl same ↦ let e : f l ≡ f n = ap f same in omega arith | inr other ↦ absurd (both_ways (may l) (none l (omega arith)) allowed) ];
  first = λ l lt allowed e. elim (cases_eq l n) [ inl same ↦ omega arith | inr other ↦ absurd (both_ways (may l) (none l (omega arith)) allowed) ];
  inside = omega arith;
}

below-less : (may : ℕ → Bool) (f : ℕ → ℕ) (n : ℕ) (b : Best) → may n ≡ true → IsBestOf may f n b → f n < b.cost → IsBestOf may f (suc n) (record { layer = n; cost = f n })
below-less may f n b is so_far lt = record {
  allowed = is;
  is = refl;
  least = λ l below allowed. elim (cases_eq l n) [ inl same ↦ let e : f l ≡ f n = ap f same in omega arith | inr other ↦ let h = so_far.least l (omega arith) allowed in omega arith ];
  first = λ l below allowed e. elim (cases_eq l n) [ inl same ↦ omega arith | inr other ↦ let h = so_far.least l (omega arith) allowed in absurd (omega arith) ];
  inside = omega arith;
}

below-more : (may : ℕ → Bool) (f : ℕ → ℕ) (n : ℕ) (b : Best) → may n ≡ true → IsBestOf may f n b → b.cost ≤ f n → IsBestOf may f (suc n) b
below-more may f n b is so_far le = record {
  allowed = so_far.allowed;
  is = so_far.is;
  least = λ l below allowed. elim (cases_eq l n) [ inl same ↦ let e : f l ≡ f n = ap f same in omega arith | inr other ↦ so_far.least l (omega arith) allowed ];
  first = λ l below allowed e. elim (cases_eq l n) [ inl same ↦ let h = so_far.inside in omega arith | inr other ↦ so_far.first l (omega arith) allowed e ];
  inside = let h = so_far.inside in omega arith;
}

below-offer : (may : ℕ → Bool) (f : ℕ → ℕ) (n : ℕ) (o : Option Best) → may n ≡ true → Below may f n o → Below may f (suc n) (better o (Some (record { layer = n; cost = f n })))
below-offer may f n None is so_far = below-none may f n is so_far
below-offer may f n (Some b) is so_far =
    elim (cases_lt (f n) b.cost) [
      | inl lt ↦ let test : nat_lt (f n) b.cost ≡ true = grind (arith, nat_tests) in rw test (below-less may f n b is so_far lt)
      | inr le ↦ let test : nat_lt (f n) b.cost ≡ false = grind (arith, nat_tests) in rw test (below-more may f n b is so_far le)
    ]

-- the best of the offers of the layers below a number
pub best-below : (may : ℕ → Bool) (f : ℕ → ℕ) (offers : ℕ → Option Best) (n : ℕ) → ((l : ℕ) → l < n → offers l ≡ offered may f l) → Below may f n (best_below offers n)
unfolding best_below
best-below may f offers zero each = λ l lt. absurd (omega arith)
best-below may f offers (suc n) each =
    let so_far = best-below may f offers n (λ l lt. each l (omega arith)) in
    let o = best_below offers n in
    let P : Option Best → Type 0 = λ one. Below may f (suc n) (better o one) in
    elim (cases_Bool (may n)) [
      | inl yes_n ↦ subst P (sym (each n (omega arith) ∙ rw yes_n refl)) (below-offer may f n o yes_n so_far)
      | inr no_n ↦ subst P (sym (each n (omega arith) ∙ rw no_n refl)) (below-kept may f n o no_n so_far)
    ]

some_best : (may : ℕ → Bool) (f : ℕ → ℕ) (n : ℕ) (o : Option Best) (l : ℕ) → l < n → may l ≡ true → Below may f n o → IsSome o
some_best may f n None l lt allowed below = absurd (both_ways (may l) (below l lt) allowed)
some_best may f n (Some b) l lt allowed below = refl

pub best-some : (may : ℕ → Bool) (f : ℕ → ℕ) (offers : ℕ → Option Best) (n : ℕ) → ((l : ℕ) → l < n → offers l ≡ offered may f l) →
    ((l : ℕ) → may l ≡ true → l < n) → (l : ℕ) → may l ≡ true → IsSome (best_below offers n)
best-some may f offers n each inside l allowed = some_best may f n (best_below offers n) l (inside l allowed) allowed (best-below may f offers n each)

pub best-is : (may : ℕ → Bool) (f : ℕ → ℕ) (offers : ℕ → Option Best) (n : ℕ) (b : Best) → ((l : ℕ) → l < n → offers l ≡ offered may f l) →
    ((l : ℕ) → may l ≡ true → l < n) → best_below offers n ≡ Some b → IsBest f may b.layer b.cost
best-is may f offers n b each inside is =
    let best : IsBestOf may f n b = subst (λ (o : Option Best). Below may f n o) is (best-below may f offers n each) in
    record {
      allowed = best.allowed;
      cost = best.is;
      least = λ l allowed. best.least l (inside l allowed) allowed;
      first = λ l allowed e. best.first l (inside l allowed) allowed e;
    }

-- whether an edge has a price on a layer, where its layer goes its way
price-goes : (o : Option ℕ) (way p : Bool) (x : ℕ) → p ≡ true → (IsSome o → IsTrue way) → (IsTrue way → IsSome o) →
    option_map (λ wire. wire + x) o ≡ (if p && way then Some (unwrap_or o 0 + x) else None)
price-goes None true true x inside to from = absurd (both_ways false refl (from refl))
price-goes None false true x inside to from = refl
price-goes (Some wire) true true x inside to from = refl
price-goes (Some wire) false true x inside to from = absurd (both_ways false refl (to refl))
price-goes o way false x inside to from = absurd (both_ways false refl inside)

-- a limb has a cost on the layers that its edge may have
pub limb-cost : (g : Shape) (ways : ℕ → Way → Bool) (price : Edge → Option ℕ) (t : TreeView) (costs : List ℕ) (node : ℕ) (base : Option Span) (layer : ℕ) (e : Edge) →
    ArePrices g ways price → IsFlat g t.shape → parent_edge t node ≡ Some e → IsTrue (has_edge t.shape e) → layer < g.layers →
    limb_cost g price t costs node base layer
    ≡ (if may_take g ways t node layer then Some (wire_cost g price t node layer + entry g.layers costs node (widened base layer)) else None)
limb-cost g ways price t costs node base layer e prices flat up edge below =
    let over = on_layer g layer e in
    let some = prices.some over (on_layer-edge g t.shape layer e flat edge below) in
    let is = on_layer-layer g t.shape layer e flat edge below in
    let test : nat_lt layer g.layers ≡ true = grind (arith, nat_tests) in
    let W : ℕ → Type 0 = λ l. IsSome (price over) → IsTrue (ways l e.way) in
    let V : ℕ → Type 0 = λ l. IsTrue (ways l e.way) → IsSome (price over) in
    let x = entry g.layers costs node (widened base layer) in
    let P : Option Edge → Type 0 = λ o.
    option_map (λ wire. wire + x) (option_and_then (λ f. price (on_layer g layer f)) o)
    ≡ (if unwrap_or (option_map (goes_on g ways layer) o) false then Some (unwrap_or (option_and_then (λ f. price (on_layer g layer f)) o) 0 + x) else None) in
    subst P (sym up) (price-goes (price over) (ways layer e.way) (nat_lt layer g.layers) x test (subst W is some.0) (subst V is some.1))

-- a limb has no cost on a layer that doesn't go its edge's way
unpriced : (o : Option ℕ) (way : Bool) (x : ℕ) → (IsSome o → IsTrue way) → way ≡ false → None ≡ option_map (λ wire. wire + x) o
unpriced None way x to none = refl
unpriced (Some wire) way x to none = absurd (both_ways way none (to refl))

pub limb-none : (g : Shape) (ways : ℕ → Way → Bool) (price : Edge → Option ℕ) (t : TreeView) (costs : List ℕ) (node : ℕ) (base : Option Span) (layer : ℕ) (e : Edge) →
    ArePrices g ways price → IsFlat g t.shape → parent_edge t node ≡ Some e → IsTrue (has_edge t.shape e) → layer < g.layers → ways layer e.way ≡ false →
    None ≡ limb_cost g price t costs node base layer
limb-none g ways price t costs node base layer e prices flat up edge below none =
    let over = on_layer g layer e in
    let some = prices.some over (on_layer-edge g t.shape layer e flat edge below) in
    let is = on_layer-layer g t.shape layer e flat edge below in
    let W : ℕ → Type 0 = λ l. IsSome (price over) → IsTrue (ways l e.way) in
    let x = entry g.layers costs node (widened base layer) in
    let P : Option Edge → Type 0 = λ o. None ≡ option_map (λ wire. wire + x) (option_and_then (λ f. price (on_layer g layer f)) o) in
    subst P (sym up) (unpriced (price over) (ways layer e.way) x (subst W is some.0) none)

-- what a limb costs, by what is below its edge
pub priced-limb : (g : Shape) (ways : ℕ → Way → Bool) (price : Edge → Option ℕ) (t : TreeView) (costs : List ℕ) (node : ℕ) (base : Option Span) (layer : ℕ) (limb : Limb) →
    ArePrices g ways price → IsFlat g t.shape → parent_edge t node ≡ Some limb.edge → IsTrue (has_edge t.shape limb.edge) → layer < g.layers →
    number_in limb.below layer ≡ (if ways layer limb.edge.way then Some (entry g.layers costs node (widened base layer)) else None) →
    priced g price limb layer ≡ limb_cost g price t costs node base layer
priced-limb g ways price t costs node base layer limb prices flat up edge below at =
    let x = entry g.layers costs node (widened base layer) in
    let over : ℕ → Option ℕ = λ b. option_map (λ wire. wire + b) (price (on_layer g layer limb.edge)) in
    let P : Option ℕ → Option ℕ = λ o. option_and_then over o in
    let Q : Option Edge → Option ℕ = λ o. option_map (λ wire. wire + x) (option_and_then (λ f. price (on_layer g layer f)) o) in
    let R : Bool → Option ℕ = λ b. if b then Some x else None in
    elim (cases_Bool (ways layer limb.edge.way)) [
      | inl goes ↦ ap P (at ∙ ap R goes) ∙ sym (ap Q up)
      | inr stays ↦ ap P (at ∙ ap R stays) ∙ limb-none g ways price t costs node base layer limb.edge prices flat up edge below stays
    ]

-- there is a cost below an edge where its layer goes its way
below-known : (goes : Bool) (x below : ℕ) → (if goes then Some x else None) ≡ Some below → (goes ≡ true) × (x ≡ below)
below-known true x below is = (refl, same_Some x below is)
below-known false x below is = absurd (no_number is)
  where
    no_number : None ≡ Some below → ⊥
    no_number e = cc

pub limb-is : (g : Shape) (ways : ℕ → Way → Bool) (price : Edge → Option ℕ) (t : TreeView) (costs : List ℕ) (node : ℕ) (base : Option Span) (limb : Limb) →
    ArePrices g ways price → IsFlat g t.shape → IsTrue (has_edge t.shape limb.edge) → IsWithin g.layers base → IsSmall g.layers costs node →
    ((layer : ℕ) → layer < g.layers → number_in limb.below layer ≡ (if ways layer limb.edge.way then Some (entry g.layers costs node (widened base layer)) else None)) →
    IsLimb g price limb
limb-is g ways price t costs node base limb prices flat edge within small at = record {
  tile = let low = edge-low t.shape limb.edge edge in let all = flat-cells g t.shape flat in omega (arith, low, all);
  inside = λ layer lt. on_layer-edge g t.shape layer limb.edge flat edge lt;
  small = λ layer below lt is.
      let over = on_layer g layer limb.edge in
      let known = below-known (ways layer limb.edge.way) (entry g.layers costs node (widened base layer)) below (sym (at layer lt) ∙ is) in
      let V : ℕ → Type 0 = λ l. IsTrue (ways l limb.edge.way) → IsSome (price over) in
      let some = prices.some over (on_layer-edge g t.shape layer limb.edge flat edge lt) in
      let most = small (widened base layer) (widened-within g.layers base layer within lt) in (
        subst (λ (n : ℕ). n ≤ 2 ^ 50) known.1 most,
        subst V (on_layer-layer g t.shape layer limb.edge flat edge lt) some.1 known.0,
      );
}

-- an offer from a limb's cost
pub offer-limb : (g : Shape) (limbs : ℕ → Option ℕ) (costs : List ℕ) (up : ℕ) (s : Option Span) (layer : ℕ) (o : Option ℕ) (allowed : Bool) (limb : ℕ) (cost : ℕ) →
    limbs layer ≡ o → o ≡ (if allowed then Some limb else None) → limb + entry g.layers costs up (widened s layer) ≡ cost →
    offer g limbs costs up s layer ≡ (if allowed then Some (record { layer = layer; cost = cost }) else None)
offer-limb g limbs costs up s layer o true limb cost at is sum =
    let make : ℕ → Option Best = λ k. Some (record { layer = layer; cost = k }) in
    let P : Option ℕ → Option Best = λ q. option_map (λ (l : ℕ). record { layer = layer; cost = l + entry g.layers costs up (widened s layer) }) q in
    ap P (at ∙ is) ∙ ap make sum
offer-limb g limbs costs up s layer o false limb cost at is sum =
    let P : Option ℕ → Option Best = λ q. option_map (λ (l : ℕ). record { layer = layer; cost = l + entry g.layers costs up (widened s layer) }) q in
    ap P (at ∙ is)

-- the number that is read is the layer's
pub read-number : (numbers : List (Option ℕ)) (layer n : ℕ) → get_or numbers layer None ≡ Some n → number_in numbers layer ≡ Some n
read-number [] layer n is = absurd (no_number is)
  where
    no_number : None ≡ Some n → ⊥
    no_number e = cc
read-number (x ∷ xs) zero n is = is
read-number (x ∷ xs) (suc layer) n is = read-number xs layer n is

pub priced-at : (g : Shape) (price : Edge → Option ℕ) (limb : Limb) (layer below : ℕ) → number_in limb.below layer ≡ Some below →
    priced g price limb layer ≡ option_map (λ wire. wire + below) (price (on_layer g layer limb.edge))
priced-at g price limb layer below at =
    let over : ℕ → Option ℕ = λ b. option_map (λ wire. wire + b) (price (on_layer g layer limb.edge)) in
    ap (λ (o : Option ℕ). option_and_then over o) at

-- an offer costs no more than a limb whose edge costs 1
pub left-out : (g : Shape) (price : Edge → Option ℕ) (limb : Limb) (layer below cost : ℕ) (seen : Option Best) → number_in limb.below layer ≡ Some below →
    IfSome (price (on_layer g layer limb.edge)) (λ wire. 1 ≤ wire) → below + 1 ≡ cost → is_at_most seen cost ≡ true →
    IsSomeAnd seen (λ b. IfSome (priced g price limb layer) (λ c. b.cost ≤ c))
left-out g price limb layer below cost None at least sum most = absurd (both_ways false refl most)
left-out g price limb layer below cost (Some b) at least sum most =
    let le : b.cost ≤ cost = grind (arith, nat_tests) in
    subst (λ (o : Option ℕ). IfSome o (λ c. b.cost ≤ c)) (sym (priced-at g price limb layer below at)) (no_less (price (on_layer g layer limb.edge)) least (omega (arith, le, sum)))
  where
    no_less : (o : Option ℕ) → IfSome o (λ wire. 1 ≤ wire) → b.cost ≤ below + 1 → IfSome (option_map (λ wire. wire + below) o) (λ c. b.cost ≤ c)
    no_less None low under = tt
    no_less (Some wire) low under = omega (arith, low, under)

-- an offer isn't taken where not even an edge that costs 1 would be better
pub offer-beaten : (g : Shape) (price : Edge → Option ℕ) (limb : Limb) (costs : List ℕ) (up : ℕ) (s : Option Span) (layer below cost : ℕ) (best : Option Best) →
    number_in limb.below layer ≡ Some below → IfSome (price (on_layer g layer limb.edge)) (λ wire. 1 ≤ wire) →
    below + entry g.layers costs up (widened s layer) + 1 ≡ cost → is_at_most best cost ≡ true →
    best ≡ better best (offer g (priced g price limb) costs up s layer)
offer-beaten g price limb costs up s layer below cost best at least sum most =
    let x = entry g.layers costs up (widened s layer) in
    let P : Option ℕ → Option Best = λ o. better best (option_map (λ (l : ℕ). record { layer = layer; cost = l + x }) o) in
    kept best (price (on_layer g layer limb.edge)) x least sum most ∙ sym (ap P (priced-at g price limb layer below at))
  where
    kept : (b : Option Best) (o : Option ℕ) (x : ℕ) → IfSome o (λ wire. 1 ≤ wire) → below + x + 1 ≡ cost → is_at_most b cost ≡ true →
        b ≡ better b (option_map (λ (l : ℕ). record { layer = layer; cost = l + x }) (option_map (λ wire. wire + below) o))
    kept None o x low is no_best = absurd (both_ways false refl no_best)
    kept (Some b) None x low is under = refl
    kept (Some b) (Some wire) x low is under =
        let le : b.cost ≤ cost = grind (arith, nat_tests) in
        let h : b.cost ≤ wire + below + x = omega (arith, le, low, is) in
        let stays : nat_lt (wire + below + x) b.cost ≡ false = grind (arith, nat_tests) in
        rw stays refl

-- an offer whose edge is priced
pub offer-priced : (g : Shape) (price : Edge → Option ℕ) (limb : Limb) (costs : List ℕ) (up : ℕ) (s : Option Span) (layer below wire cost : ℕ) →
    number_in limb.below layer ≡ Some below → price (on_layer g layer limb.edge) ≡ Some wire → wire + (below + entry g.layers costs up (widened s layer)) ≡ cost →
    Some (record { layer = layer; cost = cost }) ≡ offer g (priced g price limb) costs up s layer
offer-priced g price limb costs up s layer below wire cost at is sum =
    let x = entry g.layers costs up (widened s layer) in
    let make : ℕ → Option Best = λ k. Some (record { layer = layer; cost = k }) in
    let e : cost ≡ wire + below + x = omega (arith, sum) in
    let P : Option ℕ → Option Best = λ o. option_map (λ (l : ℕ). record { layer = layer; cost = l + x }) o in
    let Q : Option ℕ → Option ℕ = λ o. option_map (λ w. w + below) o in
    ap make e ∙ sym (ap P (priced-at g price limb layer below at ∙ ap Q is))

-- no wire is priced at first
pub no-wires : (g : Shape) (price : Edge → Option ℕ) (e : Edge) (n : ℕ) → AreWires g price e (replicate n None)
no-wires g price e n = λ layer wire is. absurd (none_there n layer wire is)
  where
    no_number : (wire : ℕ) → None ≡ Some wire → ⊥
    no_number wire e = cc

    none_there : (n layer wire : ℕ) → number_in (replicate n None) layer ≡ Some wire → ⊥
    none_there zero layer wire is = no_number wire is
    none_there (suc n) zero wire is = no_number wire is
    none_there (suc n) (suc layer) wire is = none_there n layer wire is

-- one more wire is priced
pub one-wire : (g : Shape) (price : Edge → Option ℕ) (e : Edge) (wires : List (Option ℕ)) (layer wire : ℕ) → layer < length wires → price (on_layer g layer e) ≡ Some wire →
    AreWires g price e wires → AreWires g price e (set wires layer (Some wire))
one-wire g price e wires layer wire inside is are = λ other found at.
    elim (cases_eq other layer) [
      | inl same ↦
          let here : slice_get (set wires layer (Some wire)) layer ≡ Some (Some wire) = get-set_same wires layer (Some wire) inside in
          let got : Some wire ≡ Some found = sym (ap (λ (o : Option (Option ℕ)). option_and_then (λ (p : Option ℕ). p) o) here) ∙ ap (λ (k : ℕ). number_in (set wires layer (Some wire)) k) (sym same) ∙ at in
          ap (λ (k : ℕ). price (on_layer g k e)) same ∙ is ∙ got
      | inr apart ↦ are other found (ap (λ (o : Option (Option ℕ)). option_and_then (λ (p : Option ℕ). p) o) (sym (get-set_other wires layer other (Some wire) apart)) ∙ at)
    ]
