-- One node's choices where its parent's tile is on a run, layer by layer.
use Rattle.std.proofs.Common.{◌≡◌, ℕ, ◌+◌, ◌<◌, Bool, true, false, ◌&&◌, ◌==◌, not, nat_lt, List, length, Option, Some, None, IsTrue, refl, sym, ap, subst, ◌∙◌, arith}
use Rattle.std.proofs.lemmas.Bool.{both_ways}
use Rattle.std.proofs.lemmas.Bool.Decides.{nat_tests}
use Rattle.std.specs.Option.{option_map}
use Rattle.cost_rules.specs.Prices.{ArePrices}
use Rattle.gr_base.specs.Trees.{TreeView, IsTree}
use Rattle.gr_base.specs.declared.grid.Edge.{Edge}
use Rattle.gr_base.specs.declared.grid.Shape.{Shape}
use Rattle.gr_base.specs.declared.grid.Way.{Way}
use Rattle.layer_assign.specs.declared.span.Best.{Best}
use Rattle.layer_assign.specs.declared.span.Span.{Span}
use Rattle.layer_assign.specs.Spans.{widened, climb, IsWithin}
use Rattle.layer_assign.specs.Assignments.{IsFlat, parent_of, may_take}
use Rattle.layer_assign.specs.Choices.{entry}
use Rattle.layer_assign.specs.Tables.{limb_cost, best_below}
use Rattle.layer_assign.specs.Chosen.{onward_cost}
use Rattle.layer_assign.specs.Runs.{is_run, offer_from}
use Rattle.layer_assign.proofs.ChoiceLemmas.{offered, best-some, best-is}
use Rattle.layer_assign.proofs.Choosing.{offers, Finds}
use Rattle.layer_assign.proofs.Elimination.{widened-within}
use Rattle.layer_assign.proofs.FlatLemmas.{some_edge}
use Rattle.layer_assign.proofs.Problems.{may-below}

-- a tile on a run
pub record IsRun (parent node : ℕ) (pins : Option Span) (joined : Bool) : Type 0 where
  pub next : parent + 1 ≡ node
  pub early : 0 < parent
  pub none : pins ≡ None
  pub free : joined ≡ false

pub run-is : (parent node : ℕ) (pins : Option Span) (joined : Bool) → is_run parent node pins joined ≡ true → IsRun parent node pins joined
run-is parent node None false is = record {
  next = grind (arith, nat_tests);
  early = grind (arith, nat_tests);
  none = refl;
  free = refl;
}
run-is parent node None true is = absurd (both_ways _ (last ((parent + 1 == node) && nat_lt 0 parent)) is)
  where
    last : (b : Bool) → ((b && true) && false) ≡ false
    last true = refl
    last false = refl
run-is parent node (Some s) joined is = absurd (both_ways _ (inner ((parent + 1 == node) && nat_lt 0 parent) (not joined)) is)
  where
    inner : (b q : Bool) → ((b && false) && q) ≡ false
    inner true q = refl
    inner false q = refl

-- the offers with their climbs are those over the parent's tile
run-offers : (g : Shape) (ways : ℕ → Way → Bool) (price : Edge → Option ℕ) (t : TreeView) (node up : ℕ) (base : Option Span) (old from : List ℕ) (layer : ℕ) →
    (limbs : ℕ → Option ℕ) → ArePrices g ways price → IsFlat g t.shape → IsTree t → 0 < node → node < length t.nodes → up ≡ parent_of t node → from ≡ old →
    ((l : ℕ) → l < g.layers → limbs l ≡ limb_cost g price t from node base l) →
    ((s : Option Span) → IsWithin g.layers s → entry g.layers old (parent_of t node) s ≡ climb s) → layer < g.layers →
    (l : ℕ) → l < g.layers → offer_from limbs layer l ≡ offered (may_take g ways t node) (onward_cost g price t old node base (widened None layer)) l
run-offers g ways price t node up base old from layer limbs prices flat tree positive below parent same at climbs inside l lt =
    let edge = some_edge t node tree positive below in
    let s = widened None layer in
    let limb : limbs l ≡ limb_cost g price t old node base l = at l lt ∙ ap (λ (xs : List ℕ). limb_cost g price t xs node base l) same in
    let over : entry g.layers old up (widened s l) ≡ entry g.layers old (parent_of t node) (widened s l) = ap (λ (k : ℕ). entry g.layers old k (widened s l)) parent in
    let within : IsWithin g.layers s = record { ordered = omega arith; high = inside } in
    let climbed : climb (widened s l) ≡ entry g.layers old up (widened s l) = sym (over ∙ climbs (widened s l) (widened-within g.layers s l within lt)) in
    let make : ℕ → Option Best =
    λ x. option_map (λ (limb : ℕ). record { layer = l; cost = limb + x }) (limbs l) in
    ap make climbed ∙ offers g ways price t node up base old old s l limbs edge.0 prices flat edge.1.0 edge.1.1 lt limb over

pub run-finds : (g : Shape) (ways : ℕ → Way → Bool) (price : Edge → Option ℕ) (t : TreeView) (node up : ℕ) (base : Option Span) (old from : List ℕ) (layer : ℕ) →
    (limbs : ℕ → Option ℕ) → ArePrices g ways price → IsFlat g t.shape → IsTree t → 0 < node → node < length t.nodes → up ≡ parent_of t node → from ≡ old →
    ((l : ℕ) → l < g.layers → limbs l ≡ limb_cost g price t from node base l) →
    ((s : Option Span) → IsWithin g.layers s → entry g.layers old (parent_of t node) s ≡ climb s) → layer < g.layers →
    (l : ℕ) × IsTrue (may_take g ways t node l) →
    (found : Option Best) → found ≡ best_below (offer_from limbs layer) g.layers →
    Finds found (onward_cost g price t old node base (widened None layer)) (may_take g ways t node)
run-finds g ways price t node up base old from layer limbs prices flat tree positive below parent same at climbs inside allowed found is =
    let may = may_take g ways t node in
    let f = onward_cost g price t old node base (widened None layer) in
    let each = run-offers g ways price t node up base old from layer limbs prices flat tree positive below parent same at climbs inside in
    subst (λ (o : Option Best). Finds o f may) (sym is)
    (record {
      some = best-some may f (offer_from limbs layer) g.layers each (λ l yes_l. may-below g ways t node l yes_l) allowed.0 allowed.1;
      best = λ b found_b. best-is may f (offer_from limbs layer) g.layers b each (λ l yes_l. may-below g ways t node l yes_l) found_b;
    })
