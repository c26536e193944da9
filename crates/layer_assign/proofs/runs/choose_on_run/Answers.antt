use Rattle.std.proofs.lemmas.Option.{same_Some}
use Rattle.std.proofs.Common.{◌≡◌, ℕ, zero, suc, [], ◌∷◌, ◌+◌, ◌-◌, ◌<◌, false, Option, Some, None, IsTrue, List, length, slice_get, get_or, Bool, refl, sym, ap, subst, ◌∙◌, arith}
use Rattle.std.proofs.lemmas.Bool.Decides.{nat_tests}
use Rattle.cost_rules.specs.Prices.{ArePrices}
use Rattle.gr_base.specs.Trees.{TreeView, IsTree, parent_at}
use Rattle.gr_base.specs.declared.grid.Edge.{Edge}
use Rattle.gr_base.specs.declared.grid.Shape.{Shape}
use Rattle.gr_base.specs.declared.grid.Way.{Way}
use Rattle.layer_assign.specs.declared.span.Best.{Best}
use Rattle.layer_assign.specs.declared.span.Limb.{Limb}
use Rattle.layer_assign.specs.declared.span.Span.{Span}
use Rattle.layer_assign.specs.Assignments.{IsFlat, parent_of, may_take}
use Rattle.layer_assign.specs.Choices.{entry}
use Rattle.layer_assign.specs.Chosen.{onward_cost, Writes}
use Rattle.layer_assign.specs.Spans.{widened, climb, IsWithin}
use Rattle.layer_assign.specs.Tables.{number_in, limb_cost, priced, better, best_below}
use Rattle.layer_assign.specs.Runs.{offer_on, offer_from, a_climb_more, best_up_to, best_from, Thins}
use Rattle.layer_assign.proofs.Choosing.{Finds, choosing-none, choosing-turn, choosing-done, single_below, adds-layer, all-single, prices-at}
use Rattle.layer_assign.proofs.FlatLemmas.{few, few_layers, parent-at}
use Rattle.layer_assign.proofs.RunLemmas.{AreSmall, up_to-more, up_to-small, costs-less, best-both}
use Rattle.layer_assign.proofs.ThinLemmas.{thin-best}
use Rattle.layer_assign.proofs.Running.{run-finds}
use Rattle.layer_assign.proofs.runs.choose_on_run.Goals as goal

none_below : (s : Option Span) → single_below 0 s ≡ false
none_below None = refl
none_below (Some s) = grind (arith, nat_tests)

read-at : (xs : List (Option Best)) (i : ℕ) (x : Option Best) → slice_get xs i ≡ Some x → (d : Option Best) → get_or xs i d ≡ x
read-at [] i x is d = absurd (no_item is)
  where
    no_item : None ≡ Some x → ⊥
    no_item e = cc
read-at (y ∷ xs) zero x is d = same_Some y x is
read-at (y ∷ xs) (suc i) x is d = read-at xs i x is d

-- the best of the layers up to one and of those above it is the best of all
run-best : (limbs : ℕ → Option ℕ) (above : List (Option Best)) (layer layers : ℕ) (below seen own now best : Option Best) → layer < layers →
    below ≡ best_up_to limbs layer → seen ≡ a_climb_more below → own ≡ offer_on limbs layer → now ≡ better seen own →
    slice_get above layer ≡ Some (a_climb_more (best_from limbs (layer + 1) (layers - (layer + 1)))) → best ≡ better now (get_or above layer None) →
    best ≡ best_below (offer_from limbs layer) layers
run-best limbs above layer layers below seen own now best inside below_is seen_is own_is now_is above_is best_is =
    best_is ∙
    ap (λ o. better o (get_or above layer None))
    (now_is ∙ ap (λ o. better o own) (seen_is ∙ ap (λ o. a_climb_more o) below_is) ∙ ap (λ o. better (a_climb_more (best_up_to limbs layer)) o) own_is ∙ sym (up_to-more limbs layer)) ∙
    ap (λ o. better (best_up_to limbs (layer + 1)) o) (read-at above layer (a_climb_more (best_from limbs (layer + 1) (layers - (layer + 1)))) above_is None) ∙
    best-both limbs layer (layers - (layer + 1)) layers (omega arith)

-- the best of all is the best layer of the node's edge, where its span begins at the layer
run-found : (grid g : Shape) (ways : ℕ → Way → Bool) (price : Edge → Option ℕ) (t : TreeView) (node up : ℕ) (base : Option Span) (old from : List ℕ) (layer : ℕ) (limb : Limb)
    (thin : List (Option ℕ)) (above : List (Option Best)) (below seen own now best : Option Best) → grid ≡ g → ArePrices grid ways price → IsFlat g t.shape → IsTree t → 0 < node →
    node < length t.nodes → parent_at t.nodes node ≡ Some up → from ≡ old → ((l : ℕ) → l < g.layers → priced g price limb l ≡ limb_cost g price t from node base l) →
    ((s : Option Span) → IsWithin g.layers s → entry g.layers old (parent_of t node) s ≡ climb s) → layer < g.layers → (l : ℕ) × IsTrue (may_take g ways t node l) →
    below ≡ best_up_to (number_in thin) layer → seen ≡ a_climb_more below → own ≡ offer_on (number_in thin) layer → now ≡ better seen own →
    slice_get above layer ≡ Some (a_climb_more (best_from (number_in thin) (layer + 1) (g.layers - (layer + 1)))) → best ≡ better now (get_or above layer None) →
    Thins g.layers (priced g price limb) (number_in thin) → Finds best (onward_cost g price t old node base (widened None layer)) (may_take g ways t node)
run-found grid g ways price t node up base old from layer limb thin above below seen own now best on_grid given flat tree later inside parent same at climbs within allowed below_is seen_is own_is now_is above_is best_is thins =
    run-finds g ways price t node up base old from layer (priced g price limb) (prices-at grid g ways price on_grid given) flat tree later inside (sym (parent-at t node up parent)) same at climbs within allowed best
    (run-best (number_in thin) above layer g.layers below seen own now best within below_is seen_is own_is now_is above_is best_is
    ∙ thin-best (priced g price limb) (number_in thin) layer g.layers thins)

pub loop-layer-init : goal.loop-layer-init
unfolding best_up_to
loop-layer-init g c = record {
  below = refl;
  so_far =
      choosing-none c.args.shape (g.C.Costs.ways c.args.costs.now) (g.C.Costs.price c.args.costs.now) c.args.flat.now c.args.node c.args.base None
      c.args.least.now.items c.args.choices.now.items (single_below 0) c.requires.costs c.requires.choices none_below;
}

pub a_climb_more-requires : goal.a_climb_more-requires
a_climb_more-requires g c =
    let layers = c.args.shape.layers in
    let test = c.loop-layer-test.true in
    let few = few_layers c.args.shape in
    let inside : c.loop-layer.layer < layers = omega (arith, c.layers-layer-end.ensures.layers) in
    let limbs = number_in c.run_costs.new.thin in
    let small : AreSmall limbs layers 1125899907891200 = c.run_costs.ensures.most in
    costs-less c.loop-layer.below (best_up_to limbs c.loop-layer.layer) c.loop-layer.layer (omega arith) c.loop-layer.invariant.below
    (up_to-small limbs layers 1125899907891200 c.loop-layer.layer (omega arith) small)

pub write_best-requires-clause-some : goal.write_best-requires-clause-some
write_best-requires-clause-some g c =
    let inside : c.loop-layer.layer < c.args.shape.layers = let e = c.loop-layer-test.true in omega (arith, c.layers-layer-end.ensures.layers) in
    let later : 0 < c.args.node = let e = c.requires.early in let n = c.requires.next in omega arith in
    let found = run-found (g.C.Costs.grid c.args.costs.now) c.args.shape (g.C.Costs.ways c.args.costs.now) (g.C.Costs.price c.args.costs.now) c.args.flat.now c.args.node c.parent-parent.result
    c.args.base c.args.least.now.items c.deref.result.now c.loop-layer.layer c.limb_of.new.limb c.run_costs.new.thin c.bests_above.new.above c.loop-layer.below c.a_climb_more.result c.offer_on.result
    c.better_of-below.result c.better_of-best.result c.requires.grid (g.met.C.Costs.prices c.args.costs.now) c.requires.flat c.parent-parent.ensures.tree later c.requires.node
    c.parent-parent.ensures.parent c.deref.ensures.value c.limb_of.ensures.costs c.requires.climbs inside c.requires.layer c.loop-layer.invariant.below c.a_climb_more.ensures c.offer_on.ensures
    c.better_of-below.ensures (c.bests_above.ensures c.loop-layer.layer inside) c.better_of-best.ensures c.run_costs.ensures.thins in
    found.some

pub loop-layer-preserved : goal.loop-layer-preserved
loop-layer-preserved g c =
    let inside : c.loop-layer.layer < c.args.shape.layers = let e = c.loop-layer-test.true in omega (arith, c.layers-layer-end.ensures.layers) in
    let next = c.requires.next in
    let node = c.requires.node in
    let later : 0 < c.args.node = let e = c.requires.early in omega (arith, next) in
    let found = run-found (g.C.Costs.grid c.args.costs.now) c.args.shape (g.C.Costs.ways c.args.costs.now) (g.C.Costs.price c.args.costs.now) c.args.flat.now c.args.node c.parent-parent.result
    c.args.base c.args.least.now.items c.deref.result.now c.loop-layer.layer c.limb_of.new.limb c.run_costs.new.thin c.bests_above.new.above c.loop-layer.below c.a_climb_more.result c.offer_on.result
    c.better_of-below.result c.better_of-best.result c.requires.grid (g.met.C.Costs.prices c.args.costs.now) c.requires.flat c.parent-parent.ensures.tree later c.requires.node
    c.parent-parent.ensures.parent c.deref.ensures.value c.limb_of.ensures.costs c.requires.climbs inside c.requires.layer c.loop-layer.invariant.below c.a_climb_more.ensures c.offer_on.ensures
    c.better_of-below.ensures (c.bests_above.ensures c.loop-layer.layer inside) c.better_of-best.ensures c.run_costs.ensures.thins in
    let within : IsWithin c.args.shape.layers (widened None c.loop-layer.layer) = record { ordered = omega arith; high = omega arith } in
    let P : Option Span → Type 0 =
    λ r. Writes c.args.shape.layers c.parent-parent.result c.args.node r c.better_of-best.result c.loop-layer.least.items c.write_best.new.least.items
    c.loop-layer.choices.items c.write_best.new.choices.items in
    let writes = subst P c.widened.ensures c.write_best.ensures in
    record {
      below =
          c.better_of-below.ensures ∙
          ap (λ (o : Option Best). better o c.offer_on.result) (c.a_climb_more.ensures ∙ ap (λ (o : Option Best). a_climb_more o) c.loop-layer.invariant.below) ∙
          ap (λ (o : Option Best). better (a_climb_more (best_up_to (number_in c.run_costs.new.thin) c.loop-layer.layer)) o) c.offer_on.ensures ∙
          sym (up_to-more (number_in c.run_costs.new.thin) c.loop-layer.layer);
      so_far =
          choosing-turn c.args.shape (g.C.Costs.ways c.args.costs.now) (g.C.Costs.price c.args.costs.now) c.args.flat.now c.args.node c.parent-parent.result c.args.base None
          c.args.least.now.items c.args.choices.now.items c.loop-layer.least.items c.loop-layer.choices.items c.write_best.new.least.items c.write_best.new.choices.items
          (single_below c.loop-layer.layer) (single_below (c.loop-layer.layer + 1)) (widened None c.loop-layer.layer) c.better_of-best.result
          (sym (parent-at c.args.flat.now c.args.node c.parent-parent.result c.parent-parent.ensures.parent)) node (omega arith) within (adds-layer c.args.shape.layers c.loop-layer.layer) writes found c.loop-layer.invariant.so_far;
    }

pub returns : goal.returns
returns g c =
    choosing-done c.args.shape (g.C.Costs.ways c.args.costs.now) (g.C.Costs.price c.args.costs.now) c.args.flat.now c.args.node c.args.base None c.args.least.now.items
    c.args.choices.now.items c.loop-layer.least.items c.loop-layer.choices.items (single_below c.loop-layer.layer)
    (all-single c.args.shape.layers c.loop-layer.layer (parent_of c.args.flat.now c.args.node) c.args.node
    (let e = c.loop-layer-test.false in omega (arith, c.layers-layer-end.ensures.layers)) c.requires.next c.requires.early) c.loop-layer.invariant.so_far

pub write_best-requires-clause-parent : goal.write_best-requires-clause-parent
write_best-requires-clause-parent g c =
    let many = few c.args.flat.now c.parent-parent.ensures.tree in
    let b = c.requires.node in
    let n = c.requires.next in
    let up = parent-at c.args.flat.now c.args.node c.parent-parent.result c.parent-parent.ensures.parent in
    omega (arith, many, b, n, up)

pub write_best-requires-clause-node : goal.write_best-requires-clause-node
write_best-requires-clause-node g c = let many = few c.args.flat.now c.parent-parent.ensures.tree in let b = c.requires.node in omega arith
