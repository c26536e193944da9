use Rattle.std.proofs.Common.{◌≡◌, ℕ, ◌+◌, ◌-◌, ◌<◌, inl, inr, Option, Some, length, set, slice_get, sym, ap, subst, ◌∙◌, arith}
use Rattle.std.proofs.lemmas.Bool.{cases_eq}
use Rattle.std.proofs.lemmas.List.{length-set}
use Rattle.layer_assign.specs.declared.span.Best.{Best}
use Rattle.layer_assign.specs.Tables.{number_in, better}
use Rattle.layer_assign.specs.Runs.{a_climb_more, best_from}
use Rattle.layer_assign.proofs.FlatLemmas.{few_layers}
use Rattle.layer_assign.proofs.RunLemmas.{from-more, from-small, costs-less}
use Rattle.layer_assign.proofs.TableLemmas.{get-set_same, get-set_other}
use Rattle.layer_assign.proofs.runs.bests_above.Goals as goal

pub loop-layer-init : goal.loop-layer-init
unfolding best_from
loop-layer-init c =
    let limbs = number_in c.args.limbs.now in
    let all = c.layers-layer.ensures.layers in
    let none : c.args.shape.layers - c.layers-layer.result ≡ 0 = omega (arith, all) in
    record {
      count = c.told-above;
      most = omega (arith, all);
      above = λ k from below. absurd (omega (arith, all));
      best = sym (ap (best_from limbs c.layers-layer.result) none);
    }

pub a_climb_more-seen-requires : goal.a_climb_more-seen-requires
a_climb_more-seen-requires c =
    let limbs = number_in c.args.limbs.now in
    let layers = c.args.shape.layers in
    let few = few_layers c.args.shape in
    let most = c.loop-layer.invariant.most in
    let layer = c.loop-layer.layer in
    costs-less c.loop-layer.best (best_from limbs layer (layers - layer)) (layers - layer) (omega arith) c.loop-layer.invariant.best
    (from-small limbs layers 1125899907891200 layer (layers - layer) (omega arith) c.requires)

pub loop-layer-preserved : goal.loop-layer-preserved
loop-layer-preserved c =
    let limbs = number_in c.args.limbs.now in
    let layers = c.args.shape.layers in
    let test = c.loop-layer-test.true in
    let so_far = c.loop-layer.invariant in
    let most = so_far.most in
    let few = few_layers c.args.shape in
    let k = c.loop-layer.layer - 1 in
    let seen = c.a_climb_more-seen.result in
    let next : k + 1 ≡ c.loop-layer.layer = omega arith in
    let room : k < length c.loop-layer.above = let e = so_far.count in omega arith in
    let here : seen ≡ a_climb_more (best_from limbs (k + 1) (layers - (k + 1))) =
    c.a_climb_more-seen.ensures ∙ ap (λ (o : Option Best). a_climb_more o) so_far.best ∙ ap (λ (n : ℕ). a_climb_more (best_from limbs n (layers - n))) (sym next) in
    record {
      count = length-set c.loop-layer.above k seen ∙ so_far.count;
      most = omega arith;
      above = λ j from below.
          elim (cases_eq j k) [
            | inl same ↦
                subst (λ (i : ℕ). slice_get (set c.loop-layer.above k seen) i ≡ Some (a_climb_more (best_from limbs (i + 1) (layers - (i + 1))))) (sym same)
                (get-set_same c.loop-layer.above k seen room ∙ ap (λ (o : Option Best). Some o) here)
            | inr other ↦ get-set_other c.loop-layer.above k j seen other ∙ so_far.above j (omega arith) below
          ];
      best =
          from-more limbs k c.loop-layer.layer layers c.loop-layer.best seen c.better_of-best.result next most so_far.best
          c.a_climb_more-seen.ensures (c.better_of-best.ensures ∙ ap (λ (o : Option Best). better o seen) c.offer_on.ensures);
    }
