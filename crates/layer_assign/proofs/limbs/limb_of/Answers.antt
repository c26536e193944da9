use Rattle.std.proofs.Common.{◌≡◌, ℕ, ◌<◌, Option, Some, None, length, IfSome, IsTrue, if◌then◌else◌, ap, sym, subst, ◌∙◌, arith}
use Rattle.std.proofs.lemmas.List.{length-set}
use Rattle.std.specs.Option.{option_and_then}
use Rattle.gr_base.specs.Grid.{has_edge}
use Rattle.gr_base.specs.declared.grid.Edge.{Edge}
use Rattle.layer_assign.specs.declared.span.Limb.{Limb}
use Rattle.layer_assign.specs.Choices.{entry}
use Rattle.layer_assign.specs.Spans.{widened}
use Rattle.layer_assign.specs.Tables.{number_in}
use Rattle.layer_assign.proofs.ChoiceLemmas.{priced-limb, limb-is}
use Rattle.layer_assign.proofs.Choosing.{prices-at}
use Rattle.layer_assign.proofs.FlatLemmas.{few}
use Rattle.layer_assign.proofs.TableLemmas.{get-set_more, row-within}
use Rattle.layer_assign.proofs.limbs.limb_of.Goals as goal

pub below_on-requires-clause-node : goal.below_on-requires-clause-node
below_on-requires-clause-node g c = let many = few c.args.flat.now c.edge_to_parent.ensures.tree in let b = c.requires.node in omega arith

pub below_on-requires-clause-row : goal.below_on-requires-clause-row
below_on-requires-clause-row g c = row-within c.args.shape.layers (length c.args.flat.now.nodes) c.args.node c.args.least.now c.requires.rows c.requires.node

pub loop-layer-preserved : goal.loop-layer-preserved
loop-layer-preserved g c =
    let f : ℕ → Option ℕ = λ layer. if g.C.Costs.ways c.args.costs.now layer c.unwrap-edge.result.way then Some (entry c.args.shape.layers c.args.least.now c.args.node (widened c.args.base layer)) else None in
    let count : length c.loop-layer.limb.below ≡ 16 = c.loop-layer.invariant.count in
    let lt = c.loop-layer-test.true in
    let below : c.loop-layer.layer < length c.loop-layer.limb.below = omega (arith, c.layers-layer-end.ensures.most) in
    record {
      count = length-set c.loop-layer.limb.below c.loop-layer.layer c.below_on.result ∙ count;
      below = get-set_more c.loop-layer.limb.below f c.loop-layer.layer c.below_on.result below c.below_on.ensures c.loop-layer.invariant.below;
    }

pub returns : goal.returns
returns g c =
    let shape = c.args.shape in
    let ways = g.C.Costs.ways c.args.costs.now in
    let price = g.C.Costs.price c.args.costs.now in
    let flat = c.args.flat.now in
    let limb : Limb = record { edge = c.unwrap-edge.result; below = c.loop-layer.limb.below } in
    let prices = prices-at (g.C.Costs.grid c.args.costs.now) shape ways price c.requires.grid (g.met.C.Costs.prices c.args.costs.now) in
    let up = sym c.edge_to_parent.ensures.edge ∙ c.unwrap-edge.ensures in
    let inside : IsTrue (has_edge flat.shape limb.edge) = subst (λ (o : Option Edge). IfSome o (λ e. IsTrue (has_edge flat.shape e))) c.unwrap-edge.ensures c.edge_to_parent.ensures.inside in
    let end = c.loop-layer-test.false in
    let all = c.layers-layer-end.ensures.layers in
    let at : (layer : ℕ) → layer < shape.layers → number_in limb.below layer ≡ (if ways layer limb.edge.way then Some (entry shape.layers c.args.least.now c.args.node (widened c.args.base layer)) else None) =
    λ layer lt. ap (λ (o : Option (Option ℕ)). option_and_then (λ (p : Option ℕ). p) o) (c.loop-layer.invariant.below layer (omega (arith, end, all, lt))) in
    record {
      limb = limb-is shape ways price flat c.args.least.now c.args.node c.args.base limb prices c.requires.flat inside c.requires.base c.requires.small at;
      costs = λ layer lt. priced-limb shape ways price flat c.args.least.now c.args.node c.args.base layer limb prices c.requires.flat up inside lt (at layer lt);
      tree = c.edge_to_parent.ensures.tree;
    }
