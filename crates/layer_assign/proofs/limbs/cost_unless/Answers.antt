use Rattle.std.proofs.Common.{◌≡◌, ℕ, ◌+◌, Option, Some, inl, inr, refl, sym, ap, ◌∙◌, arith}
use Rattle.std.specs.Option.{option_map}
use Rattle.gr_base.specs.Grid.{on_layer}
use Rattle.layer_assign.proofs.ChoiceLemmas.{read-number, priced-at, left-out}
use Rattle.layer_assign.proofs.Choosing.{prices-at}
use Rattle.layer_assign.proofs.limbs.cost_unless.Goals as goal

pub overflow_add-below : goal.overflow_add-below
overflow_add-below g c =
    let at = read-number c.args.limb.now.below c.args.layer c.in_ok-below.below c.in_ok-below.was in
    let small = (c.requires.limb.small c.args.layer c.in_ok-below.below c.requires.layer at).0 in
    omega (arith, small)

pub returns-then-is_at_most-clause-cost : goal.returns-then-is_at_most-clause-cost
returns-then-is_at_most-clause-cost g c =
    let price = g.C.Costs.price c.args.costs.now in
    let at = read-number c.args.limb.now.below c.args.layer c.in_ok-below.below c.in_ok-below.was in
    let prices = prices-at (g.C.Costs.grid c.args.costs.now) c.args.shape (g.C.Costs.ways c.args.costs.now) price c.requires.grid (g.met.C.Costs.prices c.args.costs.now) in
    let least = prices.least (on_layer c.args.shape c.args.layer c.args.limb.now.edge) (c.requires.limb.inside c.args.layer c.requires.layer) in
    inr (refl, left-out c.args.shape price c.args.limb.now c.args.layer c.in_ok-below.below (c.in_ok-below.below + 1) c.args.seen at least refl (sym c.is_at_most.ensures ∙ c.if-is_at_most.true))

pub overflow_add-result : goal.overflow_add-result
overflow_add-result g c =
    let at = read-number c.args.limb.now.below c.args.layer c.in_ok-below.below c.in_ok-below.was in
    let small = (c.requires.limb.small c.args.layer c.in_ok-below.below c.requires.layer at).0 in
    omega (arith, small, c.in_ok-wire.ensures.most)

pub returns-clause-cost : goal.returns-clause-cost
returns-clause-cost g c =
    let price = g.C.Costs.price c.args.costs.now in
    let below = c.in_ok-below.below in
    let at = read-number c.args.limb.now.below c.args.layer below c.in_ok-below.was in
    let is : price (on_layer c.args.shape c.args.layer c.args.limb.now.edge) ≡ Some c.in_ok-wire.wire = sym (ap price c.edge_over.ensures) ∙ sym c.in_ok-wire.ensures.price in
    let over : Option ℕ → Option ℕ = λ o. option_map (λ wire. wire + below) o in
    inl (sym (priced-at c.args.shape price c.args.limb.now c.args.layer below at ∙ ap over is))

pub returns-clause-most : goal.returns-clause-most
returns-clause-most g c =
    let at = read-number c.args.limb.now.below c.args.layer c.in_ok-below.below c.in_ok-below.was in
    let small = (c.requires.limb.small c.args.layer c.in_ok-below.below c.requires.layer at).0 in
    omega (arith, small, c.in_ok-wire.ensures.most)
