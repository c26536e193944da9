use Rattle.std.proofs.Common.{ℕ, ◌+◌, Option, IsSome, refl, sym, ap, subst, ◌∙◌, arith}
use Rattle.gr_base.specs.Grid.{on_layer}
use Rattle.layer_assign.specs.declared.span.Best.{Best}
use Rattle.layer_assign.specs.Tables.{better}
use Rattle.layer_assign.proofs.ChoiceLemmas.{read-number, offer-beaten, offer-priced}
use Rattle.layer_assign.proofs.Choosing.{prices-at}
use Rattle.layer_assign.proofs.limbs.best_with.Goals as goal

pub overflow_add-rest : goal.overflow_add-rest
overflow_add-rest g c =
    let read = c.entry_with.ensures in
    let known = read-number c.args.limb.now.below c.args.layer c.in-Some.below c.in-Some.is in
    let limb = (c.requires.limb.small c.args.layer c.in-Some.below c.requires.layer known).0 in
    omega (arith, limb, read, c.requires.small)

pub overflow_add-rest-2 : goal.overflow_add-rest-2
overflow_add-rest-2 g c =
    let read = c.entry_with.ensures in
    let known = read-number c.args.limb.now.below c.args.layer c.in-Some.below c.in-Some.is in
    let limb = (c.requires.limb.small c.args.layer c.in-Some.below c.requires.layer known).0 in
    omega (arith, limb, read, c.requires.small)

pub returns-then-is_at_most-clause-best : goal.returns-then-is_at_most-clause-best
returns-then-is_at_most-clause-best g c =
    let price = g.C.Costs.price c.args.costs.now in
    let read = c.entry_with.ensures in
    let known = read-number c.args.limb.now.below c.args.layer c.in-Some.below c.in-Some.is in
    let prices = prices-at (g.C.Costs.grid c.args.costs.now) c.args.shape (g.C.Costs.ways c.args.costs.now) price c.requires.grid (g.met.C.Costs.prices c.args.costs.now) in
    let least = prices.least (on_layer c.args.shape c.args.layer c.args.limb.now.edge) (c.requires.limb.inside c.args.layer c.requires.layer) in
    offer-beaten c.args.shape price c.args.limb.now c.args.least.now c.args.parent c.args.span c.args.layer c.in-Some.below
    (c.in-Some.below + c.entry_with.result + 1) c.args.best known least (omega (arith, read)) (sym c.is_at_most.ensures ∙ c.if-is_at_most.true)

pub wire_on-requires-clause-goes : goal.wire_on-requires-clause-goes
wire_on-requires-clause-goes g c =
    let known = read-number c.args.limb.now.below c.args.layer c.in-Some.below c.in-Some.is in
    subst (λ (o : Option ℕ). IsSome o) (sym known) refl

pub overflow_add-cost : goal.overflow_add-cost
overflow_add-cost g c =
    let price = g.C.Costs.price c.args.costs.now in
    let read = c.entry_with.ensures in
    let known = read-number c.args.limb.now.below c.args.layer c.in-Some.below c.in-Some.is in
    let limb = (c.requires.limb.small c.args.layer c.in-Some.below c.requires.layer known).0 in
    omega (arith, limb, read, c.requires.small, c.wire_on.ensures.most)

pub returns-clause-best : goal.returns-clause-best
returns-clause-best g c =
    let price = g.C.Costs.price c.args.costs.now in
    let read = c.entry_with.ensures in
    let known = read-number c.args.limb.now.below c.args.layer c.in-Some.below c.in-Some.is in
    let cost = c.wire_on.result + (c.in-Some.below + c.entry_with.result) in
    c.better_of.ensures ∙ ap (λ (o : Option Best). better c.args.best o)
    (offer-priced c.args.shape price c.args.limb.now c.args.least.now c.args.parent c.args.span c.args.layer c.in-Some.below c.wire_on.result cost
    known c.wire_on.ensures.wire (omega (arith, read)))
