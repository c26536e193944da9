use Rattle.std.proofs.Common.{ℕ, ◌≤◌, Option, IfSome, subst}
use Rattle.gr_base.specs.Grid.{on_layer}
use Rattle.layer_assign.proofs.ChoiceLemmas.{read-number}
use Rattle.layer_assign.proofs.Choosing.{prices-at}
use Rattle.layer_assign.proofs.limbs.wire_on.Goals as goal

pub returns-clause-wire : goal.returns-clause-wire
returns-clause-wire g c = c.requires.wires c.args.layer c.in-Some.wire (read-number c.args.wires.now c.args.layer c.in-Some.wire c.in-Some.is)

pub returns-clause-most : goal.returns-clause-most
returns-clause-most g c =
    let price = g.C.Costs.price c.args.costs.now in
    let is = c.requires.wires c.args.layer c.in-Some.wire (read-number c.args.wires.now c.args.layer c.in-Some.wire c.in-Some.is) in
    let prices = prices-at (g.C.Costs.grid c.args.costs.now) c.args.shape (g.C.Costs.ways c.args.costs.now) price c.requires.grid (g.met.C.Costs.prices c.args.costs.now) in
    let most = prices.most (on_layer c.args.shape c.args.layer c.args.limb.now.edge) (c.requires.limb.inside c.args.layer c.requires.layer) in
    subst (λ (o : Option ℕ). IfSome o (λ cost. cost ≤ 1048576)) is most
