use Rattle.std.proofs.Common.{ℕ, List, Option, ap, subst, ◌∙◌}
use Rattle.layer_assign.specs.declared.span.Best.{Best}
use Rattle.layer_assign.specs.Tables.{priced, offer, best_below}
use Rattle.layer_assign.specs.Chosen.{Writes}
use Rattle.layer_assign.proofs.choices.choose_layer.Goals as goal

pub returns-clause-writes : goal.returns-clause-writes
returns-clause-writes g c =
    let layers = c.args.shape.layers in
    let costs = priced c.args.shape (g.C.Costs.price c.args.costs.now) c.args.limb.now in
    let best = c.best_layer-best.ensures.best ∙ ap (λ (xs : List ℕ). best_below (offer c.args.shape costs xs c.args.parent c.args.span) layers) c.deref.ensures.value in
    let P : Option Best → Type 0 =
    λ o. Writes layers c.args.parent c.args.node c.args.span o c.args.least.now.items c.write_best.new.least.items c.args.choices.now.items c.write_best.new.choices.items in
    subst P best c.write_best.ensures
