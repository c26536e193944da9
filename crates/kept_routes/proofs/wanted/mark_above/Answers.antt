use Rattle.std.proofs.Common.{◌≡◌, ℕ, ◌+◌, ◌-◌, ◌<◌, Bool, false, List, length, sym, subst, ◌∙◌, arith}
use Rattle.std.proofs.lemmas.List.{get_or_default}
use Rattle.kept_routes.specs.Cuts.{MarksAbove}
use Rattle.kept_routes.proofs.MarkLemmas.{above-none, above-next, above-all}
use Rattle.kept_routes.proofs.wanted.mark_above.Goals as goal

pub loop-node-init : goal.loop-node-init
loop-node-init c =
    above-none c.args.tree.now c.args.wanted.now.items c.len-node.result (omega (arith, c.requires, c.len-node.ensures.len))

pub loop-node-preserved-then-index : goal.loop-node-preserved-then-index
loop-node-preserved-then-index c =
    let at : ℕ = c.loop-node.node - 1 in
    let step : c.loop-node.node ≡ at + 1 = omega (arith, c.loop-node-test.true) in
    let marks : List Bool = c.loop-node.wanted.items in
    let above = subst (λ (n : ℕ). MarksAbove c.args.tree.now n c.args.wanted.now.items marks) step c.loop-node.invariant in
    let inside : at < length marks = omega (arith, c.loop-node.invariant.long, c.requires, c.loop-node.auto.node, c.len-node.ensures.len, c.loop-node-test.true) in
    above-next c.args.tree.now at c.args.wanted.now.items marks above c.parent.result
    (get_or_default marks at false _ inside ∙ sym c.index.ensures ∙ c.if-index.true) c.parent.ensures.parent
    (c.parent.ensures.earlier (omega (arith, c.loop-node-test.true)))

pub returns : goal.returns
returns c = above-all c.args.tree.now c.loop-node.node c.args.wanted.now.items c.loop-node.wanted.items (omega (arith, c.loop-node-test.false)) c.loop-node.invariant
