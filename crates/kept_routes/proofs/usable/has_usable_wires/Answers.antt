use Rattle.std.proofs.Common.{IsTrue, sym, subst, refl, ◌∙◌, arith}
use Rattle.std.proofs.lemmas.Bool.{false≢true}
use Rattle.gr_base.specs.Grid.{has_edge}
use Rattle.gr_base.specs.declared.grid.Shape.{Shape}
use Rattle.kept_routes.proofs.UsableLemmas.{usable-all, usable-not, wire-inside}
use Rattle.kept_routes.proofs.usable.has_usable_wires.Goals as goal

pub loop-node-init : goal.loop-node-init
loop-node-init c = λ d is node e below. absurd (omega (arith, below))

pub usable-requires : goal.usable-requires
usable-requires c =
    subst (λ (g : Shape). IsTrue (has_edge g c.in-Some.edge)) c.requires
    (wire-inside c.args.tree.now c.loop-node.node c.in-Some.edge c.wire_to_parent.ensures.tree (sym c.wire_to_parent.ensures.edge ∙ c.in-Some.is))

pub returns-then-not-usable : goal.returns-then-not-usable
returns-then-not-usable c = λ d is. (
  λ never. absurd (false≢true never),
  λ all. absurd (usable-not d c.args.tree.now c.loop-node.node c.in-Some.edge (sym c.wire_to_parent.ensures.edge ∙ c.in-Some.is)
      (sym (c.usable.ensures.design d is) ∙ c.if-not-usable.true) all),
)

pub returns : goal.returns
returns c = λ d is.
    (λ _. usable-all d c.args.tree.now c.loop-node.node (omega (arith, c.loop-node-test.false, c.len-node-end.ensures.len)) (c.loop-node.invariant d is), λ _. refl)
