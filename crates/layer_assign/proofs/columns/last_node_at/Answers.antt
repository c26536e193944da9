use Rattle.std.proofs.Common.{◌≡◌, ◌≢◌, ℕ, ◌+◌, ◌-◌, inl, inr, Some, Option, unwrap_or, sym, ap, ◌∙◌, arith}
use Rattle.std.proofs.lemmas.Bool.{cases_eq}
use Rattle.gr_base.specs.Trees.{TreeView, cell_at}
use Rattle.layer_assign.specs.Raising.{IsEarly}
use Rattle.layer_assign.proofs.columns.last_node_at.Goals as goal

-- where a node has another cell, the cell is that of one before it
earlier : (t : TreeView) (cell node here : ℕ) → IsEarly t (node + 1) cell → cell_at t.nodes node ≡ Some here → here ≢ cell → IsEarly t node cell
earlier t cell node here early at apart =
    let last = early.before in
    elim (cases_eq early.node node) [
      | inl same ↦
          absurd (apart (ap (λ (o : Option ℕ). unwrap_or o 0) (sym at ∙ ap (λ (n : ℕ). cell_at t.nodes n) (sym same) ∙ early.cell_is)))
      | inr other ↦ record { node = early.node; before = omega arith; cell_is = early.cell_is }
    ]

pub overflow_sub-node : goal.overflow_sub-node
overflow_sub-node c = let h = c.requires.early.before in omega arith

pub loop-node-init : goal.loop-node-init
loop-node-init c =
    let h = c.requires.early.before in
    let end = c.requires.end in
    let e : c.args.end - 1 + 1 ≡ c.args.end = omega arith in
    record { inside = omega arith; early = rw e c.requires.early }

pub overflow_sub-node-in-loop-node : goal.overflow_sub-node-in-loop-node
overflow_sub-node-in-loop-node c =
    let less = (earlier c.args.tree.now c.args.cell c.loop-node.node c.cell.result c.loop-node.invariant.early c.cell.ensures.cell c.loop-node-test.true).before in
    omega arith

pub loop-node-smaller : goal.loop-node-smaller
loop-node-smaller c =
    let less = (earlier c.args.tree.now c.args.cell c.loop-node.node c.cell.result c.loop-node.invariant.early c.cell.ensures.cell c.loop-node-test.true).before in
    omega arith

pub loop-node-preserved : goal.loop-node-preserved
loop-node-preserved c =
    let before = earlier c.args.tree.now c.args.cell c.loop-node.node c.cell.result c.loop-node.invariant.early c.cell.ensures.cell c.loop-node-test.true in
    let less = before.before in
    let inside = c.loop-node.invariant.inside in
    let e : c.loop-node.node - 1 + 1 ≡ c.loop-node.node = omega arith in
    record { inside = omega arith; early = rw e before }
