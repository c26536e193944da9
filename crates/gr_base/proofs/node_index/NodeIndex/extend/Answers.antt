use Rattle.std.proofs.Common.{ℕ, ◌<◌, List, length, take, ap, subst, sym, ◌∙◌, arith}
use Rattle.std.proofs.lemmas.List.{take_all, length-set}
use Rattle.gr_base.specs.NodeIndexes.{Indexes}
use Rattle.gr_base.specs.declared.tree.Node.{Node}
use Rattle.gr_base.proofs.NodeIndexLemmas.{index-node}
use Rattle.gr_base.proofs.node_index.NodeIndex.extend.Goals as goal

pub loop-node-init : goal.loop-node-init
loop-node-init c =
    let P : List ℕ → Type 0 = λ numbers. Indexes numbers (take c.args.from c.args.tree.now.nodes) in
    record { index = subst P (sym c.self.view_is) c.requires.before; cells = ap (λ (ns : List ℕ). length ns) c.self.view_is }

pub loop-node-preserved : goal.loop-node-preserved
loop-node-preserved c =
    let numbers = c.loop-node.self-inside.nodes.items in
    let inside : c.cell.result < length numbers = omega (arith, c.cell.ensures.inside, c.requires.cells, c.loop-node.invariant.cells) in
    record {
      index = index-node c.args.tree.now.shape c.args.tree.now.nodes numbers c.loop-node.node c.cell.result c.cell.ensures.tree.hanging c.cell.ensures.cell inside c.loop-node.invariant.index;
      cells = length-set numbers c.cell.result c.loop-node.node ∙ c.loop-node.invariant.cells;
    }

pub returns-clause-index : goal.returns-clause-index
returns-clause-index c =
    let P : List Node → Type 0 = λ nodes. Indexes c.loop-node.self-inside.nodes.items nodes in
    let whole = take_all c.loop-node.node c.args.tree.now.nodes (omega (arith, c.loop-node-test.false, c.len-node-end.ensures.len)) in
    subst P whole c.loop-node.invariant.index
