use Rattle.std.proofs.Common.{◌≡◌, ◌<◌, ℕ, List, length, None, Some, refl, subst, slice_get, get_or, ap, arith}
use Rattle.std.proofs.lemmas.Option.{slice_get_read}
use Rattle.gr_base.specs.Trees.{node_with}
use Rattle.gr_base.proofs.NodeIndexLemmas.{index-past, index-other}
use Rattle.gr_base.proofs.TreeLemmas.{some-alike}
use Rattle.gr_base.proofs.node_index.NodeIndex.node_at.Goals as goal

-- what the index says of the cell
said : (numbers seen : List ℕ) (cell node : ℕ) → numbers ≡ seen → cell < length seen → node ≡ get_or numbers cell node → slice_get seen cell ≡ Some node
said numbers seen cell node same within read =
    let P : List ℕ → Type 0 = λ ns. slice_get ns cell ≡ Some node in
    let inside : cell < length numbers = omega (arith, within, ap (λ (ns : List ℕ). length ns) same) in
    subst P same (slice_get_read numbers (length numbers) cell node refl inside read)

past : (c : goal.Then-node-len) → None ≡ node_with c.args.tree.now.nodes c.args.cell
past c =
    index-past c.args.tree.now.nodes c.args.self.now c.args.cell c.index-node.result.now c.requires.index
    (said c.self.inside.nodes.items c.args.self.now c.args.cell c.index-node.result.now c.self.view_is c.requires.cell c.index-node.ensures)
    (omega (arith, c.if-node-len.true, c.len.ensures.len))

other : (c : goal.Then-cell) → None ≡ node_with c.args.tree.now.nodes c.args.cell
other c =
    index-other c.args.tree.now.nodes c.args.self.now c.args.cell c.index-node.result.now c.cell.result c.requires.index
    (said c.self.inside.nodes.items c.args.self.now c.args.cell c.index-node.result.now c.self.view_is c.requires.cell c.index-node.ensures)
    c.cell.ensures.cell (λ same. absurd (omega (arith, c.if-cell.true, same)))

pub returns-then-node-len-clause-node : goal.returns-then-node-len-clause-node
returns-then-node-len-clause-node c = past c

pub returns-then-node-len-clause-some : goal.returns-then-node-len-clause-some
returns-then-node-len-clause-some c = some-alike None (node_with c.args.tree.now.nodes c.args.cell) (past c)

pub returns-then-cell-clause-node : goal.returns-then-cell-clause-node
returns-then-cell-clause-node c = other c

pub returns-then-cell-clause-some : goal.returns-then-cell-clause-some
returns-then-cell-clause-some c = some-alike None (node_with c.args.tree.now.nodes c.args.cell) (other c)
