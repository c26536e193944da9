use Rattle.std.proofs.Common.{◌≡◌, ◌<◌, ◌↔◌, Option, IsSome, IfSome, IsTrue, sym, ap, subst, arith}
use Rattle.gr_base.specs.Grid.{has_edge}
use Rattle.gr_base.specs.ParentEdges.{parent_edge}
use Rattle.gr_base.specs.Trees.{TreeView}
use Rattle.gr_base.specs.declared.grid.Edge.{Edge}
use Rattle.gr_base.proofs.ParentEdgeLemmas.{IsHeld, made-edge, parent-inside, parent-some}
use Rattle.gr_base.proofs.tree.RouteTree.edge_to_parent.Goals as goal

held : (c : goal.After-edge_apart) → IsHeld c.args.self.now c.args.node c.parent.result c.cell-cell.result c.cell-parent.result
held c = record { tree = c.parent.ensures.tree; cell = c.cell-cell.ensures.cell; parent_is = c.parent.ensures.parent; other = c.cell-parent.ensures.cell }

edge : (c : goal.After-edge_apart) → c.edge_apart.result ≡ parent_edge c.args.self.now c.args.node
edge c =
    made-edge c.args.self.now c.self.inside.shape c.args.node c.parent.result c.cell-cell.result c.cell-parent.result c.min.result c.abs_diff.result c.edge_apart.result
    (held c) (ap (λ (t : TreeView). t.shape) c.self.view_is) c.min.ensures (omega (arith, c.abs_diff.ensures)) c.edge_apart.ensures

pub returns-clause-edge : goal.returns-clause-edge
returns-clause-edge c = edge c

pub returns-clause-some : goal.returns-clause-some
returns-clause-some c =
    let P : Option Edge → Type 0 = λ o. IsSome o ↔ (0 < c.args.node) in
    subst P (sym (edge c)) (parent-some c.args.self.now c.args.node c.parent.result c.cell-cell.result c.cell-parent.result (held c))

pub returns-clause-inside : goal.returns-clause-inside
returns-clause-inside c =
    let P : Option Edge → Type 0 = λ o. IfSome o (λ e. IsTrue (has_edge c.args.self.now.shape e)) in
    subst P (sym (edge c)) (parent-inside c.args.self.now c.args.node c.parent.result c.cell-cell.result c.cell-parent.result (held c))
