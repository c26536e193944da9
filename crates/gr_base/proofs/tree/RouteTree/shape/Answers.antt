use Rattle.std.proofs.Common.{subst}
use Rattle.gr_base.specs.Trees.{TreeView, IsTree}
use Rattle.gr_base.proofs.TreeDistinct.{tree-distinct_edges}
use Rattle.gr_base.proofs.TreeEdges.{tree-grid_edges, tree-connected}
use Rattle.gr_base.proofs.tree.RouteTree.shape.Goals as goal

pub returns-clause-edges : goal.returns-clause-edges
returns-clause-edges c =
    let P : TreeView → Type 0 = λ t. IsTree t in tree-grid_edges c.args.self.now (subst P c.self.view_is c.self.invariant)

pub returns-clause-joined : goal.returns-clause-joined
returns-clause-joined c =
    let P : TreeView → Type 0 = λ t. IsTree t in tree-connected c.args.self.now (subst P c.self.view_is c.self.invariant)

pub returns-clause-distinct : goal.returns-clause-distinct
returns-clause-distinct c =
    let P : TreeView → Type 0 = λ t. IsTree t in tree-distinct_edges c.args.self.now (subst P c.self.view_is c.self.invariant)
