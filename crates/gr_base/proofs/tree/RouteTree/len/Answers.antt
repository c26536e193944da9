use Rattle.std.proofs.Common.{◌≤◌, Vec, Global, vec_len, ap, subst, ◌∙◌, arith}
use Rattle.std.specs.Arc.{arc_value}
use Rattle.gr_base.specs.Grid.{cells_of}
use Rattle.gr_base.specs.declared.tree.Node.{Node}
use Rattle.gr_base.specs.Trees.{TreeView}
use Rattle.gr_base.proofs.GridLemmas.{few_cells}
use Rattle.gr_base.proofs.TreeLemmas.{few-nodes}
use Rattle.gr_base.proofs.tree.RouteTree.len.Goals as goal

pub overflow_cast-result : goal.overflow_cast-result
overflow_cast-result c =
    let count = c.len.ensures ∙ ap (λ (v : Vec Node Global). vec_len v) c.deref.ensures in
    let few = few-nodes c.self.inside.shape (arc_value c.self.inside.nodes).items c.self.invariant.hanging in
    let most = few_cells c.self.inside.shape in
    omega (arith, (arc_value c.self.inside.nodes).ok.0, count)

pub returns-clause-most : goal.returns-clause-most
returns-clause-most c =
    let count = c.len.ensures ∙ ap (λ (v : Vec Node Global). vec_len v) c.deref.ensures in
    let few = few-nodes c.self.inside.shape (arc_value c.self.inside.nodes).items c.self.invariant.hanging in
    let P : TreeView → Type 0 = λ t. c.len.result ≤ cells_of t.shape in
    subst P c.self.view_is (omega (arith, (arc_value c.self.inside.nodes).ok.0, count))
