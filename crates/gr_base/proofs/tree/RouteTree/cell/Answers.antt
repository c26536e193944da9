use Rattle.std.proofs.Common.{◌≡◌, ◌<◌, length, Some, refl, sym, subst, Vec, Global, get_or, ap, ◌∙◌}
use Rattle.std.proofs.lemmas.Option.{slice_get_read}
use Rattle.std.specs.Arc.{arc_value}
use Rattle.gr_base.specs.Grid.{cells_of}
use Rattle.gr_base.specs.declared.tree.Node.{Node}
use Rattle.gr_base.specs.Trees.{TreeView, node_with}
use Rattle.gr_base.proofs.TreeLemmas.{cell-inside, cell-only, read-cell}
use Rattle.gr_base.proofs.tree.RouteTree.cell.Goals as goal

pub returns-clause-inside : goal.returns-clause-inside
returns-clause-inside c =
    let P : TreeView → Type 0 = λ t. c.args.node < length t.nodes in
    let within = subst P (sym c.self.view_is) c.requires in
    let nodes = (arc_value c.self.inside.nodes).items in
    let read = c.index.ensures ∙ ap (λ (v : Vec Node Global). get_or v.items c.args.node c.index.result.now) c.deref.ensures in
    let is = slice_get_read nodes (length nodes) c.args.node c.index.result.now refl within read in
    let Q : TreeView → Type 0 = λ t. c.index.result.now.cell < cells_of t.shape in
    subst Q c.self.view_is
    (cell-inside c.self.inside.shape nodes c.args.node c.index.result.now.cell c.self.invariant.hanging (read-cell nodes c.args.node c.index.result.now is))

pub returns-clause-only : goal.returns-clause-only
returns-clause-only c =
    let P : TreeView → Type 0 = λ t. c.args.node < length t.nodes in
    let within = subst P (sym c.self.view_is) c.requires in
    let nodes = (arc_value c.self.inside.nodes).items in
    let read = c.index.ensures ∙ ap (λ (v : Vec Node Global). get_or v.items c.args.node c.index.result.now) c.deref.ensures in
    let is = slice_get_read nodes (length nodes) c.args.node c.index.result.now refl within read in
    let Q : TreeView → Type 0 = λ t. node_with t.nodes c.index.result.now.cell ≡ Some c.args.node in
    subst Q c.self.view_is
    (cell-only c.self.inside.shape nodes c.args.node c.index.result.now.cell c.self.invariant.hanging (read-cell nodes c.args.node c.index.result.now is))
