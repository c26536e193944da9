use Rattle.std.proofs.Common.{◌<◌, length, refl, sym, subst, Vec, Global, get_or, ap, ◌∙◌}
use Rattle.std.proofs.lemmas.Option.{slice_get_read}
use Rattle.std.specs.Arc.{arc_value}
use Rattle.gr_base.specs.declared.tree.Node.{Node}
use Rattle.gr_base.specs.Trees.{TreeView}
use Rattle.gr_base.proofs.TreeLemmas.{parent-earlier}
use Rattle.gr_base.proofs.tree.RouteTree.parent.Goals as goal

pub returns-clause-earlier : goal.returns-clause-earlier
returns-clause-earlier c = λ later.
    let P : TreeView → Type 0 = λ t. c.args.node < length t.nodes in
    let within = subst P (sym c.self.view_is) c.requires in
    let nodes = (arc_value c.self.inside.nodes).items in
    let read = c.index.ensures ∙ ap (λ (v : Vec Node Global). get_or v.items c.args.node c.index.result.now) c.deref.ensures in
    let is = slice_get_read nodes (length nodes) c.args.node c.index.result.now refl within read in
    parent-earlier c.self.inside.shape nodes c.args.node c.index.result.now c.self.invariant.hanging is later
