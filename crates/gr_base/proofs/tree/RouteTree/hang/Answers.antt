use Rattle.std.proofs.Common.{◌≡◌, ◌-◌, length, slice_get, subst, sym}
use Rattle.std.specs.Arc.{arc_value}
use Rattle.gr_base.specs.Trees.{TreeView, cell_at, IsWalkTo}
use Rattle.gr_base.proofs.TreeGrowth.{IsHung, hung-walk, few-added, some-walk}
use Rattle.gr_base.proofs.tree.RouteTree.hang.Goals as goal

pub grow-requires-clause-few : goal.grow-requires-clause-few
grow-requires-clause-few c =
    let t : TreeView = record { shape = c.self.inside.shape; nodes = (arc_value c.self.inside.nodes).items } in
    let leads : IsWalkTo t c.args.walk.now = subst (λ (v : TreeView). IsWalkTo v c.args.walk.now) (sym c.self.view_is) c.requires.walk in
    few-added t c.args.walk.now c.self.invariant leads

pub grow-requires-clause-walk : goal.grow-requires-clause-walk
grow-requires-clause-walk c = some-walk c.args.self.now c.args.walk.now c.requires.walk

hung : (c : goal.After-grow) → IsHung c.args.self.now c.args.walk.now c.grow.result
    (record { shape = c.self.inside.shape; nodes = (arc_value c.grow.new.nodes).items })
hung c =
    let walk = c.args.walk.now in
    let old : TreeView = record { shape = c.self.inside.shape; nodes = (arc_value c.self.inside.nodes).items } in
    let now : TreeView = record { shape = c.self.inside.shape; nodes = (arc_value c.grow.new.nodes).items } in
    let P : TreeView → Type 0 = λ t. IsWalkTo t walk → cell_at t.nodes c.args.parent ≡ slice_get walk (length walk - 1) →
    IsHung t walk c.grow.result now in
    subst P c.self.view_is
    (λ leads parent. hung-walk old walk c.args.parent c.grow.result now.nodes c.self.invariant leads parent c.grow.ensures.ok c.grow.ensures.err)
    c.requires.walk c.requires.parent

pub invariant_of-self : goal.invariant_of-self
invariant_of-self c = (hung c).tree

pub returns-clause-ok : goal.returns-clause-ok
returns-clause-ok c = (hung c).ok

pub returns-clause-begins : goal.returns-clause-begins
returns-clause-begins c = (hung c).begins

pub returns-clause-cells : goal.returns-clause-cells
returns-clause-cells c = (hung c).cells

pub returns-clause-edges : goal.returns-clause-edges
returns-clause-edges c = (hung c).edges

pub returns-clause-tree : goal.returns-clause-tree
returns-clause-tree c = (hung c).tree
