use Rattle.std.proofs.Common.{ap, ◌∙◌}
use Rattle.gr_base.specs.Trees.{attached}
use Rattle.net_plan.proofs.CutLemmas.{walk-up, held-walk, held-kept}
use Rattle.net_plan.proofs.JoinLemmas.{walk-indexed, on-ok}
use Rattle.net_plan.proofs.join.join_point.Goals as goal

pub up_to_tree-requires-clause-cells : goal.up_to_tree-requires-clause-cells
up_to_tree-requires-clause-cells g c =
    walk-indexed c.shape.result c.args.tree.now.shape _ c.deref.result.now c.walk_up.new.walk.items c.shape.ensures.shape c.deref.ensures.value
    c.requires.cells c.in_ok-walk_up.ensures.direct.inside

pub attach-requires-clause-walk : goal.attach-requires-clause-walk
attach-requires-clause-walk g c =
    let up = walk-up c.args.tree.now c.shape.result (g.C.Costs.price c.args.costs.now) c.args.topology.now c.args.point
    c.walk_up.new.walk.items c.deref.result.now c.up_to_tree.result.now
    c.shape.ensures.shape c.in_ok-walk_up.ensures.walk c.in_ok-walk_up.ensures.direct c.deref.ensures.value c.up_to_tree.ensures c.requires.parent in
    up.walk

pub returns-clause-tree : goal.returns-clause-tree
returns-clause-tree g c =
    let up = walk-up c.args.tree.now c.shape.result (g.C.Costs.price c.args.costs.now) c.args.topology.now c.args.point
    c.walk_up.new.walk.items c.deref.result.now c.up_to_tree.result.now
    c.shape.ensures.shape c.in_ok-walk_up.ensures.walk c.in_ok-walk_up.ensures.direct c.deref.ensures.value c.up_to_tree.ensures c.requires.parent in
    on-ok c.attach.result (λ made. made ∙ ap (attached c.args.tree.now) up.exact) c.attach.ensures.tree

pub returns-clause-point : goal.returns-clause-point
returns-clause-point g c =
    let up = walk-up c.args.tree.now c.shape.result (g.C.Costs.price c.args.costs.now) c.args.topology.now c.args.point
    c.walk_up.new.walk.items c.deref.result.now c.up_to_tree.result.now
    c.shape.ensures.shape c.in_ok-walk_up.ensures.walk c.in_ok-walk_up.ensures.direct c.deref.ensures.value c.up_to_tree.ensures c.requires.parent in
    on-ok c.attach.result (λ adds. held-walk c.args.tree.now c.attach.new.tree c.up_to_tree.result.now _ adds up.first) c.attach.ensures.adds

pub returns-clause-kept : goal.returns-clause-kept
returns-clause-kept g c =
    on-ok c.attach.result (λ adds cell held. held-kept c.args.tree.now c.attach.new.tree c.up_to_tree.result.now cell adds held) c.attach.ensures.adds
