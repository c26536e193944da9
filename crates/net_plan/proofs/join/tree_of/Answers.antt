use Rattle.std.proofs.Common.{refl, ◌∙◌, arith}
use Rattle.net_plan.proofs.GrowLemmas.{tree-first, grown-first, parent-held, grown-more, grown-tree, grown-points}
use Rattle.net_plan.proofs.JoinLemmas.{none-indexed}
use Rattle.net_plan.proofs.join.tree_of.Goals as goal

pub extend-requires-clause-before : goal.extend-requires-clause-before
extend-requires-clause-before g c = none-indexed c.args.room.now.index c.in_ok-tree.tree.nodes

pub loop-point-init : goal.loop-point-init
loop-point-init g c = record {
  grown = grown-first c.args.shape (g.C.Costs.price c.args.costs.now) c.args.topology.now c.deref-point-items.result.now c.in_ok-tree.tree
      (tree-first c.args.shape c.args.topology.now c.tile.result c.cell_of_tile-first.result c.in_ok-tree.tree c.in_ok-tree.ensures.tree c.cell_of_tile-first.ensures.cell c.tile.ensures);
  index = c.extend.ensures.index;
  room = c.extend.ensures.cells;
}

pub join_point-requires-clause-point : goal.join_point-requires-clause-point
join_point-requires-clause-point g c =
    let test = c.loop-point-test.true in
    (parent-held c.args.shape (g.C.Costs.price c.args.costs.now) c.args.topology.now c.deref-point-items.result.now c.loop-point.point-index 0 _ c.loop-point.tree
    (c.deref-point-items.ensures.value ∙ c.in_ok-order_of.ensures.order) (omega arith) refl c.loop-point.invariant.grown).0

pub join_point-requires-clause-parent : goal.join_point-requires-clause-parent
join_point-requires-clause-parent g c =
    let test = c.loop-point-test.true in
    (parent-held c.args.shape (g.C.Costs.price c.args.costs.now) c.args.topology.now c.deref-point-items.result.now c.loop-point.point-index 0 _ c.loop-point.tree
    (c.deref-point-items.ensures.value ∙ c.in_ok-order_of.ensures.order) (omega arith) refl c.loop-point.invariant.grown).1

pub loop-point-preserved : goal.loop-point-preserved
loop-point-preserved g c =
    let test = c.loop-point-test.true in
    record {
      grown = grown-more c.args.shape (g.C.Costs.price c.args.costs.now) c.args.topology.now c.deref-point-items.result.now c.loop-point.point-index 0 _ c.loop-point.tree
          c.join_point.new.tree (omega arith) refl c.loop-point.invariant.grown c.in_ok-join_point.ensures.tree c.in_ok-join_point.ensures.point c.in_ok-join_point.ensures.kept;
      index = c.in_ok-join_point.ensures.index;
      room = c.join_point.ensures.cells ∙ c.loop-point.invariant.room;
    }

pub returns-clause-tree : goal.returns-clause-tree
returns-clause-tree g c =
    let test = c.loop-point-test.false in
    grown-tree c.args.shape (g.C.Costs.price c.args.costs.now) c.args.topology.now c.deref-point-items.result.now c.loop-point.point-index c.loop-point.tree
    (c.deref-point-items.ensures.value ∙ c.in_ok-order_of.ensures.order) (omega arith) c.loop-point.invariant.grown

pub returns-clause-points : goal.returns-clause-points
returns-clause-points g c =
    let test = c.loop-point-test.false in
    grown-points c.args.shape (g.C.Costs.price c.args.costs.now) c.args.topology.now c.deref-point-items.result.now c.loop-point.point-index c.loop-point.tree
    c.in_ok-order_of.ensures.tree (c.deref-point-items.ensures.value ∙ c.in_ok-order_of.ensures.order) (omega arith) c.loop-point.invariant.grown
