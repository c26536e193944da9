use Rattle.std.proofs.Common.{◌≡◌, ◌+◌, ℕ, List, length, sym, ap, subst, arith}
use Rattle.gr_base.specs.Trees.{TreeView}
use Rattle.route_evaluator.specs.EdgeNumbers.{edges_numbered}
use Rattle.route_evaluator.proofs.PlantLemmas.{IsPlanted, flood-same, planted-first, walk-to, parent-node, planted-next, planted-all}
use Rattle.route_evaluator.proofs.net_tree.tree_from.Goals as goal

pub loop-place-init : goal.loop-place-init
loop-place-init c =
    planted-first c.args.shape (edges_numbered c.args.edges.now.numbers) c.args.first c.numbers-cells.result.now c.flood.new.reached.parents.items c.in_ok-tree.tree
    (flood-same c.args.shape (edges_numbered c.args.edges.now.numbers) c.args.first c.flood.new.reached.cells.numbers c.numbers-cells.result.now
    c.flood.new.reached.parents.items c.numbers-cells.ensures.numbers c.in_ok-flood.ensures.flood) c.in_ok-tree.ensures.tree

pub hang-requires-clause-walk : goal.hang-requires-clause-walk
hang-requires-clause-walk c =
    walk-to c.args.shape (edges_numbered c.args.edges.now.numbers) c.args.first c.numbers-cells.result.now c.flood.new.reached.parents.items
    (flood-same c.args.shape (edges_numbered c.args.edges.now.numbers) c.args.first c.flood.new.reached.cells.numbers c.numbers-cells.result.now
    c.flood.new.reached.parents.items c.numbers-cells.ensures.numbers c.in_ok-flood.ensures.flood)
    c.numbers-cells.ensures.once c.loop-place.place c.index-parent.result.now c.loop-place.auto.place c.loop-place-test.true c.index-parent.ensures c.loop-place.tree c.loop-place.invariant

pub hang-requires-clause-parent : goal.hang-requires-clause-parent
hang-requires-clause-parent c =
    parent-node c.args.shape (edges_numbered c.args.edges.now.numbers) c.args.first c.numbers-cells.result.now c.flood.new.reached.parents.items
    (flood-same c.args.shape (edges_numbered c.args.edges.now.numbers) c.args.first c.flood.new.reached.cells.numbers c.numbers-cells.result.now
    c.flood.new.reached.parents.items c.numbers-cells.ensures.numbers c.in_ok-flood.ensures.flood)
    c.numbers-cells.ensures.once c.loop-place.place c.index-parent.result.now c.loop-place.auto.place c.loop-place-test.true c.index-parent.ensures c.loop-place.tree c.loop-place.invariant

pub loop-place-preserved : goal.loop-place-preserved
loop-place-preserved c =
    subst (λ (t : TreeView). IsPlanted c.args.shape (edges_numbered c.args.edges.now.numbers) c.numbers-cells.result.now (c.loop-place.place + 1) t)
    (sym c.in_ok-hang.ensures.ok)
    (planted-next c.args.shape (edges_numbered c.args.edges.now.numbers) c.args.first c.numbers-cells.result.now c.flood.new.reached.parents.items
    (flood-same c.args.shape (edges_numbered c.args.edges.now.numbers) c.args.first c.flood.new.reached.cells.numbers c.numbers-cells.result.now
    c.flood.new.reached.parents.items c.numbers-cells.ensures.numbers c.in_ok-flood.ensures.flood)
    c.numbers-cells.ensures.once c.loop-place.place c.index-parent.result.now c.loop-place.auto.place c.loop-place-test.true c.index-parent.ensures c.loop-place.tree c.loop-place.invariant)

pub returns-clause-tree : goal.returns-clause-tree
returns-clause-tree c =
    let size : length c.numbers-cells.result.now ≡ length c.flood.new.reached.cells.numbers = ap (λ (xs : List ℕ). length xs) c.numbers-cells.ensures.numbers in
    let some = c.in_ok-flood.ensures.flood.some in
    let last : c.loop-place.place ≡ length c.flood.new.reached.cells.numbers = omega (arith, size, some, c.loop-place-test.false, c.loop-place.auto.place-end) in
    planted-all c.args.shape (edges_numbered c.args.edges.now.numbers) c.args.first c.flood.new.reached.cells.numbers c.flood.new.reached.parents.items c.loop-place.tree
    c.in_ok-flood.ensures.flood
    (subst (λ (n : ℕ). IsPlanted c.args.shape (edges_numbered c.args.edges.now.numbers) c.flood.new.reached.cells.numbers n c.loop-place.tree) last
    (subst (λ (cells : List ℕ). IsPlanted c.args.shape (edges_numbered c.args.edges.now.numbers) cells c.loop-place.place c.loop-place.tree)
    c.numbers-cells.ensures.numbers c.loop-place.invariant))
