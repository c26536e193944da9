use Rattle.std.proofs.Common.{◌≤◌, List, length, fold, All, sym, ap, subst, ◌∙◌, arith}
use Rattle.steiner_topology.specs.declared.point.Join.{Join}
use Rattle.steiner_topology.specs.Joins.{AreInside, joins_of}
use Rattle.steiner_topology.specs.Topology.{with_pair, loose_points}
use Rattle.steiner_topology.proofs.JoinLemmas.{joins_of-inside}
use Rattle.steiner_topology.proofs.LawLemmas.{prim-inside, standing, join-inside, handled-more, handled-all}
use Rattle.steiner_topology.proofs.build.build.Goals as goal

pub handle-requires-clause-inside : goal.handle-requires-clause-inside
handle-requires-clause-inside c =
    let tiles = c.args.tiles.now in
    let stands = standing tiles c.loop-join.points.items c.loop-join.join-index c.requires.some c.loop-join.invariant.handled in
    let many = stands.many in
    let below = join-inside tiles c.args.joins.now c.loop-join.join-index (record { point = 0; parent = 0 })
    c.requires.joins c.loop-join-test.true in
    let kept = c.loop-join.points.ok.0 in
    omega arith

pub handle-requires-clause-parents : goal.handle-requires-clause-parents
handle-requires-clause-parents c =
    let stands = standing c.args.tiles.now c.loop-join.points.items c.loop-join.join-index c.requires.some c.loop-join.invariant.handled in
    let kept = c.loop-join.points.ok.0 in
    λ k d below. let inside = stands.tree.parents k d below in omega arith

pub handle-requires-clause-few : goal.handle-requires-clause-few
handle-requires-clause-few c =
    let stands = standing c.args.tiles.now c.loop-join.points.items c.loop-join.join-index c.requires.some c.loop-join.invariant.handled in
    let few = stands.few in
    let kept = c.loop-join.points.ok.0 in
    let size = c.requires.few in
    omega arith

pub loop-join-preserved : goal.loop-join-preserved
loop-join-preserved c = record {
  handled =
      c.in_ok-handle.ensures.points ∙
      handled-more c.args.tiles.now c.loop-join.points.items c.args.joins.now c.loop-join.join-index (record { point = 0; parent = 0 })
      c.requires.joins c.loop-join-test.true c.loop-join.invariant.handled;
  children = c.in_ok-handle.ensures.children;
}

pub put_child_lists-requires-clause-parents : goal.put_child_lists-requires-clause-parents
put_child_lists-requires-clause-parents c =
    let tiles = c.args.tiles.now in
    let are = c.deref.ensures.value ∙ c.in_ok-put_joined_points.ensures ∙
    ap (fold with_pair (loose_points tiles)) c.requires.joins in
    let inside = prim-inside tiles c.deref.result.now c.requires.some are in
    inside.1

pub put_child_lists-requires-clause-few : goal.put_child_lists-requires-clause-few
put_child_lists-requires-clause-few c =
    let tiles = c.args.tiles.now in
    let are = c.deref.ensures.value ∙ c.in_ok-put_joined_points.ensures ∙
    ap (fold with_pair (loose_points tiles)) c.requires.joins in
    let inside = prim-inside tiles c.deref.result.now c.requires.some are in
    let size = inside.0 in
    let few = c.requires.few in
    omega arith

pub from_points-requires-clause-few : goal.from_points-requires-clause-few
from_points-requires-clause-few c =
    let stands = standing c.args.tiles.now c.loop-join.points.items c.loop-join.join-index c.requires.some c.loop-join.invariant.handled in
    let few = stands.few in
    let kept = c.loop-join.points.ok.0 in
    let size = c.requires.few in
    omega arith

pub from_points-requires-clause-tree : goal.from_points-requires-clause-tree
from_points-requires-clause-tree c =
    let stands = standing c.args.tiles.now c.loop-join.points.items c.loop-join.join-index c.requires.some c.loop-join.invariant.handled in
    stands.tree

pub returns : goal.returns
returns c =
    let tiles = c.args.tiles.now in
    let done : length (joins_of tiles) ≤ c.loop-join.join-index =
    let size = ap length c.requires.joins in
    let last = c.loop-join-test.false in
    omega arith in
    c.from_points.ensures ∙ handled-all tiles c.loop-join.points.items c.loop-join.join-index done c.loop-join.invariant.handled

pub put_joined_points-requires-clause-inside : goal.put_joined_points-requires-clause-inside
put_joined_points-requires-clause-inside c =
    subst (λ (joins : List Join). All (AreInside c.args.tiles.now) joins) (sym c.requires.joins) (joins_of-inside c.args.tiles.now)
