use Rattle.std.proofs.Common.{◌<◌, length, ap, arith}
use Rattle.steiner_topology.specs.declared.point.Point.{Point}
use Rattle.steiner_topology.proofs.ChildLemmas.{neighbour-hangs}
use Rattle.steiner_topology.proofs.branch.add_branch.Goals as goal

pub hang_branch-requires-else-index-q-clause-hangs : goal.hang_branch-requires-else-index-q-clause-hangs
hang_branch-requires-else-index-q-clause-hangs c =
    let points = c.args.points.now.items in
    let kept = c.args.points.now.ok.0 in
    let p = c.index.result.now in
    let j_in : c.args.j < length points = let below = c.requires.j in omega arith in
    let i_in : p.parent < length points =
    let inside = c.requires.parents c.args.j p j_in in
    let same = ap (λ (x : Point). x.parent) c.index.ensures in
    omega arith in
    neighbour-hangs points c.args.j c.args.q p c.index-2.result.now j_in i_in c.index.ensures c.index-2.ensures c.requires.neighbour c.if-index-q.false
