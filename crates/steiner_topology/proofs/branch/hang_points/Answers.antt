use Rattle.std.proofs.Common.{◌≡◌, List, [], ◌∷◌, ◌++◌, length, get_or, set, ap, ◌∙◌, arith}
use Rattle.steiner_topology.specs.declared.point.Point.{Point}
use Rattle.steiner_topology.proofs.TopologyLemmas.{hung-pushed}
use Rattle.steiner_topology.proofs.branch.hang_points.Goals as goal

pub returns : goal.returns
returns c =
    let points = c.args.points.now.items in
    let b = c.args.branch in
    let p = c.index_mut.result.now in
    let q = c.index_mut-2.result.now in
    let n = c.len-number.result in
    let kept = c.args.points.now.ok.0 in
    let size : n ≡ length points = omega arith in
    let pushed : c.push.new.self.items ≡ points ++ b ∷ [] = c.in_ok-push.ensures.items in
    ap (λ (xs : List Point). set (set xs c.args.lower (record { tile = p.tile; parent = n })) c.args.j (record { tile = q.tile; parent = n })) pushed ∙
    hung-pushed points b c.args.lower c.args.j n p q (omega arith) (omega arith) size
    (c.index_mut.ensures.value ∙ ap (λ (xs : List Point). get_or xs c.args.lower p) pushed)
    (c.index_mut-2.ensures.value ∙ ap (λ (xs : List Point). get_or (set xs c.args.lower (record { tile = p.tile; parent = n })) c.args.j q) pushed)
