use Rattle.std.proofs.Common.{List, [], ◌∷◌, ◌++◌, sym, ap, ◌∙◌, arith}
use Rattle.std.proofs.lemmas.List.FromFn.{map-range_with_len_more}
use Rattle.steiner_topology.specs.declared.point.Point.{Point}
use Rattle.steiner_topology.specs.Tile.{tile_at}
use Rattle.steiner_topology.specs.Topology.{point}
use Rattle.steiner_topology.proofs.build.put_loose_points.Goals as goal

pub loop-parent-preserved : goal.loop-parent-preserved
loop-parent-preserved c =
    let tiles = c.args.tiles.now in
    let n = c.loop-parent.parent in
    c.in_ok-push.ensures.items ∙
    ap (λ (xs : List Point). xs ++ point (tile_at tiles n) n ∷ []) c.loop-parent.invariant ∙
    sym (map-range_with_len_more (λ v. point (tile_at tiles v) v) 0 n n (omega arith))
