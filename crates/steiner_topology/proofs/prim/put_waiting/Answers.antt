use Rattle.std.proofs.Common.{◌≡◌, ℕ, ◌-◌, List, [], ◌∷◌, ◌++◌, length, map, refl, ap, ◌∙◌, arith}
use Rattle.std.specs.List.{range_with_len}
use Rattle.steiner_topology.specs.declared.point.Waiting.{Waiting}
use Rattle.steiner_topology.specs.Tile.{tile_at}
use Rattle.steiner_topology.specs.Joins.{pair}
use Rattle.steiner_topology.specs.Waits.{waiting_in, waits}
use Rattle.steiner_topology.proofs.WaitLemmas.{waiting-push, waiting-all}
use Rattle.steiner_topology.proofs.prim.put_waiting.Goals as goal

pub loop-point-preserved : goal.loop-point-preserved
loop-point-preserved c =
    let tiles = c.args.tiles.now in
    let n = c.loop-point.point in
    let above = c.loop-point.auto.point in
    let new : Waiting = waiting_in c.distance-span.result (tile_at tiles n) n 0 in
    let same : new ≡ waits tiles (pair n 0) = ap (λ (s : ℕ). waiting_in s (tile_at tiles n) n 0) c.distance-span.ensures.distance in
    c.in_ok-push.ensures.items ∙ ap (λ (ws : List Waiting). ws ++ new ∷ []) c.loop-point.invariant ∙
    ap (λ (w : Waiting). map (λ v. waits tiles (pair v 0)) (range_with_len 1 (n - 1)) ++ w ∷ []) same ∙
    waiting-push tiles n n above refl

pub returns : goal.returns
returns c =
    let tiles = c.args.tiles.now in
    let some = c.requires.some in
    let last : c.loop-point.point ≡ length tiles = let h = c.loop-point.auto.point-end in omega arith in
    c.loop-point.invariant ∙ ap (λ (n : ℕ). map (λ v. waits tiles (pair v 0)) (range_with_len 1 (n - 1))) last ∙ waiting-all tiles some
