use Rattle.std.proofs.Common.{◌≡◌, ◌<◌, List, length, All, sym, ap, subst, ◌∙◌, arith}
use Rattle.std.proofs.lemmas.Bool.Decides.{nat_tests}
use Rattle.std.proofs.lemmas.List.{length-map}
use Rattle.steiner_topology.specs.declared.point.Join.{Join}
use Rattle.steiner_topology.specs.Tile.{tile_at}
use Rattle.steiner_topology.specs.Joins.{AreInside, joins_of}
use Rattle.steiner_topology.specs.Waits.{nearer}
use Rattle.steiner_topology.proofs.JoinLemmas.{joins_of-inside, length-joins_of}
use Rattle.steiner_topology.proofs.WaitLemmas.{IsWaiting, waiting-first, waiting-done, turn}
use Rattle.steiner_topology.proofs.prim.joins_of.Goals as goal
use Rattle.steiner_topology.proofs.prim.joins_of.Goals.{In_ok-push}

pub loop-waiting-init : goal.loop-waiting-init
loop-waiting-init c = waiting-first c.args.tiles.now c.clear.new.self.items _ c.requires.some c.clear.ensures.items c.in_ok-put_waiting.ensures

pub remove-next-requires : goal.remove-next-requires
remove-next-requires c =
    let some = c.loop-waiting-test.ensures in
    let old = c.loop-waiting.waiting.ok.0 in
    let new = c.offer-first.new.waiting.ok.0 in
    let same = ap length c.offer-first.ensures.waiting ∙ length-map c.loop-waiting.waiting.items (nearer (tile_at c.args.tiles.now c.loop-waiting.point) c.loop-waiting.point) in
    let most : 0 < length c.loop-waiting.waiting.items = grind (arith, nat_tests) in
    let inside = c.offer-first.ensures.first.inside (omega arith) in
    omega arith

-- what the turn does
turned : (c : In_ok-push) → IsWaiting c.args.tiles.now c.push.new.self.items c.remove-next.result.point c.remove-next.new.self.items ×
    (length c.remove-next.new.self.items < length c.loop-waiting.waiting.items)
turned c =
    let some = c.loop-waiting-test.ensures in
    let old = c.loop-waiting.waiting.ok.0 in
    let new = c.offer-first.new.waiting.ok.0 in
    turn c.args.tiles.now c.loop-waiting.joins.items c.push.new.self.items c.loop-waiting.point c.loop-waiting.waiting.items
    c.offer-first.new.waiting.items c.remove-next.new.self.items c.offer-first.new.waiting.len c.offer-first.result c.remove-next.result
    c.loop-waiting.invariant c.offer-first.ensures.waiting (omega arith) c.offer-first.ensures.first (grind (arith, nat_tests))
    c.remove-next.ensures.value c.remove-next.ensures.items c.in_ok-push.ensures.items

pub loop-waiting-smaller : goal.loop-waiting-smaller
loop-waiting-smaller c = (turned c).1

pub loop-waiting-preserved : goal.loop-waiting-preserved
loop-waiting-preserved c = (turned c).0

pub returns : goal.returns
returns c =
    let tiles = c.args.tiles.now in
    let none = c.loop-waiting-test.ensures in
    let waiting = c.loop-waiting.waiting.ok.0 in
    let done : c.loop-waiting.joins.items ≡ joins_of tiles =
    waiting-done tiles c.loop-waiting.joins.items c.loop-waiting.point c.loop-waiting.waiting.items c.loop-waiting.invariant (grind (arith, nat_tests)) in
    let kept = c.loop-waiting.joins.ok.0 in
    let size : length c.loop-waiting.joins.items ≡ length (joins_of tiles) = ap length done in
    let few = length-joins_of tiles c.requires.some in
    let P : List Join → Type 0 = λ xs. All (AreInside tiles) xs in
    record { joins = done; inside = subst P (sym done) (joins_of-inside tiles); len = omega arith }
