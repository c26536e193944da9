use Rattle.std.proofs.Common.{◌≤◌, List, length, sym, ap, subst, ◌∙◌}
use Rattle.std.proofs.lemmas.List.{length-take-le}
use Rattle.cut_bounds.specs.NetTiles.{placed_in}
use Rattle.cut_bounds.specs.declared.axis.Tile.{Tile}
use Rattle.cut_bounds.specs.declared.net_tiles.NetNeed.{NetNeed}
use Rattle.cut_bounds.proofs.NetLemmas.{next-read, next-fits}
use Rattle.cut_bounds.proofs.PartedLemmas.{next-parts, held-passed, parted-kept, all-parted}
use Rattle.cut_bounds.proofs.net_tiles.NetTiles.parted.Goals as goal

pub hold_in_one-requires-clause-some : goal.hold_in_one-requires-clause-some
hold_in_one-requires-clause-some c =
    let next = next-read c.args.self.now.net_needs.items c.deref-net_need-items.result.now c.loop-net_need.net_need-index record { need = 0; pins = 0 } c.loop-net_need.rest.now
    c.split_at.result.0.now c.split_at.result.1.now c.deref-net_need-items.ensures.value c.loop-net_need-test.true c.loop-net_need.invariant.whole c.split_at.ensures.front c.split_at.ensures.back in
    (next-parts c.args.boxes.shape c.args.boxes.level c.args.self.now.net_needs.items c.loop-net_need.net_need-index _ c.loop-net_need.rest.now c.split_at.result.0.now c.split_at.result.1.now
    c.loop-net_need.parted (placed_in c.args.self.now) c.loop-net_need.invariant next).0

pub hold_in_one-requires-clause-within : goal.hold_in_one-requires-clause-within
hold_in_one-requires-clause-within c =
    let next = next-read c.args.self.now.net_needs.items c.deref-net_need-items.result.now c.loop-net_need.net_need-index record { need = 0; pins = 0 } c.loop-net_need.rest.now
    c.split_at.result.0.now c.split_at.result.1.now c.deref-net_need-items.ensures.value c.loop-net_need-test.true c.loop-net_need.invariant.whole c.split_at.ensures.front c.split_at.ensures.back in
    (next-parts c.args.boxes.shape c.args.boxes.level c.args.self.now.net_needs.items c.loop-net_need.net_need-index _ c.loop-net_need.rest.now c.split_at.result.0.now c.split_at.result.1.now
    c.loop-net_need.parted (placed_in c.args.self.now) c.loop-net_need.invariant next).1

pub loop-net_need-preserved-then-hold_in_one : goal.loop-net_need-preserved-then-hold_in_one
loop-net_need-preserved-then-hold_in_one c =
    let next = next-read c.args.self.now.net_needs.items c.deref-net_need-items.result.now c.loop-net_need.net_need-index record { need = 0; pins = 0 } c.loop-net_need.rest.now
    c.split_at.result.0.now c.split_at.result.1.now c.deref-net_need-items.ensures.value c.loop-net_need-test.true c.loop-net_need.invariant.whole c.split_at.ensures.front c.split_at.ensures.back in
    held-passed c.args.boxes.shape c.args.boxes.level c.args.self.now.net_needs.items c.loop-net_need.net_need-index _ c.loop-net_need.rest.now c.split_at.result.0.now c.split_at.result.1.now
    c.loop-net_need.parted (placed_in c.args.self.now) c.loop-net_need.invariant next (sym c.hold_in_one.ensures ∙ c.if-hold_in_one.true)

pub loop-net_need-preserved : goal.loop-net_need-preserved
loop-net_need-preserved c =
    let next = next-read c.args.self.now.net_needs.items c.deref-net_need-items.result.now c.loop-net_need.net_need-index record { need = 0; pins = 0 } c.loop-net_need.rest.now
    c.split_at.result.0.now c.split_at.result.1.now c.deref-net_need-items.ensures.value c.loop-net_need-test.true c.loop-net_need.invariant.whole c.split_at.ensures.front c.split_at.ensures.back in
    let fits = next-fits c.args.self.now.net_needs.items c.deref-net_need-items.result.now c.loop-net_need.net_need-index record { need = 0; pins = 0 } c.loop-net_need.rest.now
    c.deref-net_need-items.ensures.value c.loop-net_need-test.true c.loop-net_need.invariant.whole in
    parted-kept c.args.boxes.shape c.args.boxes.level c.args.self.now.net_needs.items c.loop-net_need.net_need-index _ c.loop-net_need.rest.now c.split_at.result.0.now c.split_at.result.1.now
    c.loop-net_need.parted record { net_needs = c.push.new.self; tiles = c.extend_from_slice.new.self } (placed_in c.args.self.now) c.loop-net_need.invariant next (sym c.hold_in_one.ensures ∙ c.if-hold_in_one.false)
    (sym (ap (λ (ts : List Tile). length ts) c.split_at.ensures.front ∙ length-take-le _ c.loop-net_need.rest.now fits))
    c.in_ok-push.ensures.items c.in_ok-extend_from_slice.ensures.items

pub returns-clause-nets : goal.returns-clause-nets
returns-clause-nets c =
    all-parted c.args.boxes.shape c.args.boxes.level c.args.self.now.net_needs.items c.loop-net_need.net_need-index c.loop-net_need.rest.now c.loop-net_need.parted (placed_in c.args.self.now)
    (subst (λ (cs : List NetNeed). length cs ≤ c.loop-net_need.net_need-index) c.deref-net_need-items.ensures.value c.loop-net_need-test.false) c.loop-net_need.invariant

pub returns-clause-whole : goal.returns-clause-whole
returns-clause-whole c = c.loop-net_need.invariant.filled
