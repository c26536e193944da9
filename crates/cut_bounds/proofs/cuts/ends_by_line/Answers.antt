use Rattle.std.proofs.Common.{ℕ, ◌≤◌, List, length, sym, subst}
use Rattle.cut_bounds.specs.Cuts.{AreWithin}
use Rattle.cut_bounds.specs.NetTiles.{placed_in}
use Rattle.cut_bounds.specs.declared.net_tiles.NetNeed.{NetNeed}
use Rattle.cut_bounds.proofs.CutLemmas.{no-counted-to, next-some, next-within, more-counted-to, all-counted, small-begun, small-ended}
use Rattle.cut_bounds.proofs.NetLemmas.{next-read, next-fits}
use Rattle.cut_bounds.proofs.cuts.ends_by_line.Goals as goal

pub loop-net_need-init : goal.loop-net_need-init
loop-net_need-init c =
    no-counted-to c.args.axis c.args.lines c.args.nets.now.net_needs.items c.args.nets.now.tiles.items c.as_slice-rest.result.now c.in_ok-vec.field-0.items c.in_ok-vec-2.field-0.items
    c.as_slice-rest.ensures.value c.requires.whole c.requires.some c.requires.within
    (c.in_ok-vec.ensures.items_if_clones_equal (λ y e. e)) (c.in_ok-vec-2.ensures.items_if_clones_equal (λ y e. e))

pub split_at-requires : goal.split_at-requires
split_at-requires c =
    next-fits c.args.nets.now.net_needs.items c.deref-net_need-items.result.now c.loop-net_need.net_need-index record { need = 0; pins = 0 } c.loop-net_need.rest.now
    c.deref-net_need-items.ensures.value c.loop-net_need-test.true c.loop-net_need.invariant.whole

pub add_net-requires-clause-some : goal.add_net-requires-clause-some
add_net-requires-clause-some c =
    let next = next-read c.args.nets.now.net_needs.items c.deref-net_need-items.result.now c.loop-net_need.net_need-index record { need = 0; pins = 0 } c.loop-net_need.rest.now
    c.split_at.result.0.now c.split_at.result.1.now c.deref-net_need-items.ensures.value c.loop-net_need-test.true c.loop-net_need.invariant.whole c.split_at.ensures.front c.split_at.ensures.back in
    next-some c.args.axis c.args.lines c.args.nets.now.net_needs.items c.loop-net_need.net_need-index _ c.loop-net_need.rest.now c.split_at.result.0.now c.split_at.result.1.now
    c.loop-net_need.ends.begun.items c.loop-net_need.ends.ended.items (placed_in c.args.nets.now) c.loop-net_need.invariant next

pub add_net-requires-clause-begun : goal.add_net-requires-clause-begun
add_net-requires-clause-begun c =
    let next = next-read c.args.nets.now.net_needs.items c.deref-net_need-items.result.now c.loop-net_need.net_need-index record { need = 0; pins = 0 } c.loop-net_need.rest.now
    c.split_at.result.0.now c.split_at.result.1.now c.deref-net_need-items.ensures.value c.loop-net_need-test.true c.loop-net_need.invariant.whole c.split_at.ensures.front c.split_at.ensures.back in
    subst (λ (n : ℕ). AreWithin c.args.axis n c.split_at.result.0.now) (sym c.loop-net_need.invariant.begun_long)
    (next-within c.args.axis c.args.lines c.args.nets.now.net_needs.items c.loop-net_need.net_need-index _ c.loop-net_need.rest.now c.split_at.result.0.now c.split_at.result.1.now
    c.loop-net_need.ends.begun.items c.loop-net_need.ends.ended.items (placed_in c.args.nets.now) c.loop-net_need.invariant next)

pub add_net-requires-clause-ended : goal.add_net-requires-clause-ended
add_net-requires-clause-ended c =
    let next = next-read c.args.nets.now.net_needs.items c.deref-net_need-items.result.now c.loop-net_need.net_need-index record { need = 0; pins = 0 } c.loop-net_need.rest.now
    c.split_at.result.0.now c.split_at.result.1.now c.deref-net_need-items.ensures.value c.loop-net_need-test.true c.loop-net_need.invariant.whole c.split_at.ensures.front c.split_at.ensures.back in
    subst (λ (n : ℕ). AreWithin c.args.axis n c.split_at.result.0.now) (sym c.loop-net_need.invariant.ended_long)
    (next-within c.args.axis c.args.lines c.args.nets.now.net_needs.items c.loop-net_need.net_need-index _ c.loop-net_need.rest.now c.split_at.result.0.now c.split_at.result.1.now
    c.loop-net_need.ends.begun.items c.loop-net_need.ends.ended.items (placed_in c.args.nets.now) c.loop-net_need.invariant next)

pub add_net-requires-clause-begun_room : goal.add_net-requires-clause-begun_room
add_net-requires-clause-begun_room c line =
    small-begun c.args.axis c.loop-net_need.ends.begun.items c.loop-net_need.ends.ended.items _ (placed_in c.args.nets.now) line c.loop-net_need.invariant.counted c.requires.few

pub add_net-requires-clause-ended_room : goal.add_net-requires-clause-ended_room
add_net-requires-clause-ended_room c line =
    small-ended c.args.axis c.loop-net_need.ends.begun.items c.loop-net_need.ends.ended.items _ (placed_in c.args.nets.now) line c.loop-net_need.invariant.counted c.requires.few

pub loop-net_need-preserved : goal.loop-net_need-preserved
loop-net_need-preserved c =
    let next = next-read c.args.nets.now.net_needs.items c.deref-net_need-items.result.now c.loop-net_need.net_need-index record { need = 0; pins = 0 } c.loop-net_need.rest.now
    c.split_at.result.0.now c.split_at.result.1.now c.deref-net_need-items.ensures.value c.loop-net_need-test.true c.loop-net_need.invariant.whole c.split_at.ensures.front c.split_at.ensures.back in
    more-counted-to c.args.axis c.args.lines c.args.nets.now.net_needs.items c.loop-net_need.net_need-index _ c.loop-net_need.rest.now c.split_at.result.0.now c.split_at.result.1.now
    c.loop-net_need.ends.begun.items c.loop-net_need.ends.ended.items c.add_net.new.ends.begun.items c.add_net.new.ends.ended.items (placed_in c.args.nets.now) c.loop-net_need.invariant next
    c.add_net.ensures.begun_long c.add_net.ensures.ended_long c.add_net.ensures.counted

pub returns : goal.returns
returns c =
    all-counted c.args.axis c.args.lines c.args.nets.now.net_needs.items c.loop-net_need.net_need-index c.loop-net_need.rest.now c.loop-net_need.ends.begun.items c.loop-net_need.ends.ended.items (placed_in c.args.nets.now)
    (subst (λ (cs : List NetNeed). length cs ≤ c.loop-net_need.net_need-index) c.deref-net_need-items.ensures.value c.loop-net_need-test.false) c.loop-net_need.invariant
