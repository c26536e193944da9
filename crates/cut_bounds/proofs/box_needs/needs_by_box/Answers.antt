use Rattle.std.proofs.Common.{◌+◌, ◌≤◌, List, length, refl, ap, subst, arith}
use Rattle.cut_bounds.specs.NetTiles.{placed_in}
use Rattle.cut_bounds.specs.declared.net_tiles.NetNeed.{NetNeed}
use Rattle.cut_bounds.proofs.BoxLemmas.{no-boxed-to, boxed-parts, boxed-small, more-boxed-to, all-boxed}
use Rattle.cut_bounds.proofs.NetLemmas.{next-read, next-fits}
use Rattle.cut_bounds.proofs.box_needs.needs_by_box.Goals as goal

pub loop-net_need-init : goal.loop-net_need-init
loop-net_need-init c =
    no-boxed-to c.args.boxes.shape c.args.boxes.level c.count.result c.count-2.result c.args.nets.now.net_needs.items c.args.nets.now.tiles.items c.as_slice-rest.result.now c.in_ok-vec.field-0.items c.in_ok-vec-2.field-0.items
    c.as_slice-rest.ensures.value c.requires.whole c.requires.parted c.requires.within c.count.ensures.count c.count-2.ensures.count
    (c.in_ok-vec.ensures.items_if_clones_equal (λ y e. e)) (c.in_ok-vec-2.ensures.items_if_clones_equal (λ y e. e))

pub split_at-requires : goal.split_at-requires
split_at-requires c =
    next-fits c.args.nets.now.net_needs.items c.deref-net_need-items.result.now c.loop-net_need.net_need-index record { need = 0; pins = 0 } c.loop-net_need.rest.now
    c.deref-net_need-items.ensures.value c.loop-net_need-test.true c.loop-net_need.invariant.whole

pub overflow_add-mark : goal.overflow_add-mark
overflow_add-mark c =
    let long = ap (λ (cs : List NetNeed). length cs) c.deref-net_need-items.ensures.value in
    omega (arith, c.loop-net_need.invariant.turn, c.loop-net_need-test.true, long, c.requires.few_nets)

pub add_net-requires-clause-within : goal.add_net-requires-clause-within
add_net-requires-clause-within c =
    let next = next-read c.args.nets.now.net_needs.items c.deref-net_need-items.result.now c.loop-net_need.net_need-index record { need = 0; pins = 0 } c.loop-net_need.rest.now
    c.split_at.result.0.now c.split_at.result.1.now c.deref-net_need-items.ensures.value c.loop-net_need-test.true c.loop-net_need.invariant.whole c.split_at.ensures.front c.split_at.ensures.back in
    (boxed-parts c.args.boxes.shape c.args.boxes.level c.args.nets.now.net_needs.items c.loop-net_need.net_need-index _ c.loop-net_need.rest.now c.split_at.result.0.now c.split_at.result.1.now c.loop-net_need.found.needs.items c.loop-net_need.found.marks.items c.loop-net_need.mark (placed_in c.args.nets.now) c.loop-net_need.invariant next).0

pub add_net-requires-clause-parted : goal.add_net-requires-clause-parted
add_net-requires-clause-parted c =
    let next = next-read c.args.nets.now.net_needs.items c.deref-net_need-items.result.now c.loop-net_need.net_need-index record { need = 0; pins = 0 } c.loop-net_need.rest.now
    c.split_at.result.0.now c.split_at.result.1.now c.deref-net_need-items.ensures.value c.loop-net_need-test.true c.loop-net_need.invariant.whole c.split_at.ensures.front c.split_at.ensures.back in
    (boxed-parts c.args.boxes.shape c.args.boxes.level c.args.nets.now.net_needs.items c.loop-net_need.net_need-index _ c.loop-net_need.rest.now c.split_at.result.0.now c.split_at.result.1.now c.loop-net_need.found.needs.items c.loop-net_need.found.marks.items c.loop-net_need.mark (placed_in c.args.nets.now) c.loop-net_need.invariant next).1

pub add_net-requires-clause-small : goal.add_net-requires-clause-small
add_net-requires-clause-small c n =
    boxed-small c.args.boxes.shape c.args.boxes.level c.args.nets.now.net_needs.items c.loop-net_need.net_need-index c.loop-net_need.rest.now c.loop-net_need.found.needs.items c.loop-net_need.found.marks.items c.loop-net_need.mark (placed_in c.args.nets.now) n c.loop-net_need.invariant c.requires.few

pub add_net-requires-clause-fresh : goal.add_net-requires-clause-fresh
add_net-requires-clause-fresh c n = let b = c.loop-net_need.invariant.below n in omega (arith, b)

pub loop-net_need-preserved : goal.loop-net_need-preserved
loop-net_need-preserved c =
    let next = next-read c.args.nets.now.net_needs.items c.deref-net_need-items.result.now c.loop-net_need.net_need-index record { need = 0; pins = 0 } c.loop-net_need.rest.now
    c.split_at.result.0.now c.split_at.result.1.now c.deref-net_need-items.ensures.value c.loop-net_need-test.true c.loop-net_need.invariant.whole c.split_at.ensures.front c.split_at.ensures.back in
    more-boxed-to c.args.boxes.shape c.args.boxes.level c.args.nets.now.net_needs.items c.loop-net_need.net_need-index _ c.loop-net_need.rest.now c.split_at.result.0.now c.split_at.result.1.now
    c.loop-net_need.found.needs.items c.loop-net_need.found.marks.items c.add_net.new.self.needs.items c.add_net.new.self.marks.items c.loop-net_need.mark (c.loop-net_need.mark + 1) _ (placed_in c.args.nets.now) c.loop-net_need.invariant next
    refl refl c.add_net.ensures.needs_long c.add_net.ensures.marks_long c.add_net.ensures.marks c.add_net.ensures.needs

pub returns-clause-long : goal.returns-clause-long
returns-clause-long c = c.loop-net_need.invariant.long

pub returns-clause-needs : goal.returns-clause-needs
returns-clause-needs c n lower =
    all-boxed c.args.boxes.shape c.args.boxes.level c.args.nets.now.net_needs.items c.loop-net_need.net_need-index c.loop-net_need.rest.now c.loop-net_need.found.needs.items c.loop-net_need.found.marks.items c.loop-net_need.mark (placed_in c.args.nets.now) n
    (subst (λ (cs : List NetNeed). length cs ≤ c.loop-net_need.net_need-index) c.deref-net_need-items.ensures.value c.loop-net_need-test.false) c.loop-net_need.invariant lower
