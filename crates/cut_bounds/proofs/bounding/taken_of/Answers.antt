use Rattle.cut_bounds.proofs.OrderLemmas.{order-read, taken-is}
use Rattle.cut_bounds.proofs.bounding.taken_of.Goals as goal

pub take_walls-requires : goal.take_walls-requires
take_walls-requires c =
    order-read c.args.shape c.args.straight.now c.args.boxes.items c.in_ok-order.order.items c.rank.new.walls.items c.deref.result.now c.extend_from_slice.new.self.items c.deref-2.result.now
    c.requires.straight c.requires.boxes c.in_ok-order.ensures c.in_ok-rank.ensures c.deref.ensures.value c.in_ok-extend_from_slice.ensures.items c.deref-2.ensures.value

pub returns : goal.returns
returns c =
    taken-is c.args.shape c.args.straight.now c.args.boxes.items c.in_ok-order.order.items c.rank.new.walls.items c.deref.result.now c.extend_from_slice.new.self.items c.deref-2.result.now c.in_ok-taken.taken.items
    c.in_ok-order.ensures c.in_ok-rank.ensures c.deref.ensures.value c.in_ok-extend_from_slice.ensures.items c.deref-2.ensures.value c.in_ok-taken.ensures
