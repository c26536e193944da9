use Rattle.std.proofs.Common.{ℕ, List, Option, length, refl, arith}
use Rattle.std.proofs.lemmas.Option.{slice_get_read}
use Rattle.maze_route.specs.declared.slot.Slot.{Slot}
use Rattle.maze_route.proofs.ChainSteps.{chain-place, turn-any, turn-less}
use Rattle.maze_route.proofs.bucket.spread.Goals as goal

pub index-slot-requires : goal.index-slot-requires
index-slot-requires c =
    let h = chain-place c.loop-at.slots.items c.loop-at.at c.in-Some.place c.loop-at.invariant.is.spreading.left c.in-Some.is c.loop-at.invariant.is.spreading.left_linked in
    omega (arith, h, c.loop-at.slots.ok.0)

pub index_mut-requires : goal.index_mut-requires
index_mut-requires c =
    let h = chain-place c.loop-at.slots.items c.loop-at.at c.in-Some.place c.loop-at.invariant.is.spreading.left c.in-Some.is c.loop-at.invariant.is.spreading.left_linked in
    omega (arith, h, c.loop-at.slots.ok.0)

pub loop-at-smaller : goal.loop-at-smaller
loop-at-smaller c =
    let items = c.loop-at.slots.items in
    let h = chain-place items c.loop-at.at c.in-Some.place c.loop-at.invariant.is.spreading.left c.in-Some.is c.loop-at.invariant.is.spreading.left_linked in
    let read = slice_get_read items (length items) c.in-Some.place c.index-slot.result.now refl h c.index-slot.ensures in
    turn-less items c.loop-at.heads c.loop-at.at c.args.last c.in-Some.place c.index-slot.result.now _ c.in-Some.is read c.loop-at.invariant.is

pub loop-at-preserved : goal.loop-at-preserved
loop-at-preserved c =
    let items = c.loop-at.slots.items in
    let h = chain-place items c.loop-at.at c.in-Some.place c.loop-at.invariant.is.spreading.left c.in-Some.is c.loop-at.invariant.is.spreading.left_linked in
    let slot = c.index-slot.result.now in
    let read = slice_get_read items (length items) c.in-Some.place slot refl h c.index-slot.ensures in
    let to = c.bucket_of-bucket.result in
    let new : Slot = record { key = slot.key; cell = slot.cell; next = c.at.result; taken = slot.taken } in
    let turn = λ (free : Option ℕ) (bucket : ℕ) (pairs : List (ℕ × ℕ)).
    turn-any items c.loop-at.heads c.set.new.self free c.loop-at.at c.args.last bucket c.in-Some.place to slot new pairs c.in-Some.is read refl refl refl c.at.ensures c.set.ensures c.bucket_of-bucket.ensures.bucket c.bucket_of-bucket.ensures.few in
    let is = c.loop-at.invariant.is in
    record {
      is = record { free = is.free; bucket = is.bucket; pairs = is.pairs; spreading = turn is.free is.bucket is.pairs is.spreading };
      all = λ free bucket pairs start. turn free bucket pairs (c.loop-at.invariant.all free bucket pairs start);
    }
