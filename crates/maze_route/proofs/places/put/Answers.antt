use Rattle.std.proofs.Common.{length, refl, arith}
use Rattle.std.proofs.lemmas.Option.{slice_get_read}
use Rattle.maze_route.proofs.PlaceLemmas.{put-free}
use Rattle.maze_route.proofs.ChainSteps.{chain-place}
use Rattle.maze_route.proofs.places.put.Goals as goal

pub index-requires : goal.index-requires
index-requires c =
    let h = chain-place c.args.slots.now.items c.args.free.now c.in-Some.place c.requires.free.places c.in-Some.is c.requires.free.are_free.linked in
    omega (arith, h, c.args.slots.now.ok.0)

pub index_mut-requires : goal.index_mut-requires
index_mut-requires c =
    let h = chain-place c.args.slots.now.items c.args.free.now c.in-Some.place c.requires.free.places c.in-Some.is c.requires.free.are_free.linked in
    omega (arith, h, c.args.slots.now.ok.0)

pub returns : goal.returns
returns c =
    let items = c.args.slots.now.items in
    let h = chain-place items c.args.free.now c.in-Some.place c.requires.free.places c.in-Some.is c.requires.free.are_free.linked in
    let reuse = put-free items _ c.args.free.now c.in-Some.place c.index.result.now c.args.slot c.requires.taken c.requires.free c.in-Some.is
    (slice_get_read items (length items) c.in-Some.place c.index.result.now refl h c.index.ensures) refl in
    record { put = reuse.put; free = reuse.free; err_slots = tt; err_free = tt }
