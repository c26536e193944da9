use Rattle.std.proofs.Common.{Some, get_or, refl}
use Rattle.std.proofs.lemmas.Option.{slice_get-get_or}
use Rattle.maze_route.proofs.ChainSteps.{chain-place, least-start, least-turn, least-done, no_slot}
use Rattle.maze_route.proofs.bucket.least_key.Goals as goal

pub bounds-slots-first : goal.bounds-slots-first
bounds-slots-first c = chain-place c.args.slots.now (Some c.args.first) c.args.first c.requires.places refl c.requires.linked

pub bounds-slots-place : goal.bounds-slots-place
bounds-slots-place c = chain-place c.args.slots.now c.loop-at.at c.in-Some.place c.loop-at.invariant.left c.in-Some.is c.loop-at.invariant.left_linked

pub loop-at-init : goal.loop-at-init
loop-at-init c =
    let h = chain-place c.args.slots.now (Some c.args.first) c.args.first c.requires.places refl c.requires.linked in
    least-start c.args.slots.now c.args.first (get_or c.args.slots.now c.args.first no_slot) c.requires (slice_get-get_or c.args.slots.now c.args.first no_slot h)

pub loop-at-preserved : goal.loop-at-preserved
loop-at-preserved c =
    let h = chain-place c.args.slots.now c.loop-at.at c.in-Some.place c.loop-at.invariant.left c.in-Some.is c.loop-at.invariant.left_linked in
    let turn = least-turn c.args.slots.now c.args.first c.in-Some.place c.loop-at.at c.loop-at.least c.min-least.result (get_or c.args.slots.now c.in-Some.place no_slot) c.in-Some.is
    (slice_get-get_or c.args.slots.now c.in-Some.place no_slot h) c.min-least.ensures c.loop-at.invariant in
    turn.0

pub loop-at-smaller : goal.loop-at-smaller
loop-at-smaller c =
    let h = chain-place c.args.slots.now c.loop-at.at c.in-Some.place c.loop-at.invariant.left c.in-Some.is c.loop-at.invariant.left_linked in
    let turn = least-turn c.args.slots.now c.args.first c.in-Some.place c.loop-at.at c.loop-at.least c.min-least.result (get_or c.args.slots.now c.in-Some.place no_slot) c.in-Some.is
    (slice_get-get_or c.args.slots.now c.in-Some.place no_slot h) c.min-least.ensures c.loop-at.invariant in
    turn.1

pub returns : goal.returns
returns c = least-done c.args.slots.now c.args.first c.loop-at.at c.loop-at.least c.in_default.is c.loop-at.invariant
