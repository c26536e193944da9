use Rattle.std.proofs.Common.{ℕ, ◌+◌, List, Option, take, refl, sym, subst, arith}
use Rattle.book_state.specs.Books.{IsIdle}
use Rattle.book_state.specs.Replicas.{ArePlaces, IsClaimed, IsReleased}
use Rattle.book_state.specs.declared.entry.Call.{Call}
use Rattle.book_state.proofs.ReplicaSteps.{claim-in_range, release-in_range}
use Rattle.book_state.proofs.PlaceSteps.{places-claim, places-release, places-idle, places-mark}
use Rattle.book_state.proofs.places.note_place.Goals as goal

pub set-requires-clause-net : goal.set-requires-clause-net
set-requires-clause-net c =
    let claimed : IsClaimed c.args.history.now c.args.place c.in-Claim.claim =
    record { e = c.entry-entry.result.now; there = c.entry-entry.ensures.entry; call = c.in-Claim.is; reply = c.in-Claimed.is } in
    let within = (claim-in_range c.args.capacity.now c.args.history.now c.args.place c.in-Claim.claim c.requires.legal claimed).net in
    let long = c.requires.nets in
    omega (arith, within, long)

pub clear-requires : goal.clear-requires
clear-requires c =
    let released : IsReleased c.args.history.now c.args.place c.in-Release.net =
    record { e = c.entry-entry.result.now; there = c.entry-entry.ensures.entry; call = c.in-Release.is; reply = c.in-Released.is } in
    let within = release-in_range c.args.capacity.now c.args.history.now c.args.place c.in-Release.net c.requires.legal released in
    let long = c.requires.nets in
    omega (arith, within, long)

pub returns-in-Claimed-clause-places : goal.returns-in-Claimed-clause-places
returns-in-Claimed-clause-places c =
    let claimed : IsClaimed c.args.history.now c.args.place c.in-Claim.claim =
    record { e = c.entry-entry.result.now; there = c.entry-entry.ensures.entry; call = c.in-Claim.is; reply = c.in-Claimed.is } in
    subst (λ (places : List (Option ℕ)). ArePlaces (take (c.args.place + 1) c.args.history.now) places) (sym c.set.ensures)
    (places-claim c.args.capacity.now c.args.history.now c.args.place c.in-Claim.claim c.args.places.now c.requires.legal c.requires.places c.requires.nets claimed)

pub returns-in_default : goal.returns-in_default
returns-in_default c =
    let e = c.entry-entry.result.now in
    let idle = subst (λ (call : Call). IsIdle call e.reply) (sym c.in-Claim.is) c.in_default.not-Claimed in
    record { nets = refl; places = places-idle c.args.history.now c.args.place e c.args.places.now c.requires.places c.entry-entry.ensures.entry idle }

pub returns-in-Released-clause-places : goal.returns-in-Released-clause-places
returns-in-Released-clause-places c =
    let released : IsReleased c.args.history.now c.args.place c.in-Release.net =
    record { e = c.entry-entry.result.now; there = c.entry-entry.ensures.entry; call = c.in-Release.is; reply = c.in-Released.is } in
    subst (λ (places : List (Option ℕ)). ArePlaces (take (c.args.place + 1) c.args.history.now) places) (sym c.clear.ensures)
    (places-release c.args.capacity.now c.args.history.now c.args.place c.in-Release.net c.args.places.now c.requires.legal c.requires.places c.requires.nets released)

pub returns-in_default-reply : goal.returns-in_default-reply
returns-in_default-reply c =
    let e = c.entry-entry.result.now in
    let idle = subst (λ (call : Call). IsIdle call e.reply) (sym c.in-Release.is) c.in_default-reply.not-Released in
    record { nets = refl; places = places-idle c.args.history.now c.args.place e c.args.places.now c.requires.places c.entry-entry.ensures.entry idle }

pub returns-in-Mark-clause-places : goal.returns-in-Mark-clause-places
returns-in-Mark-clause-places c = places-mark c.args.history.now c.args.place c.entry-entry.result.now c.args.places.now c.requires.places c.entry-entry.ensures.entry c.in-Mark.is
