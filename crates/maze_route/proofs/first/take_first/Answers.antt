use Rattle.std.proofs.Common.{ℕ, List, Option, Some, length, false, refl, sym, subst, ◌∙◌, slice_set, arith}
use Rattle.std.proofs.lemmas.Option.{slice_get_read}
use Rattle.maze_route.specs.Buckets.{head_at}
use Rattle.maze_route.specs.Renewed.{IsTakenOut}
use Rattle.maze_route.specs.declared.slot.Slot.{Slot}
use Rattle.maze_route.proofs.KeepLemmas.{free-first}
use Rattle.maze_route.proofs.ChainSteps.{chain-place}
use Rattle.maze_route.proofs.first.take_first.Goals as goal

pub index-slot-requires : goal.index-slot-requires
index-slot-requires c =
    let own = c.own_bucket-own.result in
    let few = c.own_bucket-own.ensures.few in
    let head = sym c.at.ensures ∙ c.unwrap-place.ensures in
    let keeps = c.requires.keeps in
    let h = chain-place c.args.slots.now.items (head_at c.args.heads.now own) c.unwrap-place.result (keeps.chains own) head (keeps.are_chains.linked own (omega arith)) in
    omega (arith, h, c.args.slots.now.ok.0)

pub index_mut-requires : goal.index_mut-requires
index_mut-requires c =
    let own = c.own_bucket-own.result in
    let few = c.own_bucket-own.ensures.few in
    let head = sym c.at.ensures ∙ c.unwrap-place.ensures in
    let keeps = c.requires.keeps in
    let h = chain-place c.args.slots.now.items (head_at c.args.heads.now own) c.unwrap-place.result (keeps.chains own) head (keeps.are_chains.linked own (omega arith)) in
    omega (arith, h, c.args.slots.now.ok.0)

pub returns : goal.returns
returns c =
    let items = c.args.slots.now.items in
    let own = c.own_bucket-own.result in
    let few = c.own_bucket-own.ensures.few in
    let head = sym c.at.ensures ∙ c.unwrap-place.ensures in
    let keeps = c.requires.keeps in
    let h = chain-place items (head_at c.args.heads.now own) c.unwrap-place.result (keeps.chains own) head (keeps.are_chains.linked own (omega arith)) in
    let slot = c.index-slot.result.now in
    let read = slice_get_read items (length items) c.unwrap-place.result slot refl h c.index-slot.ensures in
    let freed : Slot = record { key = slot.key; cell = slot.cell; next = c.args.free.now; taken = false } in
    let T : List (Option ℕ) → Type 0 = λ hs. IsTakenOut items (slice_set items c.unwrap-place.result freed) hs (Some c.unwrap-place.result) c.args.last slot in
    subst T (sym c.set.ensures) (free-first items c.args.heads.now c.args.free.now c.args.last own c.unwrap-place.result slot freed c.own_bucket-own.ensures.own keeps head read refl refl)
