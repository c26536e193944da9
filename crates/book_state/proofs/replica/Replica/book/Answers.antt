use Rattle.std.proofs.Common.{ℕ, ◌+◌, List, Option, length, take, sym, ap, subst, ◌∙◌, arith}
use Rattle.std.proofs.lemmas.Bool.{both_ways}
use Rattle.book_state.specs.Replicas.{ReplicaView, StandsFor}
use Rattle.book_state.specs.ReplicaStore.{seen}
use Rattle.book_state.proofs.ReplicaSteps.{one-shape, claim-in_range}
use Rattle.book_state.proofs.StandSteps.{replica_of, step-claim, room-claim}
use Rattle.book_state.proofs.replica.Replica.book.Goals as goal

pub prove-unreachable-requires : goal.prove-unreachable-requires
prove-unreachable-requires c =
    let fits = claim-in_range c.args.capacity.now c.args.history.now c.args.place c.args.claim.now c.requires.legal c.requires.claim in
    both_ways c.eq-fits.result c.if-prove.true
    (c.eq-fits.ensures ∙ one-shape c.shape.result c.shape-2.result (c.shape.ensures.shape ∙ fits.shape ∙ sym c.shape-2.ensures.shape))

pub add-requires-clause-tree : goal.add-requires-clause-tree
add-requires-clause-tree c =
    let fits = claim-in_range c.args.capacity.now c.args.history.now c.args.place c.args.claim.now c.requires.legal c.requires.claim in
    fits.shape ∙ sym c.requires.stands.loads.shape ∙ sym (ap (λ (r : ReplicaView). r.loads.shape) c.self.view_is)

pub add-requires-clause-room : goal.add-requires-clause-room
add-requires-clause-room c =
    let history = c.args.history.now in
    let fits = claim-in_range c.args.capacity.now history c.args.place c.args.claim.now c.requires.legal c.requires.claim in
    let stands = subst (λ (r : ReplicaView). StandsFor c.args.capacity.now (take c.args.place history) r) (sym c.self.view_is) c.requires.stands in
    room-claim c.args.capacity.now (take c.args.place history) (seen c.self.inside) c.args.claim.now.tree stands c.shape-2.ensures.tables c.self.invariant.few c.shape.ensures.tree fits.shape

pub set-requires-clause-net : goal.set-requires-clause-net
set-requires-clause-net c =
    let fits = claim-in_range c.args.capacity.now c.args.history.now c.args.place c.args.claim.now c.requires.legal c.requires.claim in
    let nets = c.requires.stands.nets in
    let same = ap (λ (r : ReplicaView). length r.places) c.self.view_is in
    omega (arith, fits.net, nets, same)

pub returns : goal.returns
returns c =
    let history = c.args.history.now in
    let stands = subst (λ (r : ReplicaView). StandsFor c.args.capacity.now (take c.args.place history) r) (sym c.self.view_is) c.requires.stands in
    let P : List (Option ℕ) → Type 0 = λ places. StandsFor c.args.capacity.now (take (c.args.place + 1) history) (replica_of (c.args.place + 1) places c.add.new.self) in
    subst P (sym c.set.ensures)
    (step-claim c.args.capacity.now history c.args.place c.args.claim.now (seen c.self.inside) c.add.new.self c.requires.legal stands c.requires.claim c.add.ensures.loads)
