use Rattle.std.proofs.Common.{sym, ap, subst, ◌∙◌}
use Rattle.std.proofs.lemmas.Bool.{both_ways}
use Rattle.book_state.specs.Replicas.{ReplicaView, StandsFor, place_of}
use Rattle.book_state.specs.ReplicaStore.{seen}
use Rattle.book_state.proofs.LiftSteps.{lifts, past-tree}
use Rattle.book_state.proofs.ReplicaSteps.{one-shape}
use Rattle.book_state.proofs.StandSteps.{share-release, tree-shape}
use Rattle.book_state.proofs.replica.Replica.lift.Goals as goal

pub prove-unreachable-requires : goal.prove-unreachable-requires
prove-unreachable-requires c =
    let place = place_of c.args.self.now.places c.args.net in
    let there = past-tree c.args.past.now c.entries.result.now place c.in-Some.tree.now c.entries.ensures c.in-Some.ensures in
    let shape = tree-shape c.args.capacity.now c.args.past.now place c.in-Some.tree.now c.requires.legal there in
    both_ways c.eq-fits.result c.if-prove.true
    (c.eq-fits.ensures ∙ one-shape c.shape.result c.shape-2.result (c.shape.ensures.shape ∙ shape ∙ sym c.shape-2.ensures.shape))

pub take-requires-clause-tree : goal.take-requires-clause-tree
take-requires-clause-tree c =
    let place = place_of c.args.self.now.places c.args.net in
    let there = past-tree c.args.past.now c.entries.result.now place c.in-Some.tree.now c.entries.ensures c.in-Some.ensures in
    tree-shape c.args.capacity.now c.args.past.now place c.in-Some.tree.now c.requires.legal there
    ∙ sym c.requires.stands.loads.shape ∙ sym (ap (λ (r : ReplicaView). r.loads.shape) c.self.view_is)

pub take-requires-clause-share : goal.take-requires-clause-share
take-requires-clause-share c =
    let h = c.args.past.now in
    let place = place_of c.args.self.now.places c.args.net in
    let there = past-tree h c.entries.result.now place c.in-Some.tree.now c.entries.ensures c.in-Some.ensures in
    let shape = tree-shape c.args.capacity.now h place c.in-Some.tree.now c.requires.legal there in
    let stands = subst (λ (r : ReplicaView). StandsFor c.args.capacity.now h r) (sym c.self.view_is) c.requires.stands in
    share-release c.args.capacity.now h (seen c.self.inside) c.args.net c.in-Some.tree.now stands c.shape.ensures.tree shape c.requires.net
    (sym (c.requires.stands.places c.args.net).tree_there ∙ there)

pub returns-clause-lifted : goal.returns-clause-lifted
returns-clause-lifted c = λ always.
    let h = c.args.past.now in
    let there = past-tree h c.entries.result.now (place_of c.args.self.now.places c.args.net) c.in-Some.tree.now c.entries.ensures c.in-Some.ensures in
    let stands = subst (λ (r : ReplicaView). StandsFor c.args.capacity.now h r) (sym c.self.view_is) c.requires.stands in
    lifts c.args.capacity.now h c.args.net c.in-Some.tree.now (seen c.self.inside) c.take.new.self stands c.requires.net
    (sym (c.requires.stands.places c.args.net).tree_there ∙ there) c.take.ensures.loads
