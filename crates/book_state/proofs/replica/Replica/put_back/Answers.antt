use Rattle.std.proofs.Common.{sym, ap, subst, ◌∙◌}
use Rattle.std.proofs.lemmas.Bool.{both_ways}
use Rattle.book_state.specs.Lifted.{IsLifted}
use Rattle.book_state.specs.Replicas.{ReplicaView, place_of}
use Rattle.book_state.specs.ReplicaStore.{seen}
use Rattle.book_state.proofs.LiftSteps.{puts-back, room-back, lifted-shape, past-tree}
use Rattle.book_state.proofs.ReplicaSteps.{one-shape}
use Rattle.book_state.proofs.StandSteps.{tree-shape}
use Rattle.book_state.proofs.replica.Replica.put_back.Goals as goal

pub add-requires-clause-capacity : goal.add-requires-clause-capacity
add-requires-clause-capacity c =
    sym (lifted-shape c.args.capacity.now c.args.past.now c.args.net c.args.self.now c.requires.lifted) ∙ sym (ap (λ (r : ReplicaView). r.loads.shape) c.self.view_is)

pub prove-unreachable-requires : goal.prove-unreachable-requires
prove-unreachable-requires c =
    let h = c.args.past.now in
    let place = place_of c.args.self.now.places c.args.net in
    let shape = tree-shape c.args.capacity.now h place c.in-Some.tree.now c.requires.legal (past-tree h c.entries.result.now place c.in-Some.tree.now c.entries.ensures c.in-Some.ensures) in
    both_ways c.eq-fits.result c.if-prove.true
    (c.eq-fits.ensures ∙ one-shape c.shape.result c.shape-2.result (c.shape.ensures.shape ∙ shape ∙ sym c.shape-2.ensures.shape))

pub add-requires-clause-tree : goal.add-requires-clause-tree
add-requires-clause-tree c =
    let h = c.args.past.now in
    let place = place_of c.args.self.now.places c.args.net in
    tree-shape c.args.capacity.now h place c.in-Some.tree.now c.requires.legal (past-tree h c.entries.result.now place c.in-Some.tree.now c.entries.ensures c.in-Some.ensures)
    ∙ sym (lifted-shape c.args.capacity.now h c.args.net c.args.self.now c.requires.lifted) ∙ sym (ap (λ (r : ReplicaView). r.loads.shape) c.self.view_is)

pub add-requires-clause-room : goal.add-requires-clause-room
add-requires-clause-room c =
    let h = c.args.past.now in
    let place = place_of c.args.self.now.places c.args.net in
    let shape = tree-shape c.args.capacity.now h place c.in-Some.tree.now c.requires.legal (past-tree h c.entries.result.now place c.in-Some.tree.now c.entries.ensures c.in-Some.ensures) in
    let lifted = subst (λ (r : ReplicaView). IsLifted c.args.capacity.now h c.args.net r) (sym c.self.view_is) c.requires.lifted in
    room-back c.args.capacity.now h c.args.net (seen c.self.inside) c.in-Some.tree.now lifted c.shape-2.ensures.tables c.self.invariant.few c.shape.ensures.tree shape

pub returns : goal.returns
returns c =
    let h = c.args.past.now in
    let there = past-tree h c.entries.result.now (place_of c.args.self.now.places c.args.net) c.in-Some.tree.now c.entries.ensures c.in-Some.ensures in
    let lifted = subst (λ (r : ReplicaView). IsLifted c.args.capacity.now h c.args.net r) (sym c.self.view_is) c.requires.lifted in
    puts-back c.args.capacity.now h c.args.net c.in-Some.tree.now (seen c.self.inside) c.add.new.self lifted c.requires.net
    (sym (c.requires.lifted.places c.args.net).tree_there ∙ there) c.add.ensures.loads
