use Rattle.std.proofs.Common.{◌≡◌, ℕ, ◌+◌, List, Option, length, take, Some, sym, ap, subst, ◌∙◌, arith}
use Rattle.std.proofs.lemmas.Bool.{both_ways}
use Rattle.std.proofs.lemmas.Option.{none-some, same_Some}
use Rattle.gr_base.specs.Trees.{TreeView}
use Rattle.book_state.specs.Replicas.{ReplicaView, StandsFor, tree_at_place, place_of}
use Rattle.book_state.specs.ReplicaStore.{seen}
use Rattle.book_state.proofs.ReplicaSteps.{one-shape, release-in_range}
use Rattle.book_state.proofs.StandSteps.{replica_of, released-held, step-release, share-release}
use Rattle.book_state.proofs.replica.Replica.free.Goals as goal

pub unreachable-requires : goal.unreachable-requires
unreachable-requires c =
    let held = released-held c.args.capacity.now c.args.history.now c.args.place c.args.net c.args.self.now c.requires.legal c.requires.stands c.requires.release in
    none-some held.t (c.in_default.ensures ∙ held.tree_there)

pub prove-unreachable-requires : goal.prove-unreachable-requires
prove-unreachable-requires c =
    let held = released-held c.args.capacity.now c.args.history.now c.args.place c.args.net c.args.self.now c.requires.legal c.requires.stands c.requires.release in
    let same : c.in-Some.tree.now ≡ held.t = same_Some c.in-Some.tree.now held.t (c.in-Some.ensures ∙ held.tree_there) in
    both_ways c.eq-fits.result c.if-prove.true
    (c.eq-fits.ensures ∙ one-shape c.shape.result c.shape-2.result (c.shape.ensures.shape ∙ ap (λ (t : TreeView). t.shape) same ∙ held.shape ∙ sym c.shape-2.ensures.shape))

pub take-requires-clause-tree : goal.take-requires-clause-tree
take-requires-clause-tree c =
    let held = released-held c.args.capacity.now c.args.history.now c.args.place c.args.net c.args.self.now c.requires.legal c.requires.stands c.requires.release in
    let same : c.in-Some.tree.now ≡ held.t = same_Some c.in-Some.tree.now held.t (c.in-Some.ensures ∙ held.tree_there) in
    ap (λ (t : TreeView). t.shape) same ∙ held.shape ∙ sym c.requires.stands.loads.shape ∙ sym (ap (λ (r : ReplicaView). r.loads.shape) c.self.view_is)

pub take-requires-clause-share : goal.take-requires-clause-share
take-requires-clause-share c =
    let history = c.args.history.now in
    let held = released-held c.args.capacity.now history c.args.place c.args.net c.args.self.now c.requires.legal c.requires.stands c.requires.release in
    let same : c.in-Some.tree.now ≡ held.t = same_Some c.in-Some.tree.now held.t (c.in-Some.ensures ∙ held.tree_there) in
    let stands = subst (λ (r : ReplicaView). StandsFor c.args.capacity.now (take c.args.place history) r) (sym c.self.view_is) c.requires.stands in
    share-release c.args.capacity.now (take c.args.place history) (seen c.self.inside) c.args.net c.in-Some.tree.now stands c.shape.ensures.tree
    (ap (λ (t : TreeView). t.shape) same ∙ held.shape)
    (release-in_range c.args.capacity.now history c.args.place c.args.net c.requires.legal c.requires.release)
    (held.before ∙ ap (λ (t : TreeView). Some t) (sym same))

pub clear-requires : goal.clear-requires
clear-requires c =
    let within = release-in_range c.args.capacity.now c.args.history.now c.args.place c.args.net c.requires.legal c.requires.release in
    let nets = c.requires.stands.nets in
    let same = ap (λ (r : ReplicaView). length r.places) c.self.view_is in
    omega (arith, within, nets, same)

pub returns : goal.returns
returns c =
    let history = c.args.history.now in
    let held = released-held c.args.capacity.now history c.args.place c.args.net c.args.self.now c.requires.legal c.requires.stands c.requires.release in
    let same : c.in-Some.tree.now ≡ held.t = same_Some c.in-Some.tree.now held.t (c.in-Some.ensures ∙ held.tree_there) in
    let stands = subst (λ (r : ReplicaView). StandsFor c.args.capacity.now (take c.args.place history) r) (sym c.self.view_is) c.requires.stands in
    let there = subst (λ (r : ReplicaView). tree_at_place history (place_of r.places c.args.net) ≡ Some held.t) (sym c.self.view_is) held.tree_there in
    let P : List (Option ℕ) → Type 0 = λ places. StandsFor c.args.capacity.now (take (c.args.place + 1) history) (replica_of (c.args.place + 1) places c.take.new.self) in
    subst P (sym c.clear.ensures)
    (step-release c.args.capacity.now history c.args.place c.args.net c.in-Some.tree.now (seen c.self.inside) c.take.new.self c.requires.legal stands c.requires.release
    (there ∙ ap (λ (t : TreeView). Some t) (sym same)) c.take.ensures.loads)
