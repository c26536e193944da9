use Rattle.std.proofs.Common.{◌≡◌, Some, take, refl, ap, sym, subst, ◌∙◌, arith}
use Rattle.std.proofs.lemmas.Bool.Decides.{nat_tests}
use Rattle.std.proofs.lemmas.Option.{same_Some}
use Rattle.gr_base.specs.Trees.{TreeView}
use Rattle.grid_demand.specs.LoadSums.{LoadsView}
use Rattle.book_state.specs.Books.{AreLoadsOf, IsIdle}
use Rattle.book_state.specs.Replicas.{IsClaimed, IsReleased}
use Rattle.book_state.specs.declared.entry.Call.{Call}
use Rattle.book_state.proofs.ReplicaSteps.{claim-in_range}
use Rattle.book_state.proofs.StandSteps.{released-held}
use Rattle.book_state.proofs.StillSteps.{noted-claim, noted-release, noted-idle}
use Rattle.book_state.proofs.replica.Replica.note_entry.Goals as goal

pub note_tree-requires-clause-tree : goal.note_tree-requires-clause-tree
note_tree-requires-clause-tree c =
    let is : IsClaimed c.args.history.now c.args.place c.in-Claim.claim =
    record { e = c.entry-entry.result.now; there = c.entry-entry.ensures.entry; call = c.in-Claim.is; reply = c.in-Claimed.is } in
    (claim-in_range c.args.capacity.now c.args.history.now c.args.place c.in-Claim.claim c.requires.legal is).shape

pub returns-in_ok-note_tree-in-Claimed : goal.returns-in_ok-note_tree-in-Claimed
returns-in_ok-note_tree-in-Claimed c = λ ok first are.
    let h = c.args.history.now in
    let l = c.loads-loads.result.now in
    let is : IsClaimed h c.args.place c.in-Claim.claim =
    record { e = c.entry-entry.result.now; there = c.entry-entry.ensures.entry; call = c.in-Claim.is; reply = c.in-Claimed.is } in
    let of : AreLoadsOf c.args.capacity.now (take c.args.place h) l =
    subst (λ (l : LoadsView). AreLoadsOf c.args.capacity.now (take c.args.place h) l) (sym c.loads-loads.ensures) c.requires.stands.loads in
    let noted = c.in_ok-note_tree-in-Claimed.ensures in
    noted-claim c.args.capacity.now c.args.sought.now.net c.args.sought.now.window first h c.args.place c.in-Claim.claim l c.args.touches.now.items c.note_tree.new.touches.items c.requires.legal is of
    (λ same. let apart = c.if-claim-sought.false in absurd (grind (arith, nat_tests, same, apart))) noted.tree noted.adds noted.noted are

pub returns-in_default : goal.returns-in_default
returns-in_default c = λ always first are.
    noted-idle c.args.capacity.now c.args.sought.now.net c.args.sought.now.window first c.args.history.now c.args.place c.entry-entry.result.now c.args.touches.now.items c.args.touches.now.items c.entry-entry.ensures.entry
    (subst (λ (k : Call). IsIdle k c.entry-entry.result.now.reply) (sym c.in-Claim.is) c.in_default.not-Claimed) refl are

pub note_tree-requires-in-Released-clause-tree : goal.note_tree-requires-in-Released-clause-tree
note_tree-requires-in-Released-clause-tree c =
    let h = c.args.history.now in
    let is : IsReleased h c.args.place c.in-Release.freed =
    record { e = c.entry-entry.result.now; there = c.entry-entry.ensures.entry; call = c.in-Release.is; reply = c.in-Released.is } in
    let held = released-held c.args.capacity.now h c.args.place c.in-Release.freed c.args.self.now c.requires.legal c.requires.stands is in
    let same : c.in-Some.tree.now ≡ held.t = same_Some c.in-Some.tree.now held.t (c.in-Some.ensures ∙ held.tree_there) in
    ap (λ (t : TreeView). t.shape) same ∙ held.shape

pub returns-in_ok-note_tree-in-Released : goal.returns-in_ok-note_tree-in-Released
returns-in_ok-note_tree-in-Released c = λ ok first are.
    let h = c.args.history.now in
    let l = c.loads-loads.result.now in
    let is : IsReleased h c.args.place c.in-Release.freed =
    record { e = c.entry-entry.result.now; there = c.entry-entry.ensures.entry; call = c.in-Release.is; reply = c.in-Released.is } in
    let held = released-held c.args.capacity.now h c.args.place c.in-Release.freed c.args.self.now c.requires.legal c.requires.stands is in
    let same : c.in-Some.tree.now ≡ held.t = same_Some c.in-Some.tree.now held.t (c.in-Some.ensures ∙ held.tree_there) in
    let of : AreLoadsOf c.args.capacity.now (take c.args.place h) l =
    subst (λ (l : LoadsView). AreLoadsOf c.args.capacity.now (take c.args.place h) l) (sym c.loads-loads.ensures) c.requires.stands.loads in
    let noted = c.in_ok-note_tree-in-Released.ensures in
    noted-release c.args.capacity.now c.args.sought.now.net c.args.sought.now.window first h c.args.place c.in-Release.freed c.in-Some.tree.now l c.args.touches.now.items c.note_tree-in-Released.new.touches.items
    c.requires.legal is of (λ same. let apart = c.if-freed-sought.false in absurd (grind (arith, nat_tests, same, apart))) noted.tree (ap (λ (t : TreeView). t.shape) same ∙ held.shape)
    (held.before ∙ ap (λ (t : TreeView). Some t) (sym same)) noted.adds noted.noted are

pub returns-in_default-reply : goal.returns-in_default-reply
returns-in_default-reply c = λ always first are.
    noted-idle c.args.capacity.now c.args.sought.now.net c.args.sought.now.window first c.args.history.now c.args.place c.entry-entry.result.now c.args.touches.now.items c.args.touches.now.items c.entry-entry.ensures.entry
    (subst (λ (k : Call). IsIdle k c.entry-entry.result.now.reply) (sym c.in-Release.is) c.in_default-reply.not-Released) refl are
