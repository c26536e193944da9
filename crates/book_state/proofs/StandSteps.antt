-- Replicas that stand for longer and longer histories.
use Rattle.std.proofs.Common.{◌≡◌, ℕ, zero, suc, ◌+◌, ◌<◌, ◌≤◌, true, false, List, [], ◌∷◌, ◌++◌, length, take, Option, Some, None, slice_get, slice_set, replicate, IsTrue, refl, sym, ap, subst, ◌∙◌, arith, length-set}
use Rattle.std.proofs.lemmas.Bool.{both_ways}
use Rattle.std.proofs.lemmas.List.{length_push, length-replicate, take_all}
use Rattle.std.proofs.lemmas.Option.{none-some, same_Some}
use Rattle.gr_base.proofs.TreeEdges.{tree-grid_edges}
use Rattle.gr_base.specs.Grid.{has_edge, is_wire}
use Rattle.gr_base.specs.Limits.{most_nets}
use Rattle.gr_base.specs.Trees.{TreeView, IsTree}
use Rattle.gr_base.specs.declared.grid.Edge.{Edge}
use Rattle.gr_base.specs.declared.grid.Shape.{Shape}
use Rattle.grid_demand.proofs.LoadSteps.{tree-edge}
use Rattle.grid_demand.proofs.OperationLemmas.{IsWireOf, demand-added, demand-taken, marks-marked, demand-none, marks-none}
use Rattle.grid_demand.specs.LoadSums.{LoadsView, marks_at, no_loads, share, added, taken, marked, mark_of, HasRoom, HasShare}
use Rattle.grid_demand.specs.Overfull.{OverfullView, AreOverfull}
use Rattle.grid_demand.specs.Tables.{CapacityView, capacity_at, need_at, IsCapacity}
use Rattle.book_state.proofs.BookSteps as steps
use Rattle.book_state.proofs.PlaceSteps.{places-same, places-change, places-none, last-place, no-place}
use Rattle.book_state.proofs.ReplicaSteps.{take-entry, length-before, place-whole, claimed-free, released-booked, booked-claim, booked-claim_other, booked-release, booked-release_other, booked-mark, idle-by}
use Rattle.book_state.specs.Books.{nets_of, booked, share_of, demand, IsCall, IsLegal, AreLoadsOf, IsIdle}
use Rattle.book_state.specs.Entries.{is_mark, is_mark_call, is_mark_in, is_mark_at}
use Rattle.book_state.specs.Replicas.{ReplicaView, tree_of, tree_of_call, tree_at_place, place_of, IsPlace, StandsFor, IsClaimed, IsReleased}
use Rattle.book_state.specs.declared.entry.Call.{Call}
use Rattle.book_state.specs.declared.entry.Call.TheVariants.{Claim as Claims, Release, Mark}
use Rattle.book_state.specs.declared.entry.Claim.{Claim}
use Rattle.book_state.specs.declared.entry.Entry.{Entry}

-- the view of a replica by its fields
abbrev pub replica_of : ℕ → List (Option ℕ) → LoadsView → ReplicaView
replica_of front places loads = record { front = front; places = places; loads = loads }

-- a wire edge of the design is one of the loads
pub wire_of : (c : CapacityView) (l : LoadsView) (e : Edge) → l.shape ≡ c.shape → IsTrue (has_edge c.shape e) → IsTrue (is_wire e) → IsWireOf l.shape e
wire_of c l e same edge wire = record { edge = subst (λ (g : Shape). IsTrue (has_edge g e)) (sym same) edge; wire = wire }

-- loads after an entry that changes no booking and isn't a mark
loads-idle : (c : CapacityView) (h : List Entry) (e : Entry) (l : LoadsView) → AreLoadsOf c h l → ((net : ℕ) → booked (h ++ e ∷ []) net ≡ booked h net) → is_mark e ≡ false → AreLoadsOf c (h ++ e ∷ []) l
loads-idle c h e l of same other = record {
  shape = of.shape;
  demand = λ x edge wire. of.demand x edge wire ∙ sym (steps.demand-same c h (h ++ e ∷ []) x same);
  marks = λ x edge wire. of.marks x edge wire ∙ sym (steps.marks-idle c h e x other);
}

loads-mark : (c : CapacityView) (h : List Entry) (e : Entry) (l new : LoadsView) → AreLoadsOf c h l → new ≡ marked c l → ((net : ℕ) → booked (h ++ e ∷ []) net ≡ booked h net) → is_mark e ≡ true → AreLoadsOf c (h ++ e ∷ []) new
loads-mark c h e l new of is same mark =
    subst (λ (v : LoadsView). AreLoadsOf c (h ++ e ∷ []) v) (sym is) (record {
      shape = of.shape;
      demand = λ x edge wire. of.demand x edge wire ∙ sym (steps.demand-same c h (h ++ e ∷ []) x same);
      marks = λ x edge wire.
          marks-marked c l x (wire_of c l x of.shape edge wire)
          ∙ ap (λ (n : ℕ). mark_of n (capacity_at c x) (marks_at l x)) (of.demand x edge wire)
          ∙ ap (λ (n : ℕ). mark_of (demand c h x) (capacity_at c x) n) (of.marks x edge wire)
          ∙ sym (steps.marks-mark c h e x mark);
    })

loads-claim : (c : CapacityView) (h : List Entry) (e : Entry) (l new : LoadsView) (net : ℕ) (t : TreeView) → AreLoadsOf c h l → new ≡ added c net t l →
    net < nets_of c → booked h net ≡ None → booked (h ++ e ∷ []) net ≡ Some t →
    ((other : ℕ) → (other ≡ net → ⊥) → booked (h ++ e ∷ []) other ≡ booked h other) → is_mark e ≡ false → AreLoadsOf c (h ++ e ∷ []) new
loads-claim c h e l new net t of is within before after same other =
    subst (λ (v : LoadsView). AreLoadsOf c (h ++ e ∷ []) v) (sym is) (record {
      shape = of.shape;
      demand = λ x edge wire.
          let change = steps.demand-change c h (h ++ e ∷ []) x net within same in
          let none : share_of c net (booked h net) x ≡ 0 = ap (λ (o : Option TreeView). share_of c net o x) before in
          let all : share_of c net (booked (h ++ e ∷ []) net) x ≡ share c net t x = ap (λ (o : Option TreeView). share_of c net o x) after in
          let old = of.demand x edge wire in
          demand-added c net t l x (wire_of c l x of.shape edge wire) ∙ omega (arith, change, none, all, old);
      marks = λ x edge wire. of.marks x edge wire ∙ sym (steps.marks-idle c h e x other);
    })

pub loads-release : (c : CapacityView) (h : List Entry) (e : Entry) (l new : LoadsView) (net : ℕ) (t : TreeView) → AreLoadsOf c h l → new ≡ taken c net t l →
    net < nets_of c → booked h net ≡ Some t → booked (h ++ e ∷ []) net ≡ None →
    ((other : ℕ) → (other ≡ net → ⊥) → booked (h ++ e ∷ []) other ≡ booked h other) → is_mark e ≡ false → AreLoadsOf c (h ++ e ∷ []) new
loads-release c h e l new net t of is within before after same other =
    subst (λ (v : LoadsView). AreLoadsOf c (h ++ e ∷ []) v) (sym is) (record {
      shape = of.shape;
      demand = λ x edge wire.
          let change = steps.demand-change c h (h ++ e ∷ []) x net within same in
          let none : share_of c net (booked (h ++ e ∷ []) net) x ≡ 0 = ap (λ (o : Option TreeView). share_of c net o x) after in
          let all : share_of c net (booked h net) x ≡ share c net t x = ap (λ (o : Option TreeView). share_of c net o x) before in
          let old = of.demand x edge wire in
          demand-taken c net t l x (wire_of c l x of.shape edge wire) ∙ omega (arith, change, none, all, old);
      marks = λ x edge wire. of.marks x edge wire ∙ sym (steps.marks-idle c h e x other);
    })

-- what a replica is after one more entry
abbrev Pushed : CapacityView → List Entry → Entry → ReplicaView → Type 0
Pushed c h e r = StandsFor c (h ++ e ∷ []) r

push-idle : (c : CapacityView) (h : List Entry) (e : Entry) (r : ReplicaView) (front : ℕ) (new : LoadsView) → StandsFor c h r → front ≡ length h + 1 →
    ((net : ℕ) → booked (h ++ e ∷ []) net ≡ booked h net) → AreLoadsOf c (h ++ e ∷ []) new → Pushed c h e (replica_of front r.places new)
push-idle c h e r front new stands long same loads = record {
  front = long ∙ sym (length_push h e);
  nets = stands.nets;
  places = places-same h e r.places stands.places same;
  loads = loads;
}

push-change : (c : CapacityView) (h : List Entry) (e : Entry) (r : ReplicaView) (front net : ℕ) (place : Option ℕ) (new : LoadsView) → StandsFor c h r → front ≡ length h + 1 →
    net < nets_of c → ((other : ℕ) → (other ≡ net → ⊥) → booked (h ++ e ∷ []) other ≡ booked h other) →
    IsPlace (h ++ e ∷ []) place (booked (h ++ e ∷ []) net) → AreLoadsOf c (h ++ e ∷ []) new →
    Pushed c h e (replica_of front (slice_set r.places net place) new)
push-change c h e r front net place new stands long within same there loads = record {
  front = long ∙ sym (length_push h e);
  nets = length-set r.places net place ∙ stands.nets;
  places = places-change h e r.places net place stands.places (let nets = stands.nets in omega (arith, nets)) same there;
  loads = loads;
}

is_mark-claim : (e : Entry) (claim : Claim) → e.call ≡ Claims claim → is_mark e ≡ false
is_mark-claim e claim call = ap (λ (k : Call). is_mark_call k) call

pub is_mark-release : (e : Entry) (net : ℕ) → e.call ≡ Release net → is_mark e ≡ false
is_mark-release e net call = ap (λ (k : Call). is_mark_call k) call

is_mark-mark : (e : Entry) → e.call ≡ Mark → is_mark e ≡ true
is_mark-mark e call = ap (λ (k : Call). is_mark_call k) call

-- the four steps of a replica, over a whole history
abbrev Step : CapacityView → List Entry → ℕ → ReplicaView → Type 0
Step c h place r = StandsFor c (take (place + 1) h) r

step : (c : CapacityView) (h : List Entry) (place : ℕ) (e : Entry) (r : ReplicaView) → slice_get h place ≡ Some e → StandsFor c (take place h ++ e ∷ []) r → Step c h place r
step c h place e r there stands = subst (λ (k : List Entry). StandsFor c k r) (sym (take-entry h place e there)) stands

pub step-claim : (c : CapacityView) (h : List Entry) (place : ℕ) (claim : Claim) (r : ReplicaView) (new : LoadsView) → IsLegal c h → StandsFor c (take place h) r →
    IsClaimed h place claim → new ≡ added c claim.net claim.tree r.loads → Step c h place (replica_of (place + 1) (slice_set r.places claim.net (Some place)) new)
step-claim c h place claim r new legal stands is loads =
    let before = take place h in
    let e = is.e in
    let right = legal.right place e is.there in
    let long = length-before h place e is.there in
    let within : claim.net < nets_of c = let in_range = subst (λ (k : Call). IsCall c (length before) k) is.call right.call in in_range.net in
    let free = claimed-free c before e claim right is.call is.reply in
    let after = booked-claim before e claim is.call is.reply in
    let others : (other : ℕ) → (other ≡ claim.net → ⊥) → booked (before ++ e ∷ []) other ≡ booked before other =
    λ other apart. booked-claim_other before e claim other is.call is.reply apart in
    step c h place e (replica_of (place + 1) (slice_set r.places claim.net (Some place)) new) is.there
    (push-change c before e r (place + 1) claim.net (Some place) new stands (omega (arith, long)) within others
    (last-place before e claim place (sym long) is.call after)
    (loads-claim c before e r.loads new claim.net claim.tree stands.loads loads within free after others (is_mark-claim e claim is.call)))

pub step-release : (c : CapacityView) (h : List Entry) (place net : ℕ) (t : TreeView) (r : ReplicaView) (new : LoadsView) → IsLegal c h → StandsFor c (take place h) r →
    IsReleased h place net → tree_at_place h (place_of r.places net) ≡ Some t → new ≡ taken c net t r.loads → Step c h place (replica_of (place + 1) (slice_set r.places net None) new)
step-release c h place net t r new legal stands is tree_is loads =
    let before = take place h in
    let e = is.e in
    let right = legal.right place e is.there in
    let long = length-before h place e is.there in
    let within : net < nets_of c = subst (λ (k : Call). IsCall c (length before) k) is.call right.call in
    let held : booked before net ≡ Some t = sym (place-whole h place (place_of r.places net) (booked before net) (stands.places net)) ∙ tree_is in
    let after = booked-release before e net is.call is.reply in
    let others : (other : ℕ) → (other ≡ net → ⊥) → booked (before ++ e ∷ []) other ≡ booked before other =
    λ other apart. booked-release_other before e net other is.call is.reply apart in
    step c h place e (replica_of (place + 1) (slice_set r.places net None) new) is.there
    (push-change c before e r (place + 1) net None new stands (omega (arith, long)) within others
    (no-place (before ++ e ∷ []) net after)
    (loads-release c before e r.loads new net t stands.loads loads within held after others (is_mark-release e net is.call)))

pub step-mark : (c : CapacityView) (h : List Entry) (place : ℕ) (e : Entry) (r : ReplicaView) (new : LoadsView) → StandsFor c (take place h) r →
    slice_get h place ≡ Some e → e.call ≡ Mark → new ≡ marked c r.loads → Step c h place (replica_of (place + 1) r.places new)
step-mark c h place e r new stands there call loads =
    let before = take place h in
    let long = length-before h place e there in
    let same : (net : ℕ) → booked (before ++ e ∷ []) net ≡ booked before net = λ net. booked-mark before e net call in
    step c h place e (replica_of (place + 1) r.places new) there
    (push-idle c before e r (place + 1) new stands (omega (arith, long)) same (loads-mark c before e r.loads new stands.loads loads same (is_mark-mark e call)))

mark-call : (call : Call) → is_mark_call call ≡ true → call ≡ Mark
mark-call (Claims claim) is = absurd (both_ways false refl is)
mark-call (Release net) is = absurd (both_ways false refl is)
mark-call Mark is = refl

pub mark-entry : (o : Option Entry) → is_mark_in o ≡ true → (e : Entry) × (o ≡ Some e) × (e.call ≡ Mark)
mark-entry None is = absurd (both_ways false refl is)
mark-entry (Some e) is = (e, refl, mark-call e.call is)

-- the last entry of a history is a mark
pub step-last : (c : CapacityView) (h : List Entry) (r : ReplicaView) (new : LoadsView) (front : ℕ) → StandsFor c (take r.front h) r →
    r.front + 1 ≡ length h → is_mark_at h r.front ≡ true → new ≡ marked c r.loads → front ≡ length h → StandsFor c h (replica_of front r.places new)
step-last c h r new front stands last mark marks all =
    let e = mark-entry (slice_get h r.front) mark in
    let stepped : StandsFor c (take (r.front + 1) h) (replica_of (r.front + 1) r.places new) = step-mark c h r.front e.0 r new stands e.1 e.2 marks in
    subst (λ (k : List Entry). StandsFor c k (replica_of front r.places new)) (take_all (r.front + 1) h (omega (arith, last)))
    (subst (λ (n : ℕ). StandsFor c (take (r.front + 1) h) (replica_of n r.places new)) (last ∙ sym all) stepped)

-- a mark leaves the edges that are over
pub still-over : (c : CapacityView) (l new : LoadsView) (over : OverfullView) → AreOverfull c l over → new ≡ marked c l → AreOverfull c new over
still-over c l new over are is =
    subst (λ (v : LoadsView). AreOverfull c v over) (sym is) (record { long = are.long; each = are.each; total = are.total })

is_mark-idle : (call : Call) (e : Entry) → e.call ≡ call → IsIdle call e.reply → is_mark e ≡ false
is_mark-idle (Claims claim) e is idle = is_mark-claim e claim is
is_mark-idle (Release net) e is idle = is_mark-release e net is
is_mark-idle Mark e is idle = absurd idle

pub step-idle : (c : CapacityView) (h : List Entry) (place : ℕ) (e : Entry) (r : ReplicaView) → StandsFor c (take place h) r →
    slice_get h place ≡ Some e → IsIdle e.call e.reply → Step c h place (replica_of (place + 1) r.places r.loads)
step-idle c h place e r stands there idle =
    let before = take place h in
    let long = length-before h place e there in
    let same : (net : ℕ) → booked (before ++ e ∷ []) net ≡ booked before net =
    λ net. steps.booked-idle before e net (idle-by net (booked before net) e.call e.reply idle) in
    step c h place e (replica_of (place + 1) r.places r.loads) there
    (push-idle c before e r (place + 1) r.loads stands (omega (arith, long)) same (loads-idle c before e r.loads stands.loads same (is_mark-idle e.call e refl idle)))

-- what the loads' operations ask
pub room-claim : (c : CapacityView) (h : List Entry) (r : ReplicaView) (t : TreeView) → StandsFor c h r → IsCapacity c → length r.places ≤ most_nets → IsTree t → t.shape ≡ c.shape → HasRoom r.loads t
room-claim c h r t stands tables few tree same = λ e inside wire.
    let edge = subst (λ (g : Shape). IsTrue (has_edge g e)) same (tree-edge t e (tree-grid_edges t tree) inside) in
    let nets : nets_of c ≤ most_nets = let long = stands.nets in omega (arith, long, few) in
    let demand_is = stands.loads.demand e edge wire in
    let most = steps.demand-most c h e tables nets in
    omega (arith, demand_is, most)

pub share-release : (c : CapacityView) (h : List Entry) (r : ReplicaView) (net : ℕ) (t : TreeView) → StandsFor c h r → IsTree t → t.shape ≡ c.shape → net < nets_of c → booked h net ≡ Some t → HasShare c net t r.loads
share-release c h r net t stands tree same within held = λ e inside wire.
    let edge = subst (λ (g : Shape). IsTrue (has_edge g e)) same (tree-edge t e (tree-grid_edges t tree) inside) in
    let demand_is = stands.loads.demand e edge wire in
    let part = steps.demand-part c h e net within in
    let all : share_of c net (booked h net) e ≡ share c net t e = ap (λ (o : Option TreeView). share_of c net o e) held in
    let whole : share c net t e ≡ need_at c net e = rw inside refl in
    omega (arith, demand_is, part, all, whole)

-- a replica of nothing
pub stands-nothing : (c : CapacityView) (places : List (Option ℕ)) (l : LoadsView) → places ≡ replicate (nets_of c) None → l ≡ no_loads c.shape → StandsFor c [] (replica_of 0 places l)
stands-nothing c places l none loads = record {
  front = refl;
  nets = ap length none ∙ length-replicate (nets_of c) None;
  places = places-none (nets_of c) places none;
  loads = subst (λ (v : LoadsView). AreLoadsOf c [] v) (sym loads) (record {
    shape = refl;
    demand = λ x edge wire. demand-none c.shape x (record { edge = edge; wire = wire }) ∙ sym (steps.demand-none c x);
    marks = λ x edge wire. marks-none c.shape x (record { edge = edge; wire = wire }) ∙ sym (steps.marks-none c x);
  });
}

-- the trees of a legal history's claims lie in the design's grid
pub tree-shape : (c : CapacityView) (h : List Entry) (place : Option ℕ) (t : TreeView) → IsLegal c h → tree_at_place h place ≡ Some t → t.shape ≡ c.shape
tree-shape c h None t legal is = absurd (none-some t is)
tree-shape c h (Some p) t legal is = at (slice_get h p) refl is
  where
    of_call : (e : Entry) (call : Call) → slice_get h p ≡ Some e → e.call ≡ call → tree_of_call call ≡ Some t → t.shape ≡ c.shape
    of_call e (Claims claim) there call is =
        let in_range = subst (λ (k : Call). IsCall c (length (take p h)) k) call (legal.right p e there).call in
        ap (λ (x : TreeView). x.shape) (sym (same_Some claim.tree t is)) ∙ in_range.shape
    of_call e (Release net) there call is = absurd (none-some t is)
    of_call e Mark there call is = absurd (none-some t is)

    at : (o : Option Entry) → slice_get h p ≡ o → tree_of o ≡ Some t → t.shape ≡ c.shape
    at None there is = absurd (none-some t is)
    at (Some e) there is = of_call e e.call there refl is

-- the tree of a net that is released
pub record IsHeld (c : CapacityView) (h : List Entry) (place net : ℕ) (r : ReplicaView) : Type 0 where
  pub t : TreeView
  pub tree_there : tree_at_place h (place_of r.places net) ≡ Some t
  pub before : booked (take place h) net ≡ Some t
  pub shape : t.shape ≡ c.shape

pub released-held : (c : CapacityView) (h : List Entry) (place net : ℕ) (r : ReplicaView) → IsLegal c h → StandsFor c (take place h) r → IsReleased h place net → IsHeld c h place net r
released-held c h place net r legal stands is =
    let tree = released-booked c (take place h) is.e net (legal.right place is.e is.there) is.call is.reply in
    let there : tree_at_place h (place_of r.places net) ≡ Some tree.0 = place-whole h place (place_of r.places net) (booked (take place h) net) (stands.places net) ∙ tree.1 in
    record { t = tree.0; tree_there = there; before = tree.1; shape = tree-shape c h (place_of r.places net) tree.0 legal there }

-- a replica of a history stands for the first part of each history that begins with it
pub stands-first : (c : CapacityView) (h whole : List Entry) (r : ReplicaView) → StandsFor c h r → take (length h) whole ≡ h → StandsFor c (take r.front whole) r
stands-first c h whole r stands part =
    subst (λ (k : List Entry). StandsFor c k r) (sym (ap (λ (n : ℕ). take n whole) stands.front ∙ part)) stands

take-own : (n : ℕ) (h : List Entry) → take (length (take n h)) h ≡ take n h
take-own zero h = refl
take-own (suc n) [] = refl
take-own (suc n) (e ∷ h) = ap (λ (k : List Entry). e ∷ k) (take-own n h)

-- and one of a history's first part for as much of it as the replica's front says
pub stands-part : (c : CapacityView) (h : List Entry) (n : ℕ) (r : ReplicaView) → StandsFor c (take n h) r → StandsFor c (take r.front h) r
stands-part c h n r stands = stands-first c (take n h) h r stands (take-own n h)
