-- What one more entry does to a replica.
use Rattle.std.proofs.Common.{◌≡◌, ◌⊎◌, ℕ, suc, zero, ◌+◌, ◌<◌, inl, inr, Bool, true, false, eqb, ◌&&◌, ◌==◌, List, [], ◌∷◌, ◌++◌, length, take, drop, Option, Some, None, is_some, slice_get, slice_set, if◌then◌else◌, refl, sym, ap, subst, ◌∙◌, arith}
use Rattle.std.proofs.lemmas.Bool.{cases_Bool, both_ways}
use Rattle.std.proofs.lemmas.Bool.Decides.{nat_tests}
use Rattle.std.proofs.lemmas.List.{take-append-drop, length-take-le}
use Rattle.std.proofs.lemmas.Option.{none-some, same_Some, slice_get_within}
use Rattle.gr_base.specs.Trees.{TreeView}
use Rattle.gr_base.specs.declared.grid.Shape.{Shape}
use Rattle.grid_demand.specs.Tables.{CapacityView}
use Rattle.book_state.proofs.BookSteps.{booked-push, booked-idle}
use Rattle.book_state.proofs.HistoryLists.{slice_get-left}
use Rattle.book_state.specs.Books.{nets_of, booked_by, booked, demand, reply_to, reply_to_free, IsClaim, IsCall, IsRight, IsLegal, IsIdle}
use Rattle.book_state.specs.Replicas.{tree_of, tree_at_place, place_of, IsPlace, IsClaimed, IsReleased}
use Rattle.book_state.specs.declared.entry.Call.{Call}
use Rattle.book_state.specs.declared.entry.Call.TheVariants.{Claim as Claims, Release, Mark}
use Rattle.book_state.specs.declared.entry.Claim.{Claim}
use Rattle.book_state.specs.declared.entry.Entry.{Entry}
use Rattle.book_state.specs.declared.entry.Reply.{Reply}
use Rattle.book_state.specs.declared.entry.Reply.TheVariants.{Claimed, Taken, Full, Released, NotBooked, Marked}

-- a first part of a history with one entry more
pub take-entry : (h : List Entry) (p : ℕ) (e : Entry) → slice_get h p ≡ Some e → take (p + 1) h ≡ take p h ++ e ∷ []
take-entry [] p e is = absurd (none-some e is)
take-entry (x ∷ xs) zero e is =
    let same : x ≡ e = same_Some x e is in
    let one : zero + 1 ≡ suc zero = omega arith in
    ap (λ (n : ℕ). take n (x ∷ xs)) one ∙ ap (λ (y : Entry). y ∷ []) same
take-entry (x ∷ xs) (suc p) e is =
    let more : suc p + 1 ≡ suc (p + 1) = omega arith in
    ap (λ (n : ℕ). take n (x ∷ xs)) more ∙ ap (λ (ys : List Entry). x ∷ ys) (take-entry xs p e is)

pub length-before : (h : List Entry) (p : ℕ) (e : Entry) → slice_get h p ≡ Some e → length (take p h) ≡ p
length-before h p e is = let below = slice_get_within h p e is in length-take-le p h (omega arith)

-- the place of a claim stays so as the history grows
pub place-kept : (h rest : List Entry) (place : Option ℕ) (tree : Option TreeView) → IsPlace h place tree → IsPlace (h ++ rest) place tree
place-kept h rest None tree is = record { tree_there = is.tree_there; known = is.known }
place-kept h rest (Some p) None is = absurd (both_ways true is.known refl)
place-kept h rest (Some p) (Some t) is = record {
  tree_there = ap (λ (o : Option Entry). tree_of o) (slice_get-left h rest p (within (slice_get h p) refl is.tree_there)) ∙ is.tree_there;
  known = is.known;
}
  where
    within : (o : Option Entry) → slice_get h p ≡ o → tree_of o ≡ Some t → p < length h
    within None there is = absurd (none-some t is)
    within (Some e) there is = slice_get_within h p e there

pub place-whole : (h : List Entry) (p : ℕ) (place : Option ℕ) (tree : Option TreeView) → IsPlace (take p h) place tree → tree_at_place h place ≡ tree
place-whole h p place tree is =
    let kept = place-kept (take p h) (drop p h) place tree is in
    ap (λ (k : List Entry). tree_at_place k place) (sym (take-append-drop p h)) ∙ kept.tree_there

-- places after one is set
pub place_of-same : (places : List (Option ℕ)) (net : ℕ) (o : Option ℕ) → net < length places → place_of (slice_set places net o) net ≡ o
place_of-same [] net o below = absurd (omega arith)
place_of-same (x ∷ xs) zero o below = refl
place_of-same (x ∷ xs) (suc net) o below = place_of-same xs net o (omega arith)

pub place_of-other : (places : List (Option ℕ)) (net other : ℕ) (o : Option ℕ) → (other ≡ net → ⊥) → place_of (slice_set places net o) other ≡ place_of places other
place_of-other [] net other o apart = refl
place_of-other (x ∷ xs) zero zero o apart = absurd (apart refl)
place_of-other (x ∷ xs) zero (suc other) o apart = refl
place_of-other (x ∷ xs) (suc net) zero o apart = refl
place_of-other (x ∷ xs) (suc net) (suc other) o apart = place_of-other xs net other o (λ is. apart (ap suc is))

-- a net whose claim is answered Claimed wasn't booked
pub claimed-free : (c : CapacityView) (h : List Entry) (e : Entry) (claim : Claim) → IsRight c h e → e.call ≡ Claims claim → e.reply ≡ Claimed → booked h claim.net ≡ None
claimed-free c h e claim right call reply =
    free (booked h claim.net) refl (sym reply ∙ right.reply ∙ ap (λ (k : Call). reply_to c h k) call)
  where
    free : (o : Option TreeView) → booked h claim.net ≡ o → Claimed ≡ (if is_some (booked h claim.net) then Taken else reply_to_free c (demand c h) claim claim.slack) → booked h claim.net ≡ None
    free None is said = is
    free (Some t) is said =
        let taken : Claimed ≡ Taken = said ∙ ap (λ (o : Option TreeView). if is_some o then Taken else reply_to_free c (demand c h) claim claim.slack) is in
        absurd (cc)

pub released-booked : (c : CapacityView) (h : List Entry) (e : Entry) (net : ℕ) → IsRight c h e → e.call ≡ Release net → e.reply ≡ Released → (t : TreeView) × (booked h net ≡ Some t)
released-booked c h e net right call reply =
    held (booked h net) refl (sym reply ∙ right.reply ∙ ap (λ (k : Call). reply_to c h k) call)
  where
    held : (o : Option TreeView) → booked h net ≡ o → Released ≡ (if is_some (booked h net) then Released else NotBooked) → (t : TreeView) × (booked h net ≡ Some t)
    held None is said =
        let none : Released ≡ NotBooked = said ∙ ap (λ (o : Option TreeView). if is_some o then Released else NotBooked) is in
        absurd (cc)
    held (Some t) is said = (t, is)

same-net : (a b : ℕ) → a ≡ b → (a == b) ≡ true
same-net a b is = grind (arith, nat_tests)

other-net : (a b : ℕ) → (b ≡ a → ⊥) → (a == b) ≡ false
other-net a b apart = grind (arith, nat_tests)

pub is_same : (a b : ℕ) → (a ≡ b) ⊎ (a ≡ b → ⊥)
is_same a b = elim (cases_Bool (a == b)) [
  | inl same ↦ inl (grind (arith, nat_tests))
  | inr apart ↦ inr (λ is. grind (arith, nat_tests))
]

-- two grids that are one pass the test
pub one-shape : (a b : Shape) → a ≡ b → (eqb a.columns b.columns && (eqb a.rows b.rows && eqb a.layers b.layers)) ≡ true
one-shape a b is = subst (λ (g : Shape). (eqb a.columns g.columns && (eqb a.rows g.rows && eqb a.layers g.layers)) ≡ true) is (grind (arith, nat_tests))

-- a claim of a legal history is in range
pub claim-in_range : (c : CapacityView) (h : List Entry) (place : ℕ) (claim : Claim) → IsLegal c h → IsClaimed h place claim → IsClaim c place claim
claim-in_range c h place claim legal is =
    let right = legal.right place is.e is.there in
    let in_range = subst (λ (k : Call). IsCall c (length (take place h)) k) is.call right.call in
    subst (λ (n : ℕ). IsClaim c n claim) (length-before h place is.e is.there) in_range

pub release-in_range : (c : CapacityView) (h : List Entry) (place net : ℕ) → IsLegal c h → IsReleased h place net → net < nets_of c
release-in_range c h place net legal is = subst (λ (k : Call). IsCall c (length (take place h)) k) is.call (legal.right place is.e is.there).call

-- bookings after a claim is answered Claimed
by-claim : (net : ℕ) (tree : Option TreeView) (call : Call) (reply : Reply) (claim : Claim) → call ≡ Claims claim → reply ≡ Claimed →
    booked_by net tree call reply ≡ (if claim.net == net then Some claim.tree else tree)
by-claim net tree call reply claim is_call is_reply =
    ap (λ (k : Call). booked_by net tree k reply) is_call ∙ ap (λ (r : Reply). booked_by net tree (Claims claim) r) is_reply

pub booked-claim : (h : List Entry) (e : Entry) (claim : Claim) → e.call ≡ Claims claim → e.reply ≡ Claimed → booked (h ++ e ∷ []) claim.net ≡ Some claim.tree
booked-claim h e claim call reply =
    booked-push h e claim.net ∙ by-claim claim.net (booked h claim.net) e.call e.reply claim call reply
    ∙ ap (λ (b : Bool). if b then Some claim.tree else booked h claim.net) (same-net claim.net claim.net refl)

pub booked-claim_other : (h : List Entry) (e : Entry) (claim : Claim) (net : ℕ) → e.call ≡ Claims claim → e.reply ≡ Claimed → (net ≡ claim.net → ⊥) → booked (h ++ e ∷ []) net ≡ booked h net
booked-claim_other h e claim net call reply apart =
    booked-push h e net ∙ by-claim net (booked h net) e.call e.reply claim call reply
    ∙ ap (λ (b : Bool). if b then Some claim.tree else booked h net) (other-net claim.net net apart)

-- bookings after a release is answered Released
by-release : (net : ℕ) (tree : Option TreeView) (call : Call) (reply : Reply) (freed : ℕ) → call ≡ Release freed → reply ≡ Released →
    booked_by net tree call reply ≡ (if freed == net then None else tree)
by-release net tree call reply freed is_call is_reply =
    ap (λ (k : Call). booked_by net tree k reply) is_call ∙ ap (λ (r : Reply). booked_by net tree (Release freed) r) is_reply

pub booked-release : (h : List Entry) (e : Entry) (freed : ℕ) → e.call ≡ Release freed → e.reply ≡ Released → booked (h ++ e ∷ []) freed ≡ None
booked-release h e freed call reply =
    booked-push h e freed ∙ by-release freed (booked h freed) e.call e.reply freed call reply
    ∙ ap (λ (b : Bool). if b then None else booked h freed) (same-net freed freed refl)

pub booked-release_other : (h : List Entry) (e : Entry) (freed net : ℕ) → e.call ≡ Release freed → e.reply ≡ Released → (net ≡ freed → ⊥) → booked (h ++ e ∷ []) net ≡ booked h net
booked-release_other h e freed net call reply apart =
    booked-push h e net ∙ by-release net (booked h net) e.call e.reply freed call reply
    ∙ ap (λ (b : Bool). if b then None else booked h net) (other-net freed net apart)

-- an idle entry, and a mark, change no booking
pub idle-by : (net : ℕ) (tree : Option TreeView) (call : Call) (reply : Reply) → IsIdle call reply → booked_by net tree call reply ≡ tree
idle-by net tree (Claims claim) Claimed idle = absurd (idle refl)
idle-by net tree (Claims claim) Taken idle = refl
idle-by net tree (Claims claim) (Full e n) idle = refl
idle-by net tree (Claims claim) Released idle = refl
idle-by net tree (Claims claim) NotBooked idle = refl
idle-by net tree (Claims claim) (Marked n) idle = refl
idle-by net tree (Release freed) Claimed idle = refl
idle-by net tree (Release freed) Taken idle = refl
idle-by net tree (Release freed) (Full e n) idle = refl
idle-by net tree (Release freed) Released idle = absurd (idle refl)
idle-by net tree (Release freed) NotBooked idle = refl
idle-by net tree (Release freed) (Marked n) idle = refl
idle-by net tree Mark reply idle = absurd idle

mark-by : (net : ℕ) (tree : Option TreeView) (reply : Reply) → booked_by net tree Mark reply ≡ tree
mark-by net tree reply = refl

pub booked-mark : (h : List Entry) (e : Entry) (net : ℕ) → e.call ≡ Mark → booked (h ++ e ∷ []) net ≡ booked h net
booked-mark h e net call = booked-idle h e net (ap (λ (k : Call). booked_by net (booked h net) k e.reply) call ∙ mark-by net (booked h net) e.reply)
