-- Where the claims of booked nets stand in longer and longer histories.
use Rattle.std.proofs.Common.{◌≡◌, ℕ, suc, zero, ◌+◌, ◌<◌, inl, inr, List, [], ◌∷◌, ◌++◌, length, map, take, Option, Some, None, slice_get, slice_set, replicate, refl, sym, ap, subst, ◌∙◌, arith}
use Rattle.gr_base.specs.Trees.{TreeView}
use Rattle.grid_demand.specs.Tables.{CapacityView}
use Rattle.book_state.proofs.BookSteps.{booked-idle, booked-none}
use Rattle.book_state.proofs.HistoryLists.{slice_get-right}
use Rattle.book_state.proofs.ReplicaSteps.{take-entry, length-before, place-kept, place_of-same, place_of-other, is_same, claim-in_range, release-in_range, booked-claim, booked-claim_other, booked-release, booked-release_other, booked-mark, idle-by}
use Rattle.book_state.specs.Books.{nets_of, booked, IsLegal, IsIdle}
use Rattle.book_state.specs.PlaceStore.{told}
use Rattle.book_state.specs.Replicas.{tree_of, tree_of_call, place_of, IsPlace, ArePlaces, IsClaimed, IsReleased}
use Rattle.book_state.specs.declared.entry.Call.{Call}
use Rattle.book_state.specs.declared.entry.Call.TheVariants.{Claim as Claims, Mark}
use Rattle.book_state.specs.declared.entry.Claim.{Claim}
use Rattle.book_state.specs.declared.entry.Entry.{Entry}

-- what is kept of a place, and of nets that aren't booked
pub told-next : (place : ℕ) → told (place + 1) ≡ Some place
told-next place = let e : place + 1 ≡ suc place = omega arith in ap told e

pub told-none : (n : ℕ) → map told (replicate n 0) ≡ replicate n None
told-none zero = refl
told-none (suc n) = ap (λ (places : List (Option ℕ)). None ∷ places) (told-none n)

-- the place of a net that an entry leaves as it was
place-same : (h : List Entry) (e : Entry) (place : Option ℕ) (net : ℕ) → IsPlace h place (booked h net) → booked (h ++ e ∷ []) net ≡ booked h net → IsPlace (h ++ e ∷ []) place (booked (h ++ e ∷ []) net)
place-same h e place net is same =
    subst (λ (tree : Option TreeView). IsPlace (h ++ e ∷ []) place tree) (sym same) (place-kept h (e ∷ []) place (booked h net) is)

-- places after an entry that changes no booking
pub places-same : (h : List Entry) (e : Entry) (places : List (Option ℕ)) → ArePlaces h places → ((net : ℕ) → booked (h ++ e ∷ []) net ≡ booked h net) → ArePlaces (h ++ e ∷ []) places
places-same h e places are same = λ net. place-same h e (place_of places net) net (are net) (same net)

-- places after an entry that changes the booking of one net
pub places-change : (h : List Entry) (e : Entry) (places : List (Option ℕ)) (net : ℕ) (place : Option ℕ) → ArePlaces h places → net < length places →
    ((other : ℕ) → (other ≡ net → ⊥) → booked (h ++ e ∷ []) other ≡ booked h other) →
    IsPlace (h ++ e ∷ []) place (booked (h ++ e ∷ []) net) → ArePlaces (h ++ e ∷ []) (slice_set places net place)
places-change h e places net place are within same there = λ other. elim (is_same other net) [
  | inl is ↦
      let P : ℕ → Type 0 = λ n. IsPlace (h ++ e ∷ []) (place_of (slice_set places net place) n) (booked (h ++ e ∷ []) n) in
      subst P (sym is) (subst (λ (o : Option ℕ). IsPlace (h ++ e ∷ []) o (booked (h ++ e ∷ []) net)) (sym (place_of-same places net place within)) there)
  | inr apart ↦
      subst (λ (o : Option ℕ). IsPlace (h ++ e ∷ []) o (booked (h ++ e ∷ []) other)) (sym (place_of-other places net other place apart))
      (place-same h e (place_of places other) other (are other) (same other apart))
]

-- the place of the last entry, a claim
pub last-place : (h : List Entry) (e : Entry) (claim : Claim) (place : ℕ) → place ≡ length h → e.call ≡ Claims claim → booked (h ++ e ∷ []) claim.net ≡ Some claim.tree →
    IsPlace (h ++ e ∷ []) (Some place) (booked (h ++ e ∷ []) claim.net)
last-place h e claim place is call after =
    subst (λ (tree : Option TreeView). IsPlace (h ++ e ∷ []) (Some place) tree) (sym after) (record {
      tree_there = ap (λ (o : Option Entry). tree_of o) (slice_get-right h (e ∷ []) place 0 (omega arith)) ∙ ap (λ (k : Call). tree_of_call k) call;
      known = refl;
    })

-- a net that isn't booked has no place
pub no-place : (h : List Entry) (net : ℕ) → booked h net ≡ None → IsPlace h None (booked h net)
no-place h net is = subst (λ (tree : Option TreeView). IsPlace h None tree) (sym is) (record { tree_there = refl; known = refl })

-- no places
pub places-none : (n : ℕ) (places : List (Option ℕ)) → places ≡ replicate n None → ArePlaces [] places
places-none n places none = λ net.
    subst (λ (o : Option ℕ). IsPlace [] o (booked [] net)) (sym (ap (λ (os : List (Option ℕ)). place_of os net) none ∙ no-places n net)) (no-place [] net (booked-none net))
  where
    no-places : (n net : ℕ) → place_of (replicate n None) net ≡ None
    no-places zero net = refl
    no-places (suc n) zero = refl
    no-places (suc n) (suc net) = no-places n net

-- the steps over a whole history
abbrev Step : List Entry → ℕ → List (Option ℕ) → Type 0
Step h place places = ArePlaces (take (place + 1) h) places

step : (h : List Entry) (place : ℕ) (e : Entry) (places : List (Option ℕ)) → slice_get h place ≡ Some e → ArePlaces (take place h ++ e ∷ []) places → Step h place places
step h place e places there are = subst (λ (k : List Entry). ArePlaces k places) (sym (take-entry h place e there)) are

pub places-claim : (c : CapacityView) (h : List Entry) (place : ℕ) (claim : Claim) (places : List (Option ℕ)) → IsLegal c h → ArePlaces (take place h) places → length places ≡ nets_of c →
    IsClaimed h place claim → Step h place (slice_set places claim.net (Some place))
places-claim c h place claim places legal are long is =
    let before = take place h in
    let e = is.e in
    let within = (claim-in_range c h place claim legal is).net in
    let after = booked-claim before e claim is.call is.reply in
    step h place e (slice_set places claim.net (Some place)) is.there
    (places-change before e places claim.net (Some place) are (omega (arith, within, long))
    (λ other apart. booked-claim_other before e claim other is.call is.reply apart)
    (last-place before e claim place (sym (length-before h place e is.there)) is.call after))

pub places-release : (c : CapacityView) (h : List Entry) (place net : ℕ) (places : List (Option ℕ)) → IsLegal c h → ArePlaces (take place h) places → length places ≡ nets_of c →
    IsReleased h place net → Step h place (slice_set places net None)
places-release c h place net places legal are long is =
    let before = take place h in
    let e = is.e in
    let within = release-in_range c h place net legal is in
    step h place e (slice_set places net None) is.there
    (places-change before e places net None are (omega (arith, within, long))
    (λ other apart. booked-release_other before e net other is.call is.reply apart)
    (no-place (before ++ e ∷ []) net (booked-release before e net is.call is.reply)))

pub places-idle : (h : List Entry) (place : ℕ) (e : Entry) (places : List (Option ℕ)) → ArePlaces (take place h) places → slice_get h place ≡ Some e → IsIdle e.call e.reply → Step h place places
places-idle h place e places are there idle =
    let before = take place h in
    step h place e places there
    (places-same before e places are (λ net. booked-idle before e net (idle-by net (booked before net) e.call e.reply idle)))

pub places-mark : (h : List Entry) (place : ℕ) (e : Entry) (places : List (Option ℕ)) → ArePlaces (take place h) places → slice_get h place ≡ Some e → e.call ≡ Mark → Step h place places
places-mark h place e places are there call =
    let before = take place h in
    step h place e places there (places-same before e places are (λ net. booked-mark before e net call))
