-- Which nets are booked after refused claims and at marks, and the mark that is chosen.
use Rattle.std.proofs.Common.{◌≡◌, ℕ, suc, zero, ◌+◌, ◌≤◌, inl, inr, Bool, true, false, cond, List, [], ◌∷◌, ◌++◌, filter, length, take, get_or, All, slice_get, Option, Some, None, is_some, IsSome, IsSomeAnd, if◌then◌else◌, IsTrue, refl, sym, ap, subst, ◌∙◌, arith}
use Rattle.std.specs.List.{range_with_len, position}
use Rattle.std.specs.Option.{option_map}
use Rattle.std.proofs.lemmas.Bool.{cases_Bool, both_ways}
use Rattle.std.proofs.lemmas.List.{take_all}
use Rattle.std.proofs.lemmas.List.Elements.{All-nil, All-cons}
use Rattle.std.proofs.lemmas.List.Quantifiers.{position-Some}
use Rattle.std.proofs.lemmas.Option.{none-some, same_Some, slice_get_within, slice_get-get_or, slice_get_cases}
use Rattle.gr_base.specs.Designs.{DesignView, is_routed}
use Rattle.gr_base.specs.Plans.{IsRouteOfNet}
use Rattle.gr_base.specs.Trees.{TreeView}
use Rattle.gr_base.specs.declared.grid.Edge.{Edge}
use Rattle.grid_demand.specs.Tables.{CapacityView, capacity_of}
use Rattle.book_state.proofs.BookSteps.{booked-idle}
use Rattle.book_state.proofs.BookingLaws.{victim-booked}
use Rattle.book_state.proofs.LeastMarks.{least-idle, least-mark, least-found, least-nothing}
use Rattle.book_state.proofs.ReplicaSteps.{booked-mark, idle-by, take-entry, length-before}
use Rattle.book_state.specs.Books.{nets_of, booked, demand, victims, is_victim, reply_by_full, reply_to_free, reply_to, IsRight, IsIdle}
use Rattle.book_state.specs.LeastSearch.{lesser, IsMarkAt, IsLeast}
use Rattle.book_state.specs.Marks.{overflow_in, overflow_of, is_least_in, is_least_mark, least_mark}
use Rattle.book_state.specs.declared.entry.Call.{Call}
use Rattle.book_state.specs.declared.entry.Call.TheVariants.{Claim as Claims, Release, Mark}
use Rattle.book_state.specs.declared.entry.Claim.{Claim}
use Rattle.book_state.specs.declared.entry.Entry.{Entry}
use Rattle.book_state.specs.declared.entry.Reply.{Reply}
use Rattle.book_state.specs.declared.entry.Reply.TheVariants.{Claimed, Taken, Full, Released, NotBooked, Marked}
use Rattle.run_histories.specs.Rounds.{IsFull}
use Rattle.run_histories.specs.Standing.{IsHeld, Stands}

-- a net that stays booked by the same tree stays held
held-same : (d : DesignView) (h k : List Entry) (net : ℕ) → booked k net ≡ booked h net → IsHeld d h net → IsHeld d k net
held-same d h k net same is = subst (λ (o : Option TreeView). IsSomeAnd o (IsRouteOfNet d net)) (sym same) is

-- what holds of each number that passes a test holds of all that a filter keeps
filter-all : (P : ℕ → Type 0) (p : ℕ → Bool) (xs : List ℕ) → ((x : ℕ) → p x ≡ true → P x) → All P (filter p xs)
filter-all P p [] each = All-nil P
filter-all P p (x ∷ xs) each = by (p x) (each x) (filter-all P p xs each)
  where
    by : (b : Bool) → (b ≡ true → P x) → All P (filter p xs) → All P (cond b (x ∷ filter p xs) (filter p xs))
    by true here rest = All-cons P x (filter p xs) (here refl) rest
    by false here rest = rest

-- a victim is booked, and no net that isn't routed is
pub victims-routed : (d : DesignView) (h : List Entry) → Stands d h → All (λ net. IsTrue (is_routed d net)) (victims (capacity_of d) h)
victims-routed d h stands =
    filter-all (λ net. IsTrue (is_routed d net)) (is_victim (capacity_of d) h) (range_with_len 0 (nets_of (capacity_of d))) each
  where
    each : (net : ℕ) → is_victim (capacity_of d) h net ≡ true → IsTrue (is_routed d net)
    each net victim = elim (cases_Bool (is_routed d net)) [
      | inl routed ↦ routed
      | inr other ↦
          let some : is_some (booked h net) ≡ true = victim-booked (capacity_of d) h net victim in
          let none : is_some (booked h net) ≡ false = ap (λ (o : Option TreeView). is_some o) (stands.free net other) in
          absurd (both_ways (is_some (booked h net)) none some)
    ]

-- a claim that is answered Full books nothing
full-claimed : IsFull Claimed → ⊥
full-claimed is = both_ways false refl is

pub full-booked : (h : List Entry) (e : Entry) (claim : Claim) (net : ℕ) → e.call ≡ Claims claim → IsFull e.reply → booked (h ++ e ∷ []) net ≡ booked h net
full-booked h e claim net call full =
    let idle : IsIdle (Claims claim) e.reply = λ is. full-claimed (subst IsFull is full) in
    booked-idle h e net (idle-by net (booked h net) e.call e.reply (subst (λ (k : Call). IsIdle k e.reply) (sym call) idle))

-- a mark changes no booking
pub mark-stands : (d : DesignView) (h : List Entry) (e : Entry) → e.call ≡ Mark → Stands d h → Stands d (h ++ e ∷ [])
mark-stands d h e call stands = record {
  held = λ net on. held-same d h (h ++ e ∷ []) net (booked-mark h e net call) (stands.held net on);
  free = λ net off. booked-mark h e net call ∙ stands.free net off;
}

-- only a mark is answered Marked
full-unmarked : (demands : Edge → ℕ) (o : Option Edge) (n : ℕ) → reply_by_full demands o ≡ Marked n → ⊥
full-unmarked demands None n is = cc
full-unmarked demands (Some e) n is = cc

free-unmarked : (c : CapacityView) (demands : Edge → ℕ) (claim : Claim) (slack : Option ℕ) (n : ℕ) → reply_to_free c demands claim slack ≡ Marked n → ⊥
free-unmarked c demands claim None n is = cc
free-unmarked c demands claim (Some slack) n is = full-unmarked demands _ n is

pub marked-mark : (c : CapacityView) (h : List Entry) (call : Call) (n : ℕ) → reply_to c h call ≡ Marked n → call ≡ Mark
marked-mark c h (Claims claim) n is = absurd (by (is_some (booked h claim.net)) is)
  where
    by : (b : Bool) → (if b then Taken else reply_to_free c (demand c h) claim claim.slack) ≡ Marked n → ⊥
    by true said = cc
    by false said = free-unmarked c (demand c h) claim claim.slack n said
marked-mark c h (Release net) n is = absurd (by (is_some (booked h net)) is)
  where
    by : (b : Bool) → (if b then Released else NotBooked) ≡ Marked n → ⊥
    by true said = cc
    by false said = cc
marked-mark c h Mark n is = refl

pub reply-marked : (reply : Reply) (n : ℕ) → overflow_in reply ≡ Some n → reply ≡ Marked n
reply-marked Claimed n is = absurd (none-some n is)
reply-marked Taken n is = absurd (none-some n is)
reply-marked (Full e m) n is = absurd (none-some n is)
reply-marked Released n is = absurd (none-some n is)
reply-marked NotBooked n is = absurd (none-some n is)
reply-marked (Marked m) n is = ap (λ (k : ℕ). Marked k) (same_Some m n is)

-- an entry that is a mark of least overflow is a mark
pub least-call : (c : CapacityView) (h before : List Entry) (e : Entry) → IsRight c before e → is_least_mark h e ≡ true → e.call ≡ Mark
least-call c h before e right least = by (overflow_of e) refl
  where
    by : (o : Option ℕ) → overflow_of e ≡ o → e.call ≡ Mark
    by None is = absurd (both_ways (is_least_in h None) refl (sym (ap (is_least_in h) is) ∙ least))
    by (Some n) is = marked-mark c before e.call n (sym right.reply ∙ reply-marked e.reply n is)

-- the least mark is an entry of the history
pub least-place : (h : List Entry) (front : ℕ) → least_mark h ≡ Some front →
    (place : ℕ) × (e : Entry) × (front ≡ place + 1) × (slice_get h place ≡ Some e) × (is_least_mark h e ≡ true)
least-place [] front is = absurd (none-some front is)
least-place (x ∷ xs) front is = by (position (is_least_mark (x ∷ xs)) (x ∷ xs)) refl is
  where
    by : (o : Option ℕ) → position (is_least_mark (x ∷ xs)) (x ∷ xs) ≡ o → option_map (λ (place : ℕ). place + 1) o ≡ Some front →
        (place : ℕ) × (e : Entry) × (front ≡ place + 1) × (slice_get (x ∷ xs) place ≡ Some e) × (is_least_mark (x ∷ xs) e ≡ true)
    by None found said = absurd (none-some front said)
    by (Some place) found said =
        let there = position-Some (is_least_mark (x ∷ xs)) (x ∷ xs) place x found in
        (place, get_or (x ∷ xs) place x, sym (same_Some (place + 1) front said), slice_get-get_or (x ∷ xs) place x there.0, there.1)

pub mark-within : (h : List Entry) (front : ℕ) → least_mark h ≡ Some front → front ≤ length h
mark-within h front is =
    let at = least-place h front is in
    omega (arith, at.2, slice_get_within h at.0 at.1 at.3)

-- each first part of a history has a first mark of least overflow, or no mark
least-upto : (h : List Entry) (n : ℕ) → n ≤ length h → (o : Option _) × IsLeast (take n h) o
least-upto h zero most = (None, least-nothing)
least-upto h (suc n) most =
    let found = least-upto h n (omega arith) in
    elim (slice_get_cases h n).1 [
      | inl at ↦ by at.0 at.2 found.0 found.1 (overflow_of at.0) refl
      | inr past ↦ absurd (omega (arith, past.0, most))
    ]
  where
    longer : (e : Entry) → slice_get h n ≡ Some e → take (suc n) h ≡ take n h ++ e ∷ []
    longer e there = let more : suc n ≡ n + 1 = omega arith in ap (λ (k : ℕ). take k h) more ∙ take-entry h n e there

    by : (e : Entry) → slice_get h n ≡ Some e → (old : Option _) → IsLeast (take n h) old → (overflow : Option ℕ) → overflow_of e ≡ overflow →
        (o : Option _) × IsLeast (take (suc n) h) o
    by e there old least None is = (old, subst (λ (xs : List Entry). IsLeast xs old) (sym (longer e there)) (least-idle (take n h) e old is least))
    by e there old least (Some overflow) is =
        let new : _ = record { overflow = overflow; length = n + 1 } in
        let before = length-before h n e there in (
          Some (lesser old new),
          subst (λ (xs : List Entry). IsLeast xs (Some (lesser old new))) (sym (longer e there)) (least-mark (take n h) e old new is (omega (arith, before)) least),
        )

-- where there is a mark, some mark has the least overflow
pub some-least : (h : List Entry) (place overflow : ℕ) → IsMarkAt h place overflow → IsSome (least_mark h)
some-least h place overflow there =
    let found = least-upto h (length h) (omega arith) in
    by found.0 (subst (λ (xs : List Entry). IsLeast xs found.0) (take_all (length h) h (omega arith)) found.1)
  where
    by : (o : Option _) → IsLeast h o → IsSome (least_mark h)
    by None none = absurd (none place overflow there)
    by (Some mark) least = sym (ap (λ (o : Option ℕ). is_some o) (least-found h mark least))
