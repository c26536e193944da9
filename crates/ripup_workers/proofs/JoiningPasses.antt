-- What passes learn, and what stays true of their own entries.
use Rattle.std.proofs.Common.{◌≡◌, ℕ, inl, inr, List, [], ◌∷◌, ◌++◌, length, All, refl, sym, ap, subst, ◌∙◌, arith, length-append}
use Rattle.std.proofs.lemmas.Bool.{cases_eq}
use Rattle.std.proofs.lemmas.List.Elements.{All-nil, All-cons}
use Rattle.grid_demand.specs.Tables.{CapacityView}
use Rattle.book_front.proofs.Prefixes.{prefix-length}
use Rattle.book_state.specs.Entries.{AtEach, calls_of}
use Rattle.book_state.specs.declared.entry.Call.TheVariants.{Claim as Claims}
use Rattle.book_state.specs.declared.entry.Claim.{Claim}
use Rattle.book_state.specs.declared.entry.Entry.{Entry}
use Rattle.run_histories.specs.RunHistories.{Setting, IsPlanned}
use Rattle.track_book.specs.Passes.{PassView}
use Rattle.ripup_workers.specs.Meetings.{Learns}
use Rattle.ripup_workers.specs.Working.{AreOwnPlanned, ArePlanned}
use Rattle.ripup_workers.proofs.JoiningLists.{calls-append, calls-first, calls-after}
use Rattle.ripup_workers.proofs.JoiningSegments.{each-more}

-- of what a pass learns nothing is its own
pub learns-own : (c : CapacityView) (old new : PassView) → Learns c old new → calls_of new.number new.seen ≡ calls_of old.number old.seen
learns-own c old new learns = sym learns.knows.calls ∙ learns.learnt.mine ∙ learns.knew.calls

-- entries of which none is a number's
pub calls-apart : (number : ℕ) (es : List Entry) → calls_of number es ≡ [] → All (λ (e : Entry). e.number ≡ number → ⊥) es
calls-apart number [] none = All-nil (λ (e : Entry). e.number ≡ number → ⊥)
calls-apart number (e ∷ es) none = elim (cases_eq e.number number) [
  | inl same ↦
      let count = ap length (sym (calls-first number e es same) ∙ none) in
      absurd (omega (arith, count))
  | inr apart ↦
      All-cons (λ (x : Entry). x.number ≡ number → ⊥) e es apart (calls-apart number es (sym (calls-after number e es apart) ∙ none))
]

-- a list that grows by a part and stays has grown by nothing
pub nothing-more : {A : Type 0} (xs ys : List A) → xs ++ ys ≡ xs → ys ≡ []
nothing-more xs [] is = refl
nothing-more xs (y ∷ ys) is =
    let count = ap length is in
    let parts = length-append xs (y ∷ ys) in
    absurd (omega (arith, count, parts))

-- so its claims stay planned
pub own-learns : (t : Setting) (c : CapacityView) (old new : PassView) → Learns c old new → AreOwnPlanned t old → AreOwnPlanned t new
own-learns t c old new learns planned =
    let begins = learns.learnt.begins in
    let number = learns.learnt.number in
    let more : List Entry = begins.0 in
    let calls : calls_of new.number old.seen ++ calls_of new.number more ≡ calls_of new.number old.seen =
    sym (calls-append new.number old.seen more) ∙ ap (λ (l : List Entry). calls_of new.number l) begins.1 ∙ learns-own c old new learns
    ∙ ap (λ (n : ℕ). calls_of n old.seen) (sym number) in
    let none = calls-apart new.number more (nothing-more (calls_of new.number old.seen) (calls_of new.number more) calls) in
    subst (AtEach (λ before x. x.number ≡ new.number → (claim : Claim) → x.call ≡ Claims claim → IsPlanned t before x.number claim)) begins.1
    (each-more (λ before x. x.number ≡ new.number → (claim : Claim) → x.call ≡ Claims claim → IsPlanned t before x.number claim)
    (λ (x : Entry). x.number ≡ new.number → ⊥) old.seen more (λ place x at is. planned place x at (is ∙ number))
    (λ before x apart is. absurd (apart is)) none)

pub planned-learns : (t : Setting) (c : CapacityView) (old new : PassView) → Learns c old new → ArePlanned t old → ArePlanned t new
planned-learns t c old new learns planned = record {
  behind =
      let more = prefix-length old.seen new.seen learns.learnt.begins in
      let behind = planned.behind in
      omega (arith, behind, more);
  own = own-learns t c old new learns planned.own;
}
