-- What passes see between their own calls: entries of others alone.
use Rattle.std.proofs.Common.{◌≡◌, ℕ, suc, zero, ◌+◌, ◌-◌, ◌<◌, ◌≤◌, inl, inr, true, ◌==◌, List, [], ◌∷◌, ◌++◌, length, Some, slice_get, refl, sym, ap, subst, ◌∙◌, arith}
use Rattle.std.proofs.lemmas.Bool.{cases_Bool}
use Rattle.std.proofs.lemmas.Bool.Decides.{nat_tests}
use Rattle.std.proofs.lemmas.List.{append-nil, append_cancel_left, append_cancel_right, take-append-le}
use Rattle.std.proofs.lemmas.List.Elements.{filter-append}
use Rattle.std.proofs.lemmas.Option.{slice_get_cases}
use Rattle.gr_base.proofs.General.{filter-yes, filter-no}
use Rattle.grid_demand.specs.Tables.{CapacityView}
use Rattle.book_front.proofs.EntrySteps.{calls-push}
use Rattle.book_state.proofs.HistoryLists.{slice_get-left, slice_get-right}
use Rattle.book_state.proofs.LegalHistories.{each-push}
use Rattle.book_state.specs.Entries.{AtEach, calls_of}
use Rattle.book_state.specs.Views.{entry_of}
use Rattle.book_state.specs.declared.entry.Call.{Call}
use Rattle.book_state.specs.declared.entry.Entry.{Entry}
use Rattle.book_state.specs.declared.entry.Reply.{Reply}
use Rattle.track_book.specs.Passes.{PassView, IsPass, IsAnswered, HasLearnt}

-- a list that adds none of a number has none of it behind the first part
pub others-behind : (number : ℕ) (xs rest : List Entry) → calls_of number (xs ++ rest) ≡ calls_of number xs → calls_of number rest ≡ []
others-behind number xs rest same =
    append_cancel_left (calls_of number xs) (calls_of number rest) []
    (sym (filter-append (λ (e : Entry). e.number == number) xs rest) ∙ same ∙ sym (append-nil (calls_of number xs)))

-- no entry of such a list is of the number
pub none-there : (number : ℕ) (rest : List Entry) (j : ℕ) (e : Entry) → calls_of number rest ≡ [] → slice_get rest j ≡ Some e → e.number ≡ number → ⊥
none-there number [] j e none there is = cc
none-there number (x ∷ rest) zero e none there is =
    let here : x ≡ e = cc in
    let of_it : x.number ≡ number = ap (λ (y : Entry). y.number) here ∙ is in
    let same : (x.number == number) ≡ true = grind (arith, nat_tests) in
    let some = sym (filter-yes (λ (y : Entry). y.number == number) x rest same) ∙ none in
    cc
none-there number (x ∷ rest) (suc j) e none there is = elim (cases_Bool (x.number == number)) [
  | inl same ↦ (let some = sym (filter-yes (λ (y : Entry). y.number == number) x rest same) ∙ none in cc)
  | inr other ↦ none-there number rest j e (sym (filter-no (λ (y : Entry). y.number == number) x rest other) ∙ none) there is
]

-- what holds of each own entry of a first part, where the rest has none
pub own-each : (P : List Entry → Entry → Type 0) (number : ℕ) (xs rest : List Entry) → calls_of number rest ≡ [] →
    AtEach (λ before e. e.number ≡ number → P before e) xs → AtEach (λ before e. e.number ≡ number → P before e) (xs ++ rest)
own-each P number xs rest none each = λ p e there is. elim (slice_get_cases xs p).1 [
  | inl at ↦
      let first = sym (slice_get-left xs rest p at.1) ∙ there in
      let short : p ≤ length xs = (let within = at.1 in omega (arith, within)) in
      subst (λ (h : List Entry). P h e) (sym (take-append-le p xs rest short)) (each p e first is)
  | inr past ↦
      let place : p ≡ length xs + (p - length xs) = (let behind = past.0 in omega (arith, behind)) in
      absurd (none-there number rest (p - length xs) e none (sym (slice_get-right xs rest p (p - length xs) place) ∙ there) is)
]

-- each entry of the number lies in the first part
pub own-place : (number : ℕ) (xs rest : List Entry) (p : ℕ) (e : Entry) → calls_of number rest ≡ [] → slice_get (xs ++ rest) p ≡ Some e → e.number ≡ number → p < length xs
own-place number xs rest p e none there is = elim (slice_get_cases xs p).1 [
  | inl at ↦ at.1
  | inr past ↦
      let place : p ≡ length xs + (p - length xs) = (let behind = past.0 in omega (arith, behind)) in
      absurd (none-there number rest (p - length xs) e none (sym (slice_get-right xs rest p (p - length xs) place) ∙ there) is)
]

-- what a pass sees between its own calls is of others
pub learnt-others : (c : CapacityView) (old new : PassView) (learnt : HasLearnt c old new) → IsPass c old → IsPass c new → calls_of old.number learnt.begins.0 ≡ []
learnt-others c old new learnt one two =
    others-behind old.number old.seen learnt.begins.0
    (ap (λ (h : List Entry). calls_of old.number h) learnt.begins.1
    ∙ ap (λ (n : ℕ). calls_of n new.seen) (sym learnt.number)
    ∙ sym two.calls ∙ learnt.mine ∙ one.calls)

pub answered-others : (c : CapacityView) (old new : PassView) (call : Call) (reply : Reply) (answered : IsAnswered c old new call reply) → IsPass c old → IsPass c new →
    calls_of old.number answered.begins.0 ≡ []
answered-others c old new call reply answered one two =
    let e : Entry = entry_of old.number call reply in
    let whole : calls_of old.number answered.before ++ e ∷ [] ≡ calls_of old.number old.seen ++ e ∷ [] =
    sym (calls-push old.number answered.before e refl)
    ∙ ap (λ (h : List Entry). calls_of old.number h) (sym answered.seen)
    ∙ ap (λ (n : ℕ). calls_of n new.seen) (sym answered.number)
    ∙ sym two.calls ∙ answered.mine ∙ ap (λ (mine : List Entry). mine ++ e ∷ []) one.calls in
    others-behind old.number old.seen answered.begins.0
    (ap (λ (h : List Entry). calls_of old.number h) answered.begins.1
    ∙ append_cancel_right (calls_of old.number answered.before) (calls_of old.number old.seen) (e ∷ []) whole)

-- what holds of a pass's own entries, when it has learnt more
abbrev pub AtOwn : (List Entry → Entry → Type 0) → PassView → Type 0
AtOwn P p = AtEach (λ before e. e.number ≡ p.number → P before e) p.seen

abbrev own_in : (List Entry → Entry → Type 0) → ℕ → List Entry → Type 0
own_in P number seen = AtEach (λ before e. e.number ≡ number → P before e) seen

pub own-learnt : (P : List Entry → Entry → Type 0) (c : CapacityView) (old new : PassView) → HasLearnt c old new → IsPass c old → IsPass c new → AtOwn P old → AtOwn P new
own-learnt P c old new learnt one two each =
    subst (λ (x : ℕ × List Entry). own_in P x.0 x.1) (λ i. (sym learnt.number i, learnt.begins.1 i))
    (own-each P old.number old.seen learnt.begins.0 (learnt-others c old new learnt one two) each)

-- and when it has added one
pub own-answered : (P : List Entry → Entry → Type 0) (c : CapacityView) (old new : PassView) (call : Call) (reply : Reply) (answered : IsAnswered c old new call reply) →
    IsPass c old → IsPass c new → P answered.before (entry_of old.number call reply) → AtOwn P old → AtOwn P new
own-answered P c old new call reply answered one two said each =
    let e : Entry = entry_of old.number call reply in
    let before : own_in P old.number answered.before =
    subst (λ (h : List Entry). own_in P old.number h) answered.begins.1
    (own-each P old.number old.seen answered.begins.0 (answered-others c old new call reply answered one two) each) in
    subst (λ (x : ℕ × List Entry). own_in P x.0 x.1) (λ i. (sym answered.number i, sym answered.seen i))
    (each-push (λ (h : List Entry) (x : Entry). x.number ≡ old.number → P h x) answered.before e before (λ is. said))
