-- Legal histories.
use Rattle.std.proofs.Common.{◌≡◌, ℕ, suc, zero, ◌<◌, inl, inr, List, [], ◌∷◌, ◌++◌, length, take, Some, slice_get, refl, sym, ap, subst, ◌∙◌, arith}
use Rattle.std.proofs.lemmas.Bool.{cases_lt}
use Rattle.std.proofs.lemmas.List.{length_push, take-append-le, take_at, take-take, length-take-le, take_all}
use Rattle.std.proofs.lemmas.Option.{none-some, same_Some, slice_get_within}
use Rattle.grid_demand.specs.Tables.{CapacityView}
use Rattle.book_state.proofs.HistoryLists.{slice_get-left, slice_get-right}
use Rattle.book_state.specs.Books.{reply_to_mark, IsRight, IsLegal}
use Rattle.book_state.specs.Entries.{AtEach}
use Rattle.book_state.specs.Views.{entry_of}
use Rattle.book_state.specs.declared.entry.Call.TheVariants.{Mark}
use Rattle.book_state.specs.declared.entry.Entry.{Entry}
use Rattle.book_state.specs.declared.entry.Reply.TheVariants.{Marked}

-- a fact of each entry and the history before it, after one more entry
pub each-push : (P : List Entry → Entry → Type 0) (h : List Entry) (e : Entry) → AtEach P h → P h e → AtEach P (h ++ e ∷ [])
each-push P h e each last p x there =
    elim (cases_lt p (length h)) [
      | inl before ↦
          let is : slice_get h p ≡ Some x = sym (slice_get-left h (e ∷ []) p before) ∙ there in
          subst (λ (k : List Entry). P k x) (sym (take-append-le p h (e ∷ []) (omega arith))) (each p x is)
      | inr after ↦
          let within = slice_get_within (h ++ e ∷ []) p x there in
          let long = length_push h e in
          let here : p ≡ length h = omega (arith, within, long) in
          let same : e ≡ x = same_Some e x (sym (slice_get-right h (e ∷ []) p 0 (omega arith)) ∙ there) in
          subst (λ (k : List Entry). P k x) (sym (take_at h (e ∷ []) p (sym here))) (subst (λ (y : Entry). P h y) same last)
    ]

get-take : (h : List Entry) (n p : ℕ) → p < n → slice_get (take n h) p ≡ slice_get h p
get-take [] n p below = ap (λ (k : List Entry). slice_get k p) (take-nothing n)
  where
    take-nothing : (n : ℕ) → take {A = Entry} n [] ≡ []
    take-nothing zero = refl
    take-nothing (suc n) = refl
get-take (x ∷ xs) zero p below = absurd (omega arith)
get-take (x ∷ xs) (suc n) zero below = refl
get-take (x ∷ xs) (suc n) (suc p) below = get-take xs n p (omega arith)

-- and of a first part
pub each-take : (P : List Entry → Entry → Type 0) (h : List Entry) (n : ℕ) → AtEach P h → AtEach P (take n h)
each-take P h n each p x there =
    elim (cases_lt n (length h)) [
      | inl short ↦
          let below = slice_get_within (take n h) p x there in
          let long = length-take-le n h (omega arith) in
          let is : slice_get h p ≡ Some x = sym (get-take h n p (omega (arith, below, long))) ∙ there in
          subst (λ (k : List Entry). P k x) (sym (take-take p n h (omega (arith, below, long)))) (each p x is)
      | inr long ↦ subst (λ (k : List Entry). P (take p k) x) (sym (take_all n h long)) (each p x (ap (λ (k : List Entry). slice_get k p) (sym (take_all n h long)) ∙ there))
    ]

pub legal-push : (c : CapacityView) (h : List Entry) (e : Entry) → IsLegal c h → IsRight c h e → IsLegal c (h ++ e ∷ [])
legal-push c h e legal right = record { right = each-push (IsRight c) h e legal.right right }

pub legal-mark : (c : CapacityView) (h new : List Entry) (number overflow : ℕ) → IsLegal c h → Marked overflow ≡ reply_to_mark c h →
    new ≡ h ++ entry_of number Mark (Marked overflow) ∷ [] → IsLegal c new
legal-mark c h new number overflow legal reply is =
    let e = entry_of number Mark (Marked overflow) in
    subst (λ (k : List Entry). IsLegal c k) (sym is) (legal-push c h e legal (record { call = tt; reply = reply }))

pub legal-take : (c : CapacityView) (h : List Entry) (n : ℕ) → IsLegal c h → IsLegal c (take n h)
legal-take c h n legal = record { right = each-take (IsRight c) h n legal.right }

pub legal-nothing : (c : CapacityView) → IsLegal c []
legal-nothing c = record { right = λ p e there. absurd (none-some e there) }
