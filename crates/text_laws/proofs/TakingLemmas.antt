-- Readers behind whose value there are no more tokens than before it.
use Rattle.std.proofs.Common.{◌≡◌, ℕ, ◌+◌, ◌≤◌, Bool, true, false, List, [], ◌∷◌, length, Option, Some, None, Ok, Err, refl, ap, subst, arith, ℤ}
use Rattle.gr_text.specs.declared.source.Ends.{Ends}
use Rattle.gr_text.specs.Tokens.{Place, Ending, AtEnd, PastLimit}
use Rattle.gr_text.specs.Reading.{Read, Reader, and_then, ◌>>=◌, pure, check, given, next_of, token, number, natural}
use Rattle.text_laws.proofs.EarlyLemmas.{ok-same, err-not-ok}

-- a value takes at least so many tokens
pub record Takes {F A : Type 0} (least : ℕ) (reader : Reader F A) : Type 0 where
  pub on : (p after : Place) (a : A) → reader p ≡ Ok (a, after) → length after.rest + least ≤ length p.rest

takes-bind : {F A B : Type 0} (m n : ℕ) (first : Reader F A) (next : A → Reader F B) → Takes m first → ((a : A) → Takes n (next a)) →
    (p after : Place) (b : B) (r : Read F A) → first p ≡ r → and_then r next ≡ Ok (b, after) → length after.rest + (m + n) ≤ length p.rest
takes-bind m n first next one two p after b (Ok x) read is =
    let here = one.on p x.1 x.0 read in
    let there = (two x.0).on x.1 after b is in
    omega arith
takes-bind m n first next one two p after b (Err e) read is = err-not-ok (b, after) e is

pub Takes-bind : {F A B : Type 0} {m n : ℕ} (first : Reader F A) (next : A → Reader F B) → Takes m first → ((a : A) → Takes n (next a)) →
    Takes (m + n) (first >>= next)
Takes-bind {F} {A} {B} {m} {n} first next one two = record { on = λ p after b is. takes-bind m n first next one two p after b (first p) refl is }

pub Takes-pure : {F A : Type 0} (a : A) → Takes 0 (pure {F = F} a)
Takes-pure {F} {A} a = record {
  on = λ p after b is.
      let e : p ≡ after = ap (λ (x : A × Place). x.1) (ok-same (a, p) (b, after) is) in
      subst (λ (s : Place). length s.rest + 0 ≤ length p.rest) e (omega arith);
}

refuses : {F A : Type 0} (fault : F) → Takes {F = F} {A = A} 0 (λ place. Err (fault, place.number))
refuses fault = record { on = λ p after b is. err-not-ok (b, after) (fault, p.number) is }

pub Takes-check : {F : Type 0} (holds : Bool) (fault : F) → Takes 0 (check holds fault)
unfolding check
Takes-check true fault = Takes-pure tt
Takes-check false fault = refuses fault

pub Takes-given : {F A : Type 0} (value : Option A) (fault : F) → Takes 0 (given value fault)
Takes-given (Some a) fault = Takes-pure a
Takes-given None fault = refuses fault

next-takes : {F : Type 0} (ends : Ends F) (number : ℕ) (rest : List (List ℕ)) (ending : Ending) (word : List ℕ) (after : Place) →
    next_of ends number rest ending ≡ Ok (word, after) → length after.rest + 1 ≤ length rest
next-takes ends number [] AtEnd word after is = err-not-ok (word, after) (ends.ended, number + 1) is
next-takes ends number [] PastLimit word after is = err-not-ok (word, after) (ends.too_long, number + 1) is
next-takes ends number (t ∷ rest) ending word after is =
    let place : Place = record { number = number + 1; rest = rest; ending = ending } in
    let e : place ≡ after = ap (λ (x : List ℕ × Place). x.1) (ok-same (t, place) (word, after) is) in
    subst (λ (s : Place). length s.rest + 1 ≤ length (t ∷ rest)) e (omega arith)

pub Takes-token : {F : Type 0} (ends : Ends F) → Takes 1 (token ends)
unfolding token
Takes-token ends = record { on = λ p after w is. next-takes ends p.number p.rest p.ending w after is }

pub Takes-number : {F : Type 0} (ends : Ends F) (fault : F) (low high : ℤ) → Takes 1 (number ends fault low high)
unfolding number
Takes-number ends fault low high = Takes-bind (token ends) _ (Takes-token ends) (λ found. Takes-given _ fault)

pub Takes-natural : {F : Type 0} (ends : Ends F) (fault : F) (most : ℕ) → Takes 1 (natural ends fault most)
unfolding natural
Takes-natural ends fault most = Takes-bind _ _ (Takes-number ends fault _ _) (λ n. Takes-pure _)

-- what follows a reader is read alike by two that are alike on the places that it leaves
same-behind : {F A B : Type 0} (least : ℕ) (first : Reader F A) (one two : A → Reader F B) → Takes least first → (p : Place) →
    ((a : A) (after : Place) → length after.rest + least ≤ length p.rest → one a after ≡ two a after) →
    (r : Read F A) → first p ≡ r → and_then r one ≡ and_then r two
same-behind least first one two takes p same (Ok x) read = same x.0 x.1 (takes.on p x.1 x.0 read)
same-behind least first one two takes p same (Err e) read = refl

pub same-then : {F A B : Type 0} {least : ℕ} (first : Reader F A) (one two : A → Reader F B) → Takes least first → (p : Place) →
    ((a : A) (after : Place) → length after.rest + least ≤ length p.rest → one a after ≡ two a after) → (first >>= one) p ≡ (first >>= two) p
same-then {F} {A} {B} {least} first one two takes p same = same-behind least first one two takes p same (first p) refl

pub same-after : {F A B : Type 0} {least : ℕ} (first : Reader F A) (one two : A → Reader F B) → Takes least first → (p : Place) →
    ((a : A) (after : Place) → length after.rest ≤ length p.rest → one a after ≡ two a after) → (first >>= one) p ≡ (first >>= two) p
same-after first one two takes p same = same-then first one two takes p (λ a after less. same a after (omega arith))
