-- Steps of a grammar on tokens that are known.
use Rattle.std.proofs.Common.{◌≡◌, ℕ, ◌+◌, ◌^◌, ◌<◌, ◌≤◌, Bool, true, nat_le, ℤ, pos, List, [], ◌∷◌, ◌++◌, length, map, Option, Some, Ok, refl, sym, ap, subst, ◌∙◌, append_assoc, append-nil, arith}
use Rattle.std.specs.List.{AllByRecursion, flat_map}
use Rattle.std.specs.Str.{bytes_eq}
use Rattle.std.specs.Fmt.{decimal}
use Rattle.std.proofs.lemmas.Bool.Decides.{nat_tests}
use Rattle.gr_text.specs.Numbers.{number_in}
use Rattle.gr_text.specs.Tokens.{Place, AtEnd}
use Rattle.gr_text.specs.Reading.{Reader, and_then, ◌>>=◌, pure, check, given, token, word, number, natural, several}
use Rattle.solution_text.proofs.NumberLemmas.{natural-back}
use Rattle.ispd_reader.specs.Faults.{ends}
use Rattle.ispd_reader.specs.declared.fault.DesignFault.{DesignFault}
use Rattle.ispd_reader.specs.declared.fault.DesignFault.TheVariants.{Number}

-- a place with these tokens left, up to the text's end
abbrev pub place : ℕ → List (List ℕ) → Place
place number rest = record { number = number; rest = rest; ending = AtEnd }

-- of these tokens the reader makes this value, whatever stands behind them
pub record Says {A : Type 0} (reader : Reader DesignFault A) (words : List (List ℕ)) (a : A) : Type 0 where
  pub says : (number : ℕ) (rest : List (List ℕ)) → (after : ℕ) × (reader (place number (words ++ rest)) ≡ Ok (a, place after rest))

pub says-then : {A B : Type 0} (first : Reader DesignFault A) (next : A → Reader DesignFault B) {words others : List (List ℕ)} {a : A} {b : B} →
    Says first words a → Says (next a) others b → Says (first >>= next) (words ++ others) b
says-then first next {words = words} {others = others} one two = record {
  says = λ number rest.
      let here = one.says number (others ++ rest) in
      let there = two.says here.0 rest in (
        there.0,
        ap (λ (ws : List (List ℕ)). and_then (first (place number ws)) next) (append_assoc words others rest)
            ∙ ap (λ r. and_then r next) here.1 ∙ there.1,
      );
}

pub says-pure : {A : Type 0} (a : A) → Says (pure a) [] a
says-pure a = record { says = λ number rest. (number, refl) }

-- the tokens, and the value, written otherwise
pub says-words : {A : Type 0} {reader : Reader DesignFault A} {words others : List (List ℕ)} {a : A} → words ≡ others → Says reader words a → Says reader others a
says-words {reader = reader} {a = a} same says = subst (λ (ws : List (List ℕ)). Says reader ws a) same says

pub says-value : {A : Type 0} {reader : Reader DesignFault A} {words : List (List ℕ)} {a b : A} → a ≡ b → Says reader words a → Says reader words b
says-value {reader = reader} {words = words} same says = subst (λ v. Says reader words v) same says

checked : (holds : Bool) (fault : DesignFault) → holds ≡ true → Says (check holds fault) [] tt
unfolding check
checked holds fault is = record { says = λ number rest. (number, rw is refl) }

-- a step that takes no token
pub then-checks : {B : Type 0} (holds : Bool) (fault : DesignFault) (next : Unit {0} → Reader DesignFault B) {words : List (List ℕ)} {b : B} →
    holds ≡ true → Says (next tt) words b → Says (check holds fault >>= next) words b
then-checks holds fault next is more = says-then (check holds fault) next {words = []} (checked holds fault is) more

pub says-given : {A : Type 0} {value : Option A} (fault : DesignFault) (a : A) → value ≡ Some a → Says (given value fault) [] a
says-given fault a is = record { says = λ number rest. (number, ap (λ v. given v fault (place number rest)) is) }

pub says-token : (text : List ℕ) → Says (token ends) (text ∷ []) text
unfolding token
says-token text = record { says = λ number rest. (number + 1, refl) }

pub says-word : (fault : DesignFault) (text : List ℕ) → bytes_eq text text ≡ true → Says (word ends fault text) (text ∷ []) tt
unfolding word
says-word fault text same = says-then _ _ {words = text ∷ []} (says-token text) (checked (bytes_eq text text) fault same)

pub says-number : (fault : DesignFault) (low high : ℤ) (text : List ℕ) (z : ℤ) → number_in low high text ≡ Some z →
    Says (number ends fault low high) (text ∷ []) z
unfolding number
says-number fault low high text z is = says-then _ _ {words = text ∷ []} (says-token text) (says-given fault z is)

number-back : (most n : ℕ) → n < 2 ^ 64 → n ≤ most → number_in (pos 0) (pos most) (decimal n) ≡ Some (pos n)
unfolding number_in
number-back most n small below =
    let some : nat_le 0 n ≡ true = grind (arith, nat_tests) in
    let few : nat_le n most ≡ true = grind (arith, nat_tests) in
    rw (natural-back n small) (rw (some, few) refl)

-- a written number in the range
pub says-natural : (most n : ℕ) → n < 2 ^ 64 → n ≤ most → Says (natural ends Number most) (decimal n ∷ []) n
unfolding natural
says-natural most n small few =
    says-then _ _ {words = decimal n ∷ []} (says-number _ _ _ (decimal n) (pos n) (number-back most n small few)) (says-pure n)

pub says-literal : (most n : ℕ) (text : List ℕ) → number_in (pos 0) (pos most) text ≡ Some (pos n) → Says (natural ends Number most) (text ∷ []) n
unfolding natural
says-literal most n text is = says-then _ _ {words = text ∷ []} (says-number _ _ _ text (pos n) is) (says-pure n)

-- items that don't depend on those before
pub says-several : {A X : Type 0} (item : Reader DesignFault A) (words : X → List (List ℕ)) (value : X → A) (xs : List X) (found : List A) →
    AllByRecursion (λ x. Says item (words x) (value x)) xs → Says (several (λ _. item) (length xs) found) (flat_map words xs) (found ++ map value xs)
unfolding several
says-several item words value [] found each = says-value (sym (append-nil found)) (says-pure found)
says-several item words value (x ∷ xs) found each =
    says-then _ _ each.0
    (says-value (append_assoc found (value x ∷ []) (map value xs)) (says-several item words value xs (found ++ value x ∷ []) each.1))
