-- The steps that every grammar of tokens is made of. A grammar is a reader: from a place among the tokens it gives a
-- value and the place behind it, or the fault of the first token that is wrong, with that token's number.
use Rattle.std.specs.Prelude.{ℕ, zero, suc, ◌+◌, Bool, List, [], ◌∷◌, ◌++◌, ℤ, pos, nat_abs, Option, Some, None, is_none, Result, Ok, Err, if◌then◌else◌}
use Rattle.std.specs.Str.{bytes_eq}
use Rattle.gr_text.specs.declared.source.Ends.{Ends}
use Rattle.gr_text.specs.Tokens.{Place, Ending, AtEnd, PastLimit}
use Rattle.gr_text.specs.Numbers.{number_in}

-- a value and the place behind it, or a fault and its token's number
abbrev pub Read : Type 0 → Type 0 → Type 0
Read F A = Result (A × Place) (F × ℕ)

abbrev pub Reader : Type 0 → Type 0 → Type 0
Reader F A = Place → Read F A

abbrev pub and_then : {F A B : Type 0} → Read F A → (A → Reader F B) → Read F B
and_then (Ok p) next = next p.0 p.1
and_then (Err e) next = Err e

infixl 10 ◌>>=◌
abbrev pub ◌>>=◌ : {F A B : Type 0} → Reader F A → (A → Reader F B) → Reader F B
first >>= next = λ place. and_then (first place) next

infixl 10 ◌>>◌
abbrev pub ◌>>◌ : {F A B : Type 0} → Reader F A → Reader F B → Reader F B
first >> next = first >>= (λ _. next)

abbrev pub pure : {F A : Type 0} → A → Reader F A
pure a = λ place. Ok (a, place)

-- a check of the token just read
unfoldable pub check : {F : Type 0} → Bool → F → Reader F (Unit {0})
check holds fault = λ place. if holds then Ok (tt, place) else Err (fault, place.number)

-- a value that the token just read gives, if it does
abbrev pub given : {F A : Type 0} → Option A → F → Reader F A
given (Some a) fault = λ place. Ok (a, place)
given None fault = λ place. Err (fault, place.number)

-- the fault where a token is due and none is left
abbrev pub end_fault : {F : Type 0} → Ends F → Ending → F
end_fault ends AtEnd = ends.ended
end_fault ends PastLimit = ends.too_long

abbrev pub next_of : {F : Type 0} → Ends F → (number : ℕ) → List (List ℕ) → Ending → Read F (List ℕ)
next_of ends number [] ending = Err (end_fault ends ending, number + 1)
next_of ends number (token ∷ rest) ending = Ok (token, record { number = number + 1; rest = rest; ending = ending })

-- the next token
unfoldable pub token : {F : Type 0} → Ends F → Reader F (List ℕ)
token ends place = next_of ends place.number place.rest place.ending

abbrev pub next_or_end : {F : Type 0} → Ends F → Place → List (List ℕ) → Ending → Read F (Option (List ℕ))
next_or_end ends place [] AtEnd = Ok (None, place)
next_or_end ends place [] PastLimit = Err (ends.too_long, place.number + 1)
next_or_end ends place (token ∷ rest) ending =
    Ok (Some token, record { number = place.number + 1; rest = rest; ending = ending })

-- the next token, or None where the text ends
unfoldable pub token_or_end : {F : Type 0} → Ends F → Reader F (Option (List ℕ))
token_or_end ends place = next_or_end ends place place.rest place.ending

-- this very word
unfoldable pub word : {F : Type 0} → Ends F → F → List ℕ → Reader F (Unit {0})
word ends fault text = do
  found ← token ends
  check (bytes_eq found text) fault

-- a whole number in a range, both ends included
unfoldable pub number : {F : Type 0} → Ends F → F → ℤ → ℤ → Reader F ℤ
number ends fault low high = do
  found ← token ends
  given (number_in low high found) fault

-- a whole number from 0 on
unfoldable pub natural : {F : Type 0} → Ends F → F → ℕ → Reader F ℕ
natural ends fault most = do
  n ← number ends fault (pos 0) (pos most)
  pure (nat_abs n)

-- so many items, one after another, behind those found so far; what an item is depends on these
unfoldable pub several : {F A : Type 0} → (List A → Reader F A) → ℕ → List A → Reader F (List A)
several item zero found = pure found
several item (suc count) found = do
  one ← item found
  several item count (found ++ one ∷ [])

-- no further token
unfoldable pub end : {F : Type 0} → Ends F → F → Reader F (Unit {0})
end ends trailing = do
  more ← token_or_end ends
  check (is_none more) trailing

-- what is said of a whole text: a value, or the first fault and the number of its token
abbrev pub value_of : {F A : Type 0} → Read F A → Result A (F × ℕ)
value_of (Ok read) = Ok read.0
value_of (Err fault) = Err fault
