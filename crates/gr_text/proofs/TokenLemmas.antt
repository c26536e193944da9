-- The tokens of a text in parts: blanks, a token, and the rest.
use Rattle.std.proofs.Common.{◌≡◌, ℕ, ◌+◌, ◌<◌, ◌≤◌, inl, inr, Bool, true, false, cond, not, ◌&&◌, nat_lt, nat_le, List, [], ◌∷◌, ◌++◌, length, take, refl, sym, ap, subst, ◌∙◌, arith, length-append, add-one}
use Rattle.std.specs.List.{slice_split, onto_first, list_all}
use Rattle.std.proofs.lemmas.List.Splits.{slice_split-cons_yes, slice_split-cons_no}
use Rattle.std.proofs.lemmas.Bool.{cases_lt}
use Rattle.std.proofs.lemmas.Bool.Decides.{nat_tests}
use Rattle.std.proofs.Math.Seq.{take-append_seam, take-append-add}
use Rattle.gr_text.specs.Tokens.{is_blank, some_runs, but_last, tokens, closed_tokens, Place, Ending, AtEnd, PastLimit, place_in}
use Rattle.gr_text.specs.Steps.{IsNext, IsLast}

-- bytes that aren't blank
abbrev pub solid : List ℕ → Bool
solid = list_all (λ byte. not (is_blank byte))

pub both-left : (p q : Bool) → (p && q) ≡ true → p ≡ true
both-left true q is = refl
both-left false q is = is

pub both-right : (p q : Bool) → (p && q) ≡ true → q ≡ true
both-right true q is = is
both-right false q is = cc

not-true : (p : Bool) → not p ≡ true → p ≡ false
not-true true is = sym is
not-true false is = refl

-- ---- the parts between blanks

split-blank : (byte : ℕ) (rest : List ℕ) → is_blank byte ≡ true → slice_split is_blank (byte ∷ rest) ≡ [] ∷ slice_split is_blank rest
split-blank byte rest blank = slice_split-cons_yes is_blank byte rest blank

split-word : (word : List ℕ) (byte : ℕ) (rest : List ℕ) → solid word ≡ true → is_blank byte ≡ true →
    slice_split is_blank (word ++ byte ∷ rest) ≡ word ∷ slice_split is_blank rest
split-word [] byte rest all blank = split-blank byte rest blank
split-word (c ∷ word) byte rest all blank =
    let here = not-true (is_blank c) (both-left (not (is_blank c)) (solid word) all) in
    slice_split-cons_no is_blank c (word ++ byte ∷ rest) here ∙
    ap (onto_first c) (split-word word byte rest (both-right (not (is_blank c)) (solid word) all) blank)

split-last : (word : List ℕ) → solid word ≡ true → slice_split is_blank word ≡ word ∷ []
split-last [] all = refl
split-last (c ∷ word) all =
    let here = not-true (is_blank c) (both-left (not (is_blank c)) (solid word) all) in
    slice_split-cons_no is_blank c word here ∙ ap (onto_first c) (split-last word (both-right (not (is_blank c)) (solid word) all))

record Parts (parts : List (List ℕ)) : Type 0 where
  first : List ℕ
  others : List (List ℕ)
  is : parts ≡ first ∷ others

onto-parts : (byte : ℕ) (parts : List (List ℕ)) → Parts parts → Parts (onto_first byte parts)
onto-parts byte parts p = record { first = byte ∷ p.first; others = p.others; is = ap (onto_first byte) p.is }

split-parts : (bytes : List ℕ) → Parts (slice_split is_blank bytes)
split-parts [] = record { first = []; others = []; is = refl }
split-parts (byte ∷ rest) =
    elim (is_blank byte) as (λ b. Parts (cond b ([] ∷ slice_split is_blank rest) (onto_first byte (slice_split is_blank rest)))) [
      | true ↦ record { first = []; others = slice_split is_blank rest; is = refl }
      | false ↦ onto-parts byte (slice_split is_blank rest) (split-parts rest)
    ]

but_last-more : (part : List ℕ) (parts : List (List ℕ)) → Parts parts → but_last (part ∷ parts) ≡ part ∷ but_last parts
but_last-more part parts p =
    let P : List (List ℕ) → Type 0 = λ ps. but_last (part ∷ ps) ≡ part ∷ but_last ps in
    subst P (sym p.is) refl

pub some_runs-word : (word : List ℕ) (parts : List (List ℕ)) → 0 < length word → some_runs (word ∷ parts) ≡ word ∷ some_runs parts
some_runs-word word parts some =
    let test : nat_lt 0 (length word) ≡ true = grind (arith, nat_tests) in
    rw test refl

-- ---- tokens

tokens-blank : (byte : ℕ) (rest : List ℕ) → is_blank byte ≡ true → tokens (byte ∷ rest) ≡ tokens rest
unfolding tokens
tokens-blank byte rest blank = ap some_runs (split-blank byte rest blank)

closed-blank : (byte : ℕ) (rest : List ℕ) → is_blank byte ≡ true → closed_tokens (byte ∷ rest) ≡ closed_tokens rest
unfolding closed_tokens
closed-blank byte rest blank =
    ap (λ parts. some_runs (but_last parts)) (split-blank byte rest blank) ∙
    ap some_runs (but_last-more [] (slice_split is_blank rest) (split-parts rest))

pub tokens-blanks : (blanks rest : List ℕ) → list_all is_blank blanks ≡ true → tokens (blanks ++ rest) ≡ tokens rest
tokens-blanks [] rest all = refl
tokens-blanks (byte ∷ blanks) rest all =
    tokens-blank byte (blanks ++ rest) (both-left (is_blank byte) (list_all is_blank blanks) all) ∙
    tokens-blanks blanks rest (both-right (is_blank byte) (list_all is_blank blanks) all)

pub closed-blanks : (blanks rest : List ℕ) → list_all is_blank blanks ≡ true → closed_tokens (blanks ++ rest) ≡ closed_tokens rest
closed-blanks [] rest all = refl
closed-blanks (byte ∷ blanks) rest all =
    closed-blank byte (blanks ++ rest) (both-left (is_blank byte) (list_all is_blank blanks) all) ∙
    closed-blanks blanks rest (both-right (is_blank byte) (list_all is_blank blanks) all)

pub tokens-word : (word : List ℕ) (byte : ℕ) (rest : List ℕ) → 0 < length word → solid word ≡ true → is_blank byte ≡ true →
    tokens (word ++ byte ∷ rest) ≡ word ∷ tokens rest
unfolding tokens
tokens-word word byte rest some all blank =
    ap some_runs (split-word word byte rest all blank) ∙ some_runs-word word (slice_split is_blank rest) some

pub closed-word : (word : List ℕ) (byte : ℕ) (rest : List ℕ) → 0 < length word → solid word ≡ true → is_blank byte ≡ true →
    closed_tokens (word ++ byte ∷ rest) ≡ word ∷ closed_tokens rest
unfolding closed_tokens
closed-word word byte rest some all blank =
    ap (λ parts. some_runs (but_last parts)) (split-word word byte rest all blank) ∙
    ap some_runs (but_last-more word (slice_split is_blank rest) (split-parts rest)) ∙
    some_runs-word word (but_last (slice_split is_blank rest)) some

pub tokens-last : (word : List ℕ) → 0 < length word → solid word ≡ true → tokens word ≡ word ∷ []
unfolding tokens
tokens-last word some all = ap some_runs (split-last word all) ∙ some_runs-word word [] some

pub closed-last : (word : List ℕ) → solid word ≡ true → closed_tokens word ≡ []
unfolding closed_tokens
closed-last word all = ap (λ parts. some_runs (but_last parts)) (split-last word all)

pub tokens-none : tokens [] ≡ []
unfolding tokens
tokens-none = refl

-- ---- places

abbrev place : ℕ → List (List ℕ) → Ending → Place
place number rest ending = record { number = number; rest = rest; ending = ending }

place-whole : (room number : ℕ) (bytes : List ℕ) → length bytes ≤ room → place_in room number bytes ≡ place number (tokens bytes) AtEnd
unfolding place_in
place-whole room number bytes within =
    let test : nat_le (length bytes) room ≡ true = grind (arith, nat_tests) in
    rw test refl

place-cut : (room number : ℕ) (bytes : List ℕ) → room < length bytes →
    place_in room number bytes ≡ place number (closed_tokens (take room bytes)) PastLimit
unfolding place_in
place-cut room number bytes past =
    let test : nat_le (length bytes) room ≡ false = grind (arith, nat_tests) in
    rw test refl

-- blanks in front don't matter
pub place-blanks : (blanks rest : List ℕ) (room number : ℕ) → list_all is_blank blanks ≡ true →
    place_in (length blanks + room) number (blanks ++ rest) ≡ place_in room number rest
place-blanks blanks rest room number all =
    let long = length-append blanks rest in
    elim (cases_lt room (length rest)) [
      | inl past ↦
          place-cut (length blanks + room) number (blanks ++ rest) (omega arith) ∙
          ap (λ ts. place number ts PastLimit) (ap closed_tokens (take-append-add blanks rest room) ∙ closed-blanks blanks (take room rest) all) ∙
          sym (place-cut room number rest past)
      | inr within ↦
          place-whole (length blanks + room) number (blanks ++ rest) (omega arith) ∙
          ap (λ ts. place number ts AtEnd) (tokens-blanks blanks rest all) ∙
          sym (place-whole room number rest within)
    ]

next-place : (before after : Place) (number : ℕ) (word : List ℕ) (rest : List (List ℕ)) (ending : Ending) →
    before ≡ place number (word ∷ rest) ending → after ≡ place (number + 1) rest ending → IsNext before word after
next-place before after number word rest ending is new =
    record {
      number = ap (λ (p : Place). p.number) new ∙ ap (λ n. n + 1) (sym (ap (λ (p : Place). p.number) is));
      rest = ap (λ (p : Place). p.rest) is ∙ ap (λ r. word ∷ r) (sym (ap (λ (p : Place). p.rest) new));
      ending = ap (λ (p : Place). p.ending) new ∙ sym (ap (λ (p : Place). p.ending) is);
    }

closed-taken : (word : List ℕ) (byte : ℕ) (rest : List ℕ) (room : ℕ) → 0 < length word → solid word ≡ true → is_blank byte ≡ true →
    closed_tokens (word ++ take (room + 1) (byte ∷ rest)) ≡ word ∷ closed_tokens (take room rest)
closed-taken word byte rest room some all blank =
    let one : take (room + 1) (byte ∷ rest) ≡ byte ∷ take room rest = rw add-one refl in
    ap (λ xs. closed_tokens (word ++ xs)) one ∙ closed-word word byte (take room rest) some all blank

-- a token that a blank follows
pub place-word : (word : List ℕ) (byte : ℕ) (rest : List ℕ) (room number : ℕ) → 0 < length word → solid word ≡ true → is_blank byte ≡ true →
    IsNext (place_in (length word + (room + 1)) number (word ++ byte ∷ rest)) word (place_in room (number + 1) rest)
place-word word byte rest room number some all blank =
    let long = length-append word (byte ∷ rest) in
    elim (cases_lt room (length rest)) [
      | inl past ↦
          next-place _ _ number word (closed_tokens (take room rest)) PastLimit
          (place-cut (length word + (room + 1)) number (word ++ byte ∷ rest) (omega arith) ∙
          ap (λ ts. place number ts PastLimit)
          (ap closed_tokens (take-append-add word (byte ∷ rest) (room + 1)) ∙ closed-taken word byte rest room some all blank))
          (place-cut room (number + 1) rest past)
      | inr within ↦
          next-place _ _ number word (tokens rest) AtEnd
          (place-whole (length word + (room + 1)) number (word ++ byte ∷ rest) (omega arith) ∙
          ap (λ ts. place number ts AtEnd) (tokens-word word byte rest some all blank))
          (place-whole room (number + 1) rest within)
    ]

-- a token that reaches the text's end
pub place-last : (word : List ℕ) (room number : ℕ) → 0 < length word → solid word ≡ true → length word ≤ room →
    IsNext (place_in room number word) word (place_in 0 (number + 1) [])
place-last word room number some all within =
    next-place _ _ number word [] AtEnd
    (place-whole room number word within ∙ ap (λ ts. place number ts AtEnd) (tokens-last word some all))
    (place-whole 0 (number + 1) [] (omega arith) ∙ ap (λ ts. place (number + 1) ts AtEnd) tokens-none)

-- the text's end
pub place-end : (room number : ℕ) → place_in room number [] ≡ place number [] AtEnd
place-end room number = place-whole room number [] (omega arith) ∙ ap (λ ts. place number ts AtEnd) tokens-none

last-place : (before : Place) (number : ℕ) (ending : Ending) → before ≡ place number [] ending → IsLast before ending
last-place before number ending is =
    record { rest = ap (λ (p : Place). p.rest) is; behind = ap (λ (p : Place). p.ending) is }

pub place-is_end : (room number : ℕ) → IsLast (place_in room number []) AtEnd
place-is_end room number = last-place (place_in room number []) number AtEnd (place-end room number)

-- a token that no blank follows within the limit
pub place-past : (word rest : List ℕ) (number : ℕ) → solid word ≡ true → 0 < length rest →
    IsLast (place_in (length word) number (word ++ rest)) PastLimit
place-past word rest number all some =
    let long = length-append word rest in
    last-place _ number PastLimit
    (place-cut (length word) number (word ++ rest) (omega arith) ∙
    ap (λ ts. place number ts PastLimit) (ap closed_tokens (take-append_seam word rest) ∙ closed-last word all))

-- the number of a place is the one it was made with
pub place-number : (room number : ℕ) (bytes : List ℕ) → (place_in room number bytes).number ≡ number
place-number room number bytes =
    elim (cases_lt room (length bytes)) [
      | inl past ↦ ap (λ (p : Place). p.number) (place-cut room number bytes past)
      | inr within ↦ ap (λ (p : Place). p.number) (place-whole room number bytes within)
    ]
