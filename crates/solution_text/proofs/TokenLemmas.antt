-- The first token of a text, where its bytes are known.
use Rattle.std.proofs.Common.{◌≡◌, ℕ, ◌<◌, Bool, true, false, not, nat_lt, List, [], ◌∷◌, ◌++◌, length, refl, ap, ◌∙◌, IsTrue, arith}
use Rattle.std.specs.List.{AllByRecursion, list_all, slice_split}
use Rattle.std.proofs.lemmas.Bool.{and_parts, not-true}
use Rattle.std.proofs.lemmas.Bool.Decides.{nat_tests}
use Rattle.std.proofs.lemmas.List.Elements.{All-from_recursion}
use Rattle.std.proofs.lemmas.List.Splits.{slice_split_at}
use Rattle.gr_text.specs.Tokens.{is_blank, some_runs, tokens}
use Rattle.gr_base.specs.Names as names

-- none of the elements passes the test
abbrev pub NonePass : (ℕ → Bool) → List ℕ → Type 0
NonePass test xs = AllByRecursion (λ x. test x ≡ false) xs

pub none-append : (test : ℕ → Bool) (xs ys : List ℕ) → NonePass test xs → NonePass test ys → NonePass test (xs ++ ys)
none-append test [] ys p q = q
none-append test (x ∷ xs) ys p q = (p.0, none-append test xs ys p.1 q)

-- a part ends at the first byte that passes
pub split-part : (test : ℕ → Bool) (part : List ℕ) (byte : ℕ) (rest : List ℕ) → NonePass test part → test byte ≡ true →
    slice_split test (part ++ byte ∷ rest) ≡ part ∷ slice_split test rest
split-part test part byte rest clear ends = slice_split_at test part byte rest (All-from_recursion (λ x. test x ≡ false) part clear) ends

-- a token is followed by a blank
pub token-first : (word : List ℕ) (byte : ℕ) (rest : List ℕ) → 0 < length word → NonePass is_blank word → is_blank byte ≡ true →
    tokens (word ++ byte ∷ rest) ≡ word ∷ tokens rest
unfolding tokens
token-first word byte rest some clear ends =
    let long : nat_lt 0 (length word) ≡ true = grind (arith, nat_tests) in
    ap some_runs (split-part is_blank word byte rest clear ends) ∙ rw long refl

-- what makes a name a token
pub name-clear : (bytes : List ℕ) → list_all (λ byte. not (names.is_blank byte)) bytes ≡ true → NonePass is_blank bytes
name-clear [] h = tt
name-clear (byte ∷ bytes) h =
    let parts = and_parts (not (names.is_blank byte)) (list_all (λ b. not (names.is_blank b)) bytes) h in
    (not-true (names.is_blank byte) parts.0, name-clear bytes parts.1)

pub name-some : (bytes : List ℕ) → IsTrue (names.is_token bytes) → 0 < length bytes
name-some bytes h =
    let parts = and_parts (nat_lt 0 (length bytes)) (list_all (λ byte. not (names.is_blank byte)) bytes) h in
    let long = parts.0 in
    grind (arith, nat_tests)

pub name-is-clear : (bytes : List ℕ) → IsTrue (names.is_token bytes) → NonePass is_blank bytes
name-is-clear bytes h =
    name-clear bytes (and_parts (nat_lt 0 (length bytes)) (list_all (λ byte. not (names.is_blank byte)) bytes) h).1
