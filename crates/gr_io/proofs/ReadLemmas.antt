-- How far a read goes in a text.
use Rattle.std.proofs.Common.{◌≡◌, ℕ, ◌+◌, ◌<◌, ◌≤◌, ◌↔◌, List, [], ◌++◌, ap, arith, drop, length, length-drop, min, sym, take, ◌∙◌}
use Rattle.std.proofs.lemmas.List.{drop-drop, nil_from_length, take-append-drop}

-- a read moves a place to one of the same text
pub at-read : (bytes : List ℕ) (at count room piece : ℕ) → at ≤ length bytes → count ≡ min room (min piece (length (drop at bytes))) → at + count ≤ length bytes
at-read bytes at count room piece within c = omega (arith, length-drop at bytes)

-- what a read gave comes before what is left
pub read-append-left : (bytes from new : List ℕ) (at count : ℕ) → from ≡ drop at bytes → take count new ≡ take count from → take count new ++ drop (at + count) bytes ≡ drop at bytes
read-append-left bytes from new at count f c =
    ap (λ (xs : List ℕ). xs ++ drop (at + count) bytes) (c ∙ ap (λ (xs : List ℕ). take count xs) f)
    ∙ ap (λ (xs : List ℕ). take count (drop at bytes) ++ xs) (sym (drop-drop count at bytes))
    ∙ take-append-drop count (drop at bytes)

-- a read gives nothing exactly at the end
pub read-end : (rest : List ℕ) (count room piece : ℕ) → 0 < room → 0 < piece → count ≡ min room (min piece (length rest)) → (count ≡ 0) ↔ (rest ≡ [])
read-end rest count room piece r p c =
    (λ (z : count ≡ 0). nil_from_length rest (omega arith), λ (e : rest ≡ []). let l : length rest ≡ 0 = ap length e in omega arith)
