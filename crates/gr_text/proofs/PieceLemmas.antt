-- A piece of a text, with its bytes taken and ahead.
use Rattle.std.proofs.Common.{◌≡◌, ℕ, ◌+◌, ◌-◌, ◌≤◌, List, ◌++◌, length, take, drop, slice_range, sym, ap, ◌∙◌, arith}
use Rattle.std.proofs.Math.Seq.{take-add}
use Rattle.std.proofs.lemmas.List.{drop-take}
use Rattle.std.proofs.lemmas.Grind.{common_steps}

few : (bytes : List ℕ) (at count filled : ℕ) → count ≤ length (slice_range bytes at filled) → count ≤ filled - at
few bytes at count filled within = grind (arith, common_steps)

-- the bytes taken after some more are taken
pub taken-more : (bytes : List ℕ) (at count filled : ℕ) → count ≤ length (slice_range bytes at filled) →
    take (at + count) bytes ≡ take at bytes ++ take count (slice_range bytes at filled)
taken-more bytes at count filled within =
    let below = few bytes at count filled within in
    let split : take (at + count) bytes ≡ take at bytes ++ take count (drop at bytes) = take-add at count bytes in
    let same : take count (take (filled - at) (drop at bytes)) ≡ take count (drop at bytes) = grind (arith, common_steps) in
    split ∙ ap (λ xs. take at bytes ++ xs) (sym same)

-- the bytes ahead then
pub ahead-more : (bytes : List ℕ) (at count filled : ℕ) → count ≤ length (slice_range bytes at filled) →
    slice_range bytes (at + count) filled ≡ drop count (slice_range bytes at filled)
ahead-more bytes at count filled within =
    let below = few bytes at count filled within in
    let left : filled - at ≡ count + (filled - (at + count)) = omega arith in
    let parted = drop-take count (filled - (at + count)) (drop at bytes) in
    let further : drop (at + count) bytes ≡ drop count (drop at bytes) = grind (arith, common_steps) in
    ap (λ xs. take (filled - (at + count)) xs) further ∙ sym parted ∙ ap (λ n. drop count (take n (drop at bytes))) (sym left)
