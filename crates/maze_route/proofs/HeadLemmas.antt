-- Bits of the buckets that have a place.
use Rattle.std.proofs.Common.{◌≡◌, ℕ, zero, suc, ◌+◌, ◌-◌, ◌*◌, ◌/◌, ◌%◌, ◌^◌, ◌<◌, ◌≤◌, inl, inr, true, List, length, get_or, Option, Some, None, is_some, IsSome, slice_get, replicate, if◌then◌else◌, refl, sym, ap, ◌∙◌, arith, w64}
use Rattle.std.specs.Int.{bit_at, trailing_zeros}
use Rattle.std.specs.Prelude.{option_and_then}
use Rattle.std.proofs.lemmas.Nat.{div-add-mod', mod_below}
use Rattle.std.proofs.lemmas.Nat.Bits.{bit_at-zero, bit_at-trailing_zeros}
use Rattle.std.proofs.lemmas.List.{length-replicate}
use Rattle.std.proofs.lemmas.Bool.{cases_lt, both_ways}
use Rattle.std.proofs.lemmas.Option.{slice_get_within}
use Rattle.maze_route.specs.Buckets.{head_at, IsFirstFull}
use Rattle.maze_route.specs.Heads.{AreMarked}
use Rattle.maze_route.proofs.KeepLemmas.{no-head}

no-word : (count n : ℕ) → get_or (replicate count zero) n zero ≡ zero
no-word zero n = refl
no-word (suc count) zero = refl
no-word (suc count) (suc n) = no-word count n

pub none-marked : (places : List (Option ℕ)) (full : List ℕ) → places ≡ replicate 1078 None → full ≡ replicate 17 0 → AreMarked places full
none-marked places full no_place no_bit = record {
  size = ap (λ (ps : List (Option ℕ)). length ps) no_place ∙ length-replicate {A = Option ℕ} 1078 None;
  words = ap (λ (ws : List ℕ). length ws) no_bit ∙ length-replicate {A = ℕ} 17 0;
  marked = λ bucket below.
      let word : get_or full (bucket / 64) 0 ≡ 0 = ap (λ (ws : List ℕ). get_or ws (bucket / 64) 0) no_bit ∙ no-word 17 (bucket / 64) in
      let head : head_at places bucket ≡ None = ap (λ (ps : List (Option ℕ)). head_at ps bucket) no_place ∙ no-head 1078 bucket in
      ap (λ (w : ℕ). bit_at w (bucket % 64)) word ∙ bit_at-zero (bucket % 64) ∙ sym (ap (λ (o : Option ℕ). if is_some o then 1 else 0) head);
}

-- the bit of a bucket
abbrev mark_of : Option ℕ → ℕ
mark_of o = if is_some o then 1 else 0

none-marks : (o : Option ℕ) → mark_of o ≡ 0 → o ≡ None
none-marks None is = refl
none-marks (Some place) is = absurd (omega arith)

some-marks : (o : Option ℕ) → mark_of o ≡ 1 → IsSome o
some-marks None is = absurd (omega arith)
some-marks (Some place) is = refl

head-by : (places : List (Option ℕ)) (b : ℕ) (o : Option (Option ℕ)) → slice_get places b ≡ o → IsSome (head_at places b) → b < length places
head-by places b None at some = absurd (both_ways true (sym some ∙ ap (λ (x : Option (Option ℕ)). is_some (option_and_then (λ (h : Option ℕ). h) x)) at) refl)
head-by places b (Some head) at some = slice_get_within places b head at

-- a word with no bit set has no bucket that has a place
pub word-empty : (places : List (Option ℕ)) (full : List ℕ) (word b : ℕ) → AreMarked places full → word < 17 → get_or full word 0 ≡ 0 → 64 * word ≤ b → b < 64 * (word + 1) → head_at places b ≡ None
word-empty places full word b are few empty from to =
    let b1 = div-add-mod' b 64 in
    let b2 = mod_below b 64 (omega arith) in
    let at : b / 64 ≡ word = omega (arith, b1, b2) in
    none-marks (head_at places b)
    (sym (are.marked b (omega arith)) ∙ ap (λ (n : ℕ). bit_at (get_or full n 0) (b % 64)) at ∙ ap (λ (w : ℕ). bit_at w (b % 64)) empty ∙ bit_at-zero (b % 64))

-- the lowest bit of the first word that has one is the first bucket that has a place
pub word-first : (places : List (Option ℕ)) (full : List ℕ) (word bits : ℕ) → AreMarked places full → word < 17 → get_or full word 0 ≡ bits → 0 < bits → bits < 2 ^ 64 →
    ((b : ℕ) → b < 64 * word → head_at places b ≡ None) → IsFirstFull places (Some (word * 64 + trailing_zeros w64 bits))
word-first places full word bits are few at some fits lower =
    let lowest = bit_at-trailing_zeros w64 bits some fits in
    let t = trailing_zeros w64 bits in
    let t_in = lowest.0 in
    let b = word * 64 + t in
    let bit_of = λ (r : ℕ) (small : r < 64).
    let c = word * 64 + r in
    let c1 = div-add-mod' c 64 in
    let c2 = mod_below c 64 (omega arith) in
    let quotient : c / 64 ≡ word = omega (arith, c1, c2) in
    let rest : c % 64 ≡ r = omega (arith, c1, c2) in
    let read : bit_at bits r ≡ mark_of (head_at places c) =
    ap (λ (w : ℕ). bit_at w r) (sym at) ∙ ap (λ (n : ℕ). bit_at (get_or full n 0) r) (sym quotient) ∙ ap (λ (n : ℕ). bit_at (get_or full (c / 64) 0) n) (sym rest) ∙ are.marked c (omega arith) in read in
    let has = some-marks (head_at places b) (sym (bit_of t (omega arith)) ∙ lowest.1) in
    let size = are.size in
    let inside = head-by places b (slice_get places b) refl has in (
      omega arith,
      (
        has,
        λ c less.
            elim (cases_lt c (64 * word)) [
              | inl before ↦ lower c before
              | inr here ↦
                  let r = c - 64 * word in
                  let same : word * 64 + r ≡ c = omega arith in
                  let none : head_at places (word * 64 + r) ≡ None = none-marks (head_at places (word * 64 + r)) (sym (bit_of r (omega arith)) ∙ lowest.2 r (omega arith)) in
                  ap (λ (n : ℕ). head_at places n) (sym same) ∙ none
            ],
      ),
    )
