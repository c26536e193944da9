-- Buckets of keys, by blocks of keys.
use Rattle.std.proofs.Common.{◌≡◌, ℕ, zero, suc, ◌+◌, ◌-◌, ◌/◌, ◌%◌, ◌^◌, ◌<◌, ◌≤◌, inl, inr, refl, sym, ap, subst, ◌∙◌, arith}
use Rattle.std.specs.Int.{w64, leading_zeros}
use Rattle.std.specs.Int.Bits.{bit_xor}
use Rattle.std.proofs.Math.Nat.{div-eq_of_lt}
use Rattle.std.proofs.lemmas.Nat.{div-add-mod', mod_below}
use Rattle.std.proofs.lemmas.Bool.{cases_lt}
use Rattle.maze_route.specs.Buckets.{DifferIn, number_of, IsBucket}
use Rattle.maze_route.proofs.BitLemmas.{differ-bits, least-differ, one-differ, fewer-less, same-closer, more-same, zero-differ, some-differ}

block-up : (a b : ℕ) → a ≤ b → a / 1024 ≤ b / 1024
block-up a b le =
    let a1 = div-add-mod' a 1024 in
    let b1 = div-add-mod' b 1024 in
    let b2 = mod_below b 1024 (omega arith) in
    omega (arith, a1, b1, b2)

block-less : (a b : ℕ) → a / 1024 < b / 1024 → a < b
block-less a b less =
    let a1 = div-add-mod' a 1024 in
    let b1 = div-add-mod' b 1024 in
    let a2 = mod_below a 1024 (omega arith) in
    omega (arith, a1, b1, a2)

pub in-block : (a b : ℕ) → a / 1024 ≡ b / 1024 → a % 1024 < b % 1024 → a < b
in-block a b same less =
    let a1 = div-add-mod' a 1024 in
    let b1 = div-add-mod' b 1024 in
    omega (arith, a1, b1)

near-by : (last key bucket bits : ℕ) → DifferIn (last / 1024) (key / 1024) bits → bucket ≡ number_of key bits → bucket < 1024 → (last / 1024 ≡ key / 1024) × (bucket ≡ key % 1024)
near-by last key bucket zero differ is low = (zero-differ (last / 1024) (key / 1024) differ, is)
near-by last key bucket (suc bits) differ is low = absurd (omega arith)

-- a key of a bucket of its own is of the last key's block
pub near-key : (last key bucket : ℕ) → IsBucket last key bucket → bucket < 1024 → (last / 1024 ≡ key / 1024) × (bucket ≡ key % 1024)
near-key last key bucket is low = near-by last key bucket is.bits is.differ is.is low

far-by : (last key bucket bits : ℕ) → DifferIn (last / 1024) (key / 1024) bits → bucket ≡ number_of key bits → 1024 ≤ bucket → (far : ℕ) × ((bucket ≡ 1024 + far) × DifferIn (last / 1024) (key / 1024) (suc far))
far-by last key bucket zero differ is high = let h = mod_below key 1024 (omega arith) in absurd (omega arith)
far-by last key bucket (suc bits) differ is high = (bits, (is, differ))

far-key : (last key bucket : ℕ) → IsBucket last key bucket → 1024 ≤ bucket → (far : ℕ) × ((bucket ≡ 1024 + far) × DifferIn (last / 1024) (key / 1024) (suc far))
far-key last key bucket is high = far-by last key bucket is.bits is.differ is.is high

-- keys of one block have buckets of their own
pub make-near : (last key : ℕ) → last / 1024 ≡ key / 1024 → IsBucket last key (key % 1024)
make-near last key same = record {
  bits = 0;
  differ = record { agrees = ap (λ (n : ℕ). n / 2 ^ 0) same; differs = λ fewer less. absurd (omega arith) };
  is = refl;
}

pub own-bucket : (last : ℕ) → IsBucket last last (last % 1024)
own-bucket last = make-near last last refl

-- the last key's own bucket holds it alone
pub own-key : (last key : ℕ) → IsBucket last key (last % 1024) → last ≡ key
own-key last key is =
    let near = near-key last key (last % 1024) is (mod_below last 1024 (omega arith)) in
    let a1 = div-add-mod' last 1024 in
    let b1 = div-add-mod' key 1024 in
    let same = near.0 in
    let low = near.1 in
    omega (arith, a1, b1, same, low)

pub one-bucket : (last key a b : ℕ) → IsBucket last key a → IsBucket last key b → a ≡ b
one-bucket last key a b one two =
    one.is ∙ ap (λ (bits : ℕ). number_of key bits) (one-differ (last / 1024) (key / 1024) one.bits two.bits one.differ two.differ) ∙ sym two.is

-- a key of a lower bucket is less
pub lower-less : (last a b m n : ℕ) → IsBucket last a m → IsBucket last b n → m < n → last ≤ b → a < b
lower-less last a b m n low high less later =
    elim (cases_lt n 1024) [
      | inl near_n ↦
          let na = near-key last a m low (omega arith) in
          let nb = near-key last b n high near_n in
          let is_m = na.1 in
          let is_n = nb.1 in
          in-block a b (sym na.0 ∙ nb.0) (omega arith)
      | inr far_n ↦
          let fb = far-key last b n high far_n in
          let is_n = fb.1.0 in
          let up = block-up last b later in
          elim (cases_lt m 1024) [
            | inl near_m ↦
                let na = near-key last a m low near_m in
                let same : DifferIn (last / 1024) (a / 1024) 0 = record { agrees = ap (λ (n : ℕ). n / 2 ^ 0) na.0; differs = λ fewer few. absurd (omega arith) } in
                block-less a b (fewer-less (last / 1024) (a / 1024) (b / 1024) 0 (suc fb.0) same fb.1.1 (omega arith) up)
            | inr far_m ↦
                let fa = far-key last a m low far_m in
                let is_m = fa.1.0 in
                block-less a b (fewer-less (last / 1024) (a / 1024) (b / 1024) (suc fa.0) (suc fb.0) fa.1.1 fb.1.1 (omega arith) up)
          ]
    ]

number-below : (key bits far : ℕ) → bits ≤ far → number_of key bits < 1024 + far
number-below key zero far le = let h = mod_below key 1024 (omega arith) in omega arith
number-below key (suc bits) far le = omega arith

-- keys of one far bucket have a lower one with each other
pub closer-bucket : (last a b n : ℕ) → 1024 ≤ n → IsBucket last a n → IsBucket last b n → last ≤ a → last ≤ b → (lower : ℕ) × ((lower < n) × IsBucket a b lower)
closer-bucket last a b n high one two later_a later_b =
    let fa = far-key last a n one high in
    let fb = far-key last b n two high in
    let is_a = fa.1.0 in
    let is_b = fb.1.0 in
    let D : ℕ → Type 0 = λ bits. DifferIn (last / 1024) (b / 1024) bits in
    let same : suc fb.0 ≡ suc fa.0 = omega arith in
    let P : ℕ → Type 0 = λ m. a / 1024 / 2 ^ m ≡ b / 1024 / 2 ^ m in
    let less : suc fa.0 - 1 ≡ fa.0 = omega arith in
    let agrees = subst P less (same-closer (last / 1024) (a / 1024) (b / 1024) (suc fa.0) (omega arith) fa.1.1 (subst D same fb.1.1) (block-up last a later_a) (block-up last b later_b)) in
    let found = some-differ (a / 1024) (b / 1024) fa.0 agrees in
    let below = number-below b found.0 fa.0 found.1.0 in
    (number_of b found.0, (omega arith, record { bits = found.0; differ = found.1.1; is = refl }))

-- the bucket of a key stays as the last key grows within a lower one
pub higher-same : (last least key n b : ℕ) → IsBucket last least n → IsBucket last key b → n < b → IsBucket least key b
higher-same last least key n b here there less =
    elim (cases_lt n 1024) [
      | inl near ↦
          let block = near-key last least n here near in
          let D : ℕ → Type 0 = λ q. DifferIn q (key / 1024) there.bits in
          record { bits = there.bits; differ = subst D block.0 there.differ; is = there.is }
      | inr far ↦
          let fn = far-key last least n here far in
          let fb = far-key last key b there (omega arith) in
          let is_n = fn.1.0 in
          let is_b = fb.1.0 in
          record { bits = suc fb.0; differ = more-same (last / 1024) (least / 1024) (key / 1024) (suc fn.0) (suc fb.0) fn.1.1 fb.1.1 (omega arith); is = is_b }
    ]

-- the bucket of a key stays where the last key's block does
pub same-block : (last next key b : ℕ) → last / 1024 ≡ next / 1024 → IsBucket last key b → IsBucket next key b
same-block last next key b block is =
    let D : ℕ → Type 0 = λ q. DifferIn q (key / 1024) is.bits in
    record { bits = is.bits; differ = subst D block is.differ; is = is.is }

-- the bits in which the blocks of two keys differ
pub block-bits : (last key bits : ℕ) → last < 2 ^ 64 → key < 2 ^ 64 → bits ≡ 64 - leading_zeros w64 (bit_xor (last / 1024) (key / 1024)) → (DifferIn (last / 1024) (key / 1024) bits) × (bits ≤ 54)
block-bits last key bits last_fits key_fits is =
    let last1 = div-add-mod' last 1024 in
    let key1 = div-add-mod' key 1024 in
    let differ = (differ-bits (last / 1024) (key / 1024) (leading_zeros w64 (bit_xor (last / 1024) (key / 1024))) bits (omega (arith, last1)) (omega (arith, key1)) refl is).0 in
    let last_low : last / 1024 / 2 ^ 54 ≡ 0 = div-eq_of_lt (omega (arith, last1)) in
    let key_low : key / 1024 / 2 ^ 54 ≡ 0 = div-eq_of_lt (omega (arith, key1)) in
    (differ, least-differ (last / 1024) (key / 1024) bits 54 differ (last_low ∙ sym key_low))

pub near-is : (last key bits bucket : ℕ) → DifferIn (last / 1024) (key / 1024) bits → bits ≡ 0 → bucket ≡ key % 1024 → IsBucket last key bucket
near-is last key bits bucket differ none is =
    record { bits = bits; differ = differ; is = is ∙ ap (λ (n : ℕ). number_of key n) (sym none) }

far-number : (key bits : ℕ) → 0 < bits → number_of key bits ≡ 1023 + bits
far-number key zero some = absurd (omega arith)
far-number key (suc bits) some = omega arith

pub far-is : (last key bits bucket : ℕ) → DifferIn (last / 1024) (key / 1024) bits → 0 < bits → bucket ≡ 1023 + bits → IsBucket last key bucket
far-is last key bits bucket differ some is =
    record { bits = bits; differ = differ; is = is ∙ sym (far-number key bits some) }
