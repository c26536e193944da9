-- How many low bits two numbers differ in.
use Rattle.std.proofs.Common.{◌≡◌, ◌≢◌, ℕ, zero, suc, ◌+◌, ◌-◌, ◌*◌, ◌/◌, ◌^◌, ◌<◌, ◌≤◌, inl, inr, refl, sym, ap, subst, ◌∙◌, arith}
use Rattle.std.specs.Int.Bits.{bit_xor, xor_self, xor_assoc, xor_zero_r, xor_zero_l, xor_lt, xor_shr}
use Rattle.std.specs.Int.{w64, leading_zeros}
use Rattle.std.proofs.Math.Nat.{div-eq_of_lt, lt-mul-div-succ, pow-le-pow_right, pow-suc, one-le-pow, div-div-eq-div-mul, mul-le-mul_left, mul-div-le, div-one}
use Rattle.std.proofs.lemmas.Nat.{leading_length, div-add-mod', mod_below}
use Rattle.std.proofs.lemmas.Bool.{cases_lt, cases_eq}
use Rattle.maze_route.specs.Buckets.{DifferIn}

xor-equal : (a b : ℕ) → bit_xor a b ≡ 0 → a ≡ b
xor-equal a b none =
    sym (xor_zero_r a) ∙ ap (λ (n : ℕ). bit_xor a n) (sym (xor_self b)) ∙ sym (xor_assoc a b b) ∙ ap (λ (n : ℕ). bit_xor n b) none ∙ xor_zero_l b

some-pow : (k : ℕ) → 0 < 2 ^ k
some-pow k = let h = one-le-pow k 2 (omega arith) in omega arith

shift-le : (a b k : ℕ) → a ≤ b → a / 2 ^ k ≤ b / 2 ^ k
shift-le a b k le =
    elim (cases_lt (b / 2 ^ k) (a / 2 ^ k)) [
      | inl less ↦
          let over : b < 2 ^ k * (b / 2 ^ k + 1) = lt-mul-div-succ b (some-pow k) in
          let step : 2 ^ k * (b / 2 ^ k + 1) ≤ 2 ^ k * (a / 2 ^ k) = mul-le-mul_left (2 ^ k) (omega arith) in
          let under = mul-div-le a (2 ^ k) in
          absurd (omega arith)
      | inr more ↦ more
    ]

shift-small : (x k : ℕ) → x / 2 ^ k ≡ 0 → x < 2 ^ k
shift-small x k none =
    let h : x < 2 ^ k * (x / 2 ^ k + 1) = lt-mul-div-succ x (some-pow k) in
    let e : 2 ^ k * (x / 2 ^ k + 1) ≡ 2 ^ k * (0 + 1) = ap (λ (n : ℕ). 2 ^ k * (n + 1)) none in
    omega (arith, e)

-- the bits up to the highest one in which two numbers differ
pub differ-bits : (last key zero_bits bucket : ℕ) → last < 2 ^ 64 → key < 2 ^ 64 → zero_bits ≡ leading_zeros w64 (bit_xor last key) → bucket ≡ 64 - zero_bits → (DifferIn last key bucket) × (bucket < 65)
differ-bits last key zero_bits bucket last_fits key_fits is_zeros is =
    let x = bit_xor last key in
    let low = xor_lt 64 last key last_fits key_fits in
    let length = leading_length 64 x low in
    let m = length.0 in
    let sum = length.1 in
    let below = length.2 in
    let near = length.3 in
    let same : bucket ≡ m = omega arith in
    let P : ℕ → Type 0 = λ b. (DifferIn last key b) × (b < 65) in
    subst P (sym same) (
      record {
        agrees = xor-equal (last / 2 ^ m) (key / 2 ^ m) (sym (xor_shr last key m) ∙ div-eq_of_lt below);
        differs = λ bits less equal.
            let none : bit_xor (last / 2 ^ bits) (key / 2 ^ bits) ≡ 0 = ap (λ (n : ℕ). bit_xor n (key / 2 ^ bits)) equal ∙ xor_self (key / 2 ^ bits) in
            let small = shift-small x bits (xor_shr last key bits ∙ none) in
            let up : 2 ^ suc bits ≤ 2 ^ m = pow-le-pow_right {n = 2} (omega arith) (omega arith) in
            let twice : 2 ^ suc bits ≡ 2 ^ bits * 2 = pow-suc 2 bits in
            absurd (omega arith);
      },
      omega arith,
    )

-- keys that agree past some bits agree past more
agree-more : (a b n : ℕ) → a / 2 ^ n ≡ b / 2 ^ n → a / 2 ^ suc n ≡ b / 2 ^ suc n
agree-more a b n same =
    let twice : 2 ^ suc n ≡ 2 ^ n * 2 = pow-suc 2 n in
    ap (λ (k : ℕ). a / k) twice ∙ sym (div-div-eq-div-mul a (2 ^ n) 2) ∙ ap (λ (q : ℕ). q / 2) same ∙ div-div-eq-div-mul b (2 ^ n) 2 ∙ ap (λ (k : ℕ). b / k) (sym twice)

agree-by : (a b n d m : ℕ) → m ≡ n + d → a / 2 ^ n ≡ b / 2 ^ n → a / 2 ^ m ≡ b / 2 ^ m
agree-by a b n zero m is same =
    let e : m ≡ n = omega arith in
    let P : ℕ → Type 0 = λ k. a / 2 ^ k ≡ b / 2 ^ k in subst P (sym e) same
agree-by a b n (suc d) m is same =
    let e : m ≡ suc (n + d) = omega arith in
    let P : ℕ → Type 0 = λ k. a / 2 ^ k ≡ b / 2 ^ k in subst P (sym e) (agree-more a b (n + d) (agree-by a b n d (n + d) refl same))

pub agree-up : (a b n m : ℕ) → n ≤ m → a / 2 ^ n ≡ b / 2 ^ n → a / 2 ^ m ≡ b / 2 ^ m
agree-up a b n m le same = agree-by a b n (m - n) m (omega arith) same

pub one-differ : (last key a b : ℕ) → DifferIn last key a → DifferIn last key b → a ≡ b
one-differ last key a b one two =
    elim (cases_lt a b) [
      | inl less ↦ absurd (two.differs a less one.agrees)
      | inr more ↦ elim (cases_lt b a) [
        | inl less ↦ absurd (one.differs b less two.agrees)
        | inr le ↦ omega arith
      ]
    ]

-- a number that differs in fewer bits is less
pub fewer-less : (last a b m n : ℕ) → DifferIn last a m → DifferIn last b n → m < n → last ≤ b → a < b
fewer-less last a b m n low high less later =
    let k = n - 1 in
    let one = agree-up last a m k (omega arith) low.agrees in
    let two : last / 2 ^ k ≢ b / 2 ^ k = high.differs k (omega arith) in
    let up : last / 2 ^ k ≤ b / 2 ^ k = shift-le last b k later in
    elim (cases_lt a b) [
      | inl is ↦ is
      | inr ge ↦ let down : b / 2 ^ k ≤ a / 2 ^ k = shift-le b a k ge in absurd (omega arith)
    ]

halves : (q a b : ℕ) → q ≤ a → q ≢ a → q / 2 ≡ a / 2 → q ≤ b → q ≢ b → q / 2 ≡ b / 2 → a ≡ b
halves q a b le_a other_a same_a le_b other_b same_b =
    let q1 = div-add-mod' q 2 in
    let a1 = div-add-mod' a 2 in
    let b1 = div-add-mod' b 2 in
    let q2 = mod_below q 2 (omega arith) in
    let a2 = mod_below a 2 (omega arith) in
    let b2 = mod_below b 2 (omega arith) in
    omega (arith, q1, a1, b1, q2, a2, b2)

shift-twice : (a n : ℕ) → a / 2 ^ n / 2 ≡ a / 2 ^ suc n
shift-twice a n = div-div-eq-div-mul a (2 ^ n) 2 ∙ ap (λ (k : ℕ). a / k) (sym (pow-suc 2 n))

-- two numbers that differ in the same bits agree past fewer with each other
pub same-closer : (last a b n : ℕ) → 0 < n → DifferIn last a n → DifferIn last b n → last ≤ a → last ≤ b → a / 2 ^ (n - 1) ≡ b / 2 ^ (n - 1)
same-closer last a b n some one two later_a later_b =
    let k = n - 1 in
    let e : suc k ≡ n = omega arith in
    let P : ℕ → ℕ → Type 0 = λ x m. last / 2 ^ m ≡ x / 2 ^ m in
    let Pa : ℕ → Type 0 = λ m. P a m in
    let Pb : ℕ → Type 0 = λ m. P b m in
    let agree_a = subst Pa (sym e) one.agrees in
    let agree_b = subst Pb (sym e) two.agrees in
    halves (last / 2 ^ k) (a / 2 ^ k) (b / 2 ^ k)
    (shift-le last a k later_a) (one.differs k (omega arith)) (shift-twice last k ∙ agree_a ∙ sym (shift-twice a k))
    (shift-le last b k later_b) (two.differs k (omega arith)) (shift-twice last k ∙ agree_b ∙ sym (shift-twice b k))

-- one that differs in more bits differs in them from the other, too
pub more-same : (last least key n b : ℕ) → DifferIn last least n → DifferIn last key b → n < b → DifferIn least key b
more-same last least key n b here there less = record {
  agrees = sym (agree-up last least n b (omega arith) here.agrees) ∙ there.agrees;
  differs = λ bits low same.
      elim (cases_lt bits n) [
        | inl lower ↦ there.differs n less (here.agrees ∙ agree-up least key bits n (omega arith) same)
        | inr higher ↦ there.differs bits low (agree-up last least n bits higher here.agrees ∙ same)
      ];
}

pub least-differ : (last key b n : ℕ) → DifferIn last key b → last / 2 ^ n ≡ key / 2 ^ n → b ≤ n
least-differ last key b n is agrees = elim (cases_lt n b) [ inl less ↦ absurd (is.differs n less agrees) | inr le ↦ le ]

pub own-differ : (last : ℕ) → DifferIn last last 0
own-differ last = record { agrees = refl; differs = λ bits less. absurd (omega arith) }

pub zero-differ : (last key : ℕ) → DifferIn last key 0 → last ≡ key
zero-differ last key is =
    let one : 2 ^ 0 ≡ 1 = refl in
    let h = is.agrees in
    sym (div-one last) ∙ h ∙ div-one key

-- numbers that agree past some bits differ in at most these
pub some-differ : (a b n : ℕ) → a / 2 ^ n ≡ b / 2 ^ n → (k : ℕ) × ((k ≤ n) × DifferIn a b k)
some-differ a b zero same = (0, (omega arith, record { agrees = same; differs = λ bits less. absurd (omega arith) }))
some-differ a b (suc n) same =
    elim (cases_eq (a / 2 ^ n) (b / 2 ^ n)) [
      | inl lower ↦ let found = some-differ a b n lower in (found.0, (let h = found.1.0 in omega arith, found.1.1))
      | inr other ↦ (suc n, (omega arith, record { agrees = same; differs = λ bits less equal. other (agree-up a b bits n (omega arith) equal) }))
    ]
