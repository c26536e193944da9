-- How often a number stands in a range, after a test.
use Rattle.std.proofs.Common.{◌≡◌, ℕ, suc, zero, ◌+◌, ◌<◌, ◌≤◌, inl, inr, Bool, true, false, cond, ◌==◌, List, [], ◌∷◌, ◌++◌, filter, if◌then◌else◌, refl, sym, ap, ◌∙◌, arith}
use Rattle.std.specs.List.{count_by, range_with_len}
use Rattle.std.proofs.lemmas.Bool.{cases_Bool, cases_eq, both_ways}
use Rattle.std.proofs.lemmas.Bool.Decides.{nat_tests}
use Rattle.std.proofs.lemmas.List.Sums.{sum_by-cons}
use Rattle.std.proofs.lemmas.List.{append-nil}
use Rattle.std.proofs.lemmas.List.Elements.{filter-append}
use Rattle.gr_base.proofs.General.{filter-yes, filter-no, range-more}

abbrev pub times : ℕ → List ℕ → ℕ
times net nets = count_by (λ (left : ℕ). left == net) nets

times-yes : (net x : ℕ) (xs : List ℕ) → x ≡ net → times net (x ∷ xs) ≡ 1 + times net xs
times-yes net x xs is =
    let same : (x == net) ≡ true = grind (arith, nat_tests) in
    sum_by-cons (λ (left : ℕ). cond {A = ℕ} (left == net) 1 0) x xs ∙ ap (λ (b : Bool). cond {A = ℕ} b 1 0 + times net xs) same

times-no : (net x : ℕ) (xs : List ℕ) → (x ≡ net → ⊥) → times net (x ∷ xs) ≡ times net xs
times-no net x xs apart =
    let other : (x == net) ≡ false = grind (arith, nat_tests) in
    let more = sum_by-cons (λ (left : ℕ). cond {A = ℕ} (left == net) 1 0) x xs in
    let none : cond {A = ℕ} (x == net) 1 0 ≡ 0 = ap (λ (b : Bool). cond {A = ℕ} b 1 0) other in
    omega (arith, more, none)

-- a number that fails the test isn't kept
absent : (p : ℕ → Bool) (net : ℕ) (xs : List ℕ) → p net ≡ false → times net (filter p xs) ≡ 0
absent p net [] off = refl
absent p net (x ∷ xs) off = elim (cases_Bool (p x)) [
  | inl on ↦
      ap (λ (ys : List ℕ). times net ys) (filter-yes p x xs on)
      ∙ times-no net x (filter p xs) (λ same. both_ways (p x) (ap p same ∙ off) on) ∙ absent p net xs off
  | inr out ↦ ap (λ (ys : List ℕ). times net ys) (filter-no p x xs out) ∙ absent p net xs off
]

-- a number before the range isn't in it
early : (p : ℕ → Bool) (net from n : ℕ) → net < from → times net (filter p (range_with_len from n)) ≡ 0
early p net from zero before = refl
early p net from (suc n) before = elim (cases_Bool (p from)) [
  | inl on ↦
      ap (λ (ys : List ℕ). times net ys) (filter-yes p from (range_with_len (from + 1) n) on)
      ∙ times-no net from (filter p (range_with_len (from + 1) n)) (λ same. absurd (omega (arith, same, before))) ∙ early p net (from + 1) n (omega arith)
  | inr out ↦ ap (λ (ys : List ℕ). times net ys) (filter-no p from (range_with_len (from + 1) n) out) ∙ early p net (from + 1) n (omega arith)
]

-- one that passes and lies in the range is kept once
kept : (p : ℕ → Bool) (net from n : ℕ) → p net ≡ true → from ≤ net → net < from + n → times net (filter p (range_with_len from n)) ≡ 1
kept p net from zero on low high = absurd (omega arith)
kept p net from (suc n) on low high = elim (cases_eq net from) [
  | inl same ↦
      let here : from ≡ net = sym same in
      let rest = early p net (from + 1) n (omega (arith, same)) in
      ap (λ (ys : List ℕ). times net ys) (filter-yes p from (range_with_len (from + 1) n) (ap p here ∙ on))
      ∙ times-yes net from (filter p (range_with_len (from + 1) n)) here ∙ omega (arith, rest)
  | inr apart ↦
      let rest = kept p net (from + 1) n on (omega (arith, apart)) (omega arith) in
      elim (cases_Bool (p from)) [
        | inl on_too ↦
            ap (λ (ys : List ℕ). times net ys) (filter-yes p from (range_with_len (from + 1) n) on_too)
            ∙ times-no net from (filter p (range_with_len (from + 1) n)) (λ same. apart (sym same)) ∙ rest
        | inr out ↦ ap (λ (ys : List ℕ). times net ys) (filter-no p from (range_with_len (from + 1) n) out) ∙ rest
      ]
]

-- a number that passes the test only within the range is kept as often as it passes
pub times-kept : (p : ℕ → Bool) (n net : ℕ) → (p net ≡ true → net < n) → times net (filter p (range_with_len 0 n)) ≡ (if p net then 1 else 0)
times-kept p n net within = elim (cases_Bool (p net)) [
  | inl on ↦
      kept p net 0 n on (omega arith) (let below = within on in omega (arith, below))
      ∙ sym (ap (λ (b : Bool). if b then 1 else 0) on)
  | inr off ↦ absent p net (range_with_len 0 n) off ∙ sym (ap (λ (b : Bool). if b then 1 else 0) off)
]

-- the numbers below one more that pass a test
more-kept : (p : ℕ → Bool) (n : ℕ) → filter p (range_with_len 0 (n + 1)) ≡ filter p (range_with_len 0 n) ++ filter p (n ∷ [])
more-kept p n =
    let last : 0 + n ≡ n = omega arith in
    ap (λ (ns : List ℕ). filter p ns) (range-more 0 n ∙ ap (λ (k : ℕ). range_with_len 0 n ++ k ∷ []) last)
    ∙ filter-append p (range_with_len 0 n) (n ∷ [])

pub one-more-kept : (p : ℕ → Bool) (n : ℕ) → p n ≡ true → filter p (range_with_len 0 (n + 1)) ≡ filter p (range_with_len 0 n) ++ n ∷ []
one-more-kept p n on = more-kept p n ∙ ap (λ (ns : List ℕ). filter p (range_with_len 0 n) ++ ns) (filter-yes p n [] on)

pub none-more-kept : (p : ℕ → Bool) (n : ℕ) → p n ≡ false → filter p (range_with_len 0 (n + 1)) ≡ filter p (range_with_len 0 n)
none-more-kept p n off =
    more-kept p n ∙ ap (λ (ns : List ℕ). filter p (range_with_len 0 n) ++ ns) (filter-no p n [] off) ∙ append-nil (filter p (range_with_len 0 n))
