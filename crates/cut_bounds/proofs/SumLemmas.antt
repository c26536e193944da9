-- Sums over the numbers below a number, over wire edges, and of lists in which one number gains.
use Rattle.std.proofs.Common.{◌≡◌, ℕ, suc, zero, ◌+◌, ◌*◌, ◌<◌, ◌≤◌, inl, inr, Bool, true, false, ◌==◌, List, [], ◌∷◌, ◌++◌, length, get_or, replicate, sum_by, refl, sym, ap, subst, ◌∙◌, arith}
use Rattle.std.specs.List.{range_with_len}
use Rattle.std.proofs.lemmas.Bool.{cases_Bool, cases_lt}
use Rattle.std.proofs.lemmas.Bool.Decides.{nat_tests}
use Rattle.std.proofs.lemmas.List.{get_or-replicate, get_or-set_same, get_or-set_other, length-replicate, length-set}
use Rattle.std.proofs.lemmas.List.Sums.{sum_by-cons, sum_by_push}
use Rattle.gr_base.proofs.General.{eqb-swap, range-more}
use Rattle.cut_bounds.specs.TileWires.{sum_below, where_so, gained}

-- ---- numbers where a test holds

pub where-yes : (so : Bool) (n : ℕ) → so ≡ true → where_so so n ≡ n
where-yes so n yes' = rw yes' refl

pub where-no : (so : Bool) (n : ℕ) → so ≡ false → where_so so n ≡ 0
where-no so n none = rw none refl

pub where-le : (so : Bool) (n : ℕ) → where_so so n ≤ n
where-le true n = omega arith
where-le false n = omega arith

-- ---- sums over the numbers below a number

pub below-more : (n : ℕ) (f : ℕ → ℕ) → sum_below (n + 1) f ≡ sum_below n f + f n
below-more n f =
    let none : 0 + n ≡ n = omega arith in
    ap (λ (ks : List ℕ). sum_by f ks) (range-more 0 n ∙ ap (λ (k : ℕ). range_with_len 0 n ++ k ∷ []) none) ∙ sum_by_push f (range_with_len 0 n) n

below-suc : (n : ℕ) (f : ℕ → ℕ) → sum_below (suc n) f ≡ sum_below n f + f n
below-suc n f = let e : suc n ≡ n + 1 = omega arith in ap (λ (m : ℕ). sum_below m f) e ∙ below-more n f

pub below-same : (n : ℕ) (f h : ℕ → ℕ) → ((k : ℕ) → k < n → f k ≡ h k) → sum_below n f ≡ sum_below n h
below-same zero f h same = refl
below-same (suc n) f h same =
    let rest = below-same n f h (λ k lower. same k (omega (arith, lower))) in
    let last = same n (omega arith) in
    omega (arith, below-suc n f, below-suc n h, rest, last)

pub below-most : (n most : ℕ) (f : ℕ → ℕ) → ((k : ℕ) → k < n → f k ≤ most) → sum_below n f ≤ n * most
below-most zero most f small = omega arith
below-most (suc n) most f small =
    let rest = below-most n most f (λ k lower. small k (omega (arith, lower))) in
    let last = small n (omega arith) in
    let e : suc n * most ≡ n * most + most = mul-suc' n most in
    omega (arith, below-suc n f, rest, last, e)
  where
    mul-suc' : (n most : ℕ) → suc n * most ≡ n * most + most
    mul-suc' n most = omega arith

pub below-le : (n : ℕ) (f h : ℕ → ℕ) → ((k : ℕ) → k < n → f k ≤ h k) → sum_below n f ≤ sum_below n h
below-le zero f h small = omega arith
below-le (suc n) f h small =
    let rest = below-le n f h (λ k lower. small k (omega (arith, lower))) in
    let last = small n (omega arith) in
    omega (arith, below-suc n f, below-suc n h, rest, last)

pub below-up : (n m : ℕ) (f : ℕ → ℕ) → n ≤ m → sum_below n f ≤ sum_below m f
below-up n zero f low = let none : n ≡ 0 = omega (arith, low) in let e = ap (λ (k : ℕ). sum_below k f) none in omega (arith, e)
below-up n (suc m) f low = elim (cases_lt m n) [
  | inl past ↦ let same : n ≡ suc m = omega (arith, low, past) in let e = ap (λ (k : ℕ). sum_below k f) same in omega (arith, e)
  | inr under ↦ omega (arith, below-suc m f, below-up n m f under)
]

pub below-zero : (n : ℕ) (f : ℕ → ℕ) → ((k : ℕ) → k < n → f k ≡ 0) → sum_below n f ≡ 0
below-zero zero f none = refl
below-zero (suc n) f none = omega (arith, below-suc n f, below-zero n f (λ k lower. none k (omega (arith, lower))), none n (omega arith))

pub below-plus : (n : ℕ) (f h : ℕ → ℕ) → sum_below n (λ k. f k + h k) ≡ sum_below n f + sum_below n h
below-plus zero f h = refl
below-plus (suc n) f h = omega (arith, below-suc n f, below-suc n h, below-suc n (λ k. f k + h k), below-plus n f h)

-- one term grows
pub below-change : (n at more : ℕ) (f h : ℕ → ℕ) → at < n → ((k : ℕ) → k < n → h k ≡ f k + where_so (k == at) more) → sum_below n h ≡ sum_below n f + more
below-change zero at more f h lower change = absurd (omega (arith, lower))
below-change (suc n) at more f h lower change = elim (cases_lt at n) [
  | inl under ↦
      let rest = below-change n at more f h under (λ k low. change k (omega (arith, low))) in
      let off : (n == at) ≡ false = grind (arith, nat_tests, under) in
      let last = change n (omega arith) in
      omega (arith, below-suc n f, below-suc n h, rest, last, where-no (n == at) more off)
  | inr last' ↦
      let is : at ≡ n = omega (arith, lower, last') in
      let rest = below-same n h f (λ k low. change k (omega (arith, low)) ∙ ap (λ (m : ℕ). f k + m) (where-no (k == at) more (apart k low is)) ∙ omega arith) in
      let on : (n == at) ≡ true = grind (arith, nat_tests, is) in
      let last = change n (omega arith) in
      omega (arith, below-suc n f, below-suc n h, rest, last, where-yes (n == at) more on)
] where
  apart : (k : ℕ) → k < n → at ≡ n → (k == at) ≡ false
  apart k low is = grind (arith, nat_tests, low, is)

-- ---- a list of numbers of which one gains

pub gained-at : (xs : List ℕ) (at more k : ℕ) → at < length xs → get_or (gained xs at more) k 0 ≡ get_or xs k 0 + where_so (k == at) more
gained-at xs at more k lower = elim (cases_Bool (k == at)) [
  | inl on ↦
      let is : k ≡ at = grind (arith, nat_tests, on) in
      subst (λ (j : ℕ). get_or (gained xs at more) j 0 ≡ get_or xs j 0 + where_so (k == at) more) (sym is)
      (get_or-set_same xs at (get_or xs at 0 + more) 0 lower ∙ ap (λ (m : ℕ). get_or xs at 0 + m) (sym (where-yes (k == at) more on)))
  | inr off ↦
      let other : k ≡ at → ⊥ = λ is. apart is off in
      get_or-set_other xs at k (get_or xs at 0 + more) 0 other ∙ (let none = where-no (k == at) more off in omega (arith, none))
] where
  apart : k ≡ at → (k == at) ≡ false → ⊥
  apart is off = let on : (k == at) ≡ true = grind (arith, nat_tests, is) in absurd (differ' (sym on ∙ off)) where
    differ' : true ≡ false → ⊥
    differ' e = cc

pub length-gained : (xs : List ℕ) (at more : ℕ) → length (gained xs at more) ≡ length xs
length-gained xs at more = length-set xs at (get_or xs at 0 + more)

-- ---- sums of lists

pub sum-same : {X : Type 0} (f h : X → ℕ) (xs : List X) → ((x : X) → f x ≡ h x) → sum_by f xs ≡ sum_by h xs
sum-same f h [] same = refl
sum-same f h (x ∷ xs) same = omega (arith, sum_by-cons f x xs, sum_by-cons h x xs, same x, sum-same f h xs same)

-- ---- numbers that gather in places

-- each place has the sum of the first numbers that belong to it
abbrev pub GatherTo : (ℕ → ℕ) → (numbers sums : List ℕ) → ℕ → Type 0
GatherTo place numbers sums n =
    (k : ℕ) → k < length sums → get_or sums k 0 ≡ sum_below n (λ t. where_so (place t == k) (get_or numbers t 0))

pub gather-more : (place : ℕ → ℕ) (numbers sums new : List ℕ) (n at more : ℕ) → at < length sums → at ≡ place n → more ≡ get_or numbers n 0 →
    new ≡ gained sums at more → GatherTo place numbers sums n → GatherTo place numbers new (n + 1)
gather-more place numbers sums new n at more inside here is is' was k lower =
    let long = ap (λ (xs : List ℕ). length xs) is' ∙ length-gained sums at more in
    let a = ap (λ (xs : List ℕ). get_or xs k 0) is' ∙ gained-at sums at more k inside in
    let b = was k (omega (arith, lower, long)) in
    let more' = below-more n (λ t. where_so (place t == k) (get_or numbers t 0)) in
    let turned : (k == at) ≡ (place n == k) = eqb-swap k at ∙ ap (λ (m : ℕ). m == k) here in
    let w = ap (λ (so : Bool). where_so so more) turned ∙ ap (λ (m : ℕ). where_so (place n == k) m) is in
    omega (arith, a, b, more', w)

pub gather-most : (place : ℕ → ℕ) (numbers sums : List ℕ) (n k : ℕ) → k < length sums →
    GatherTo place numbers sums n → get_or sums k 0 + get_or numbers n 0 ≤ sum_below (n + 1) (λ t. get_or numbers t 0)
gather-most place numbers sums n k inside was =
    let e = was k inside in
    let b = below-le n (λ t. where_so (place t == k) (get_or numbers t 0)) (λ t. get_or numbers t 0) (λ t lower. where-le (place t == k) (get_or numbers t 0)) in
    let more = below-more n (λ t. get_or numbers t 0) in
    omega (arith, e, b, more)

pub gather-none : (place : ℕ → ℕ) (numbers sums : List ℕ) (n : ℕ) → sums ≡ replicate n 0 → GatherTo place numbers sums 0
gather-none place numbers sums n is k lower =
    let long = ap (λ (xs : List ℕ). length xs) is ∙ length-replicate n 0 in
    ap (λ (xs : List ℕ). get_or xs k 0) is ∙ get_or-replicate n k 0 0 (omega (arith, lower, long))
