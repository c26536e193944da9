-- Sums over lists, of sums and of parts.
use Rattle.std.proofs.Common.{◌≡◌, ℕ, suc, zero, ◌+◌, ◌*◌, ◌<◌, ◌≤◌, ◌&&◌, inl, inr, Bool, true, false, cond, List, [], ◌∷◌, map, filter, length, All, slice_index_or, count_by, sum_by, refl, sym, ap, ◌∙◌, arith}
use Rattle.std.specs.List.{range_with_len}
use Rattle.std.proofs.lemmas.Bool.{cases_eq}
use Rattle.std.proofs.lemmas.List.Elements.{All-head, All-tail}
use Rattle.std.proofs.lemmas.List.Sums.{sum_by-cons}

pub sum-plus : {X : Type 0} (f h : X → ℕ) (xs : List X) → sum_by (λ x. f x + h x) xs ≡ sum_by f xs + sum_by h xs
sum-plus f h [] = refl
sum-plus f h (x ∷ xs) =
    let rest = sum-plus f h xs in
    omega (arith, rest, sum_by-cons (λ y. f y + h y) x xs, sum_by-cons f x xs, sum_by-cons h x xs)

pub sum-zero : {X : Type 0} (xs : List X) → sum_by (λ x. 0) xs ≡ 0
sum-zero [] = refl
sum-zero {X = X} (x ∷ xs) =
    let zeros : X → ℕ = λ y. 0 in
    let rest : sum_by zeros xs ≡ 0 = sum-zero xs in
    omega (arith, rest, sum_by-cons zeros x xs)

pub sum-times : {X : Type 0} (v : ℕ) (f : X → ℕ) (xs : List X) → sum_by (λ x. v * f x) xs ≡ v * sum_by f xs
sum-times v f [] = omega arith
sum-times v f (x ∷ xs) =
    let rest = sum-times v f xs in
    let whole : v * (f x + sum_by f xs) ≡ v * f x + v * sum_by f xs = omega arith in
    sum_by-cons (λ y. v * f y) x xs ∙ ap (λ (n : ℕ). v * f x + n) rest ∙ sym whole ∙ ap (λ (n : ℕ). v * n) (sym (sum_by-cons f x xs))

pub sum-le : {X : Type 0} (f h : X → ℕ) (xs : List X) → All (λ x. f x ≤ h x) xs → sum_by f xs ≤ sum_by h xs
sum-le f h [] each = omega arith
sum-le {X = X} f h (x ∷ xs) each =
    let P : X → Type 0 = λ y. f y ≤ h y in
    let rest = sum-le f h xs (All-tail P x xs each) in
    let first = All-head P x xs each in
    omega (arith, rest, first, sum_by-cons f x xs, sum_by-cons h x xs)

pub sum-filter : {X : Type 0} (f : X → ℕ) (p : X → Bool) (xs : List X) → sum_by f (filter p xs) ≡ sum_by (λ x. cond (p x) (f x) 0) xs
sum-filter f p [] = refl
sum-filter {X = X} f p (x ∷ xs) =
    kept (p x) (filter p xs) ∙ ap (λ (n : ℕ). cond (p x) (f x) 0 + n) (sum-filter f p xs) ∙ sym (sum_by-cons (λ y. cond (p y) (f y) 0) x xs)
  where
    kept : (b : Bool) (rest : List X) → sum_by f (cond b (x ∷ rest) rest) ≡ cond b (f x) 0 + sum_by f rest
    kept true rest = sum_by-cons f x rest
    kept false rest = omega arith

pub sum-map : {X Y : Type 0} (f : Y → ℕ) (h : X → Y) (xs : List X) → sum_by f (map h xs) ≡ sum_by (λ x. f (h x)) xs
sum-map f h [] = refl
sum-map f h (x ∷ xs) =
    sum_by-cons f (h x) (map h xs) ∙ ap (λ (n : ℕ). f (h x) + n) (sum-map f h xs) ∙ sym (sum_by-cons (λ y. f (h y)) x xs)

-- a double sum, the other way
pub sum-swap : {X Y : Type 0} (f : X → Y → ℕ) (xs : List X) (ys : List Y) →
    sum_by (λ x. sum_by (f x) ys) xs ≡ sum_by (λ y. sum_by (λ x. f x y) xs) ys
sum-swap f [] ys = sym (sum-zero ys)
sum-swap {X} {Y} f (x ∷ xs) ys =
    let column : Y → ℕ = λ y. sum_by (λ z. f z y) xs in
    sum_by-cons (λ z. sum_by (f z) ys) x xs ∙ ap (λ (n : ℕ). sum_by (f x) ys + n) (sum-swap f xs ys) ∙ sym (sum-plus (f x) column ys)
    ∙ same (λ y. f x y + column y) (λ y. sum_by (λ z. f z y) (x ∷ xs)) ys (λ y. sym (sum_by-cons (λ z. f z y) x xs))
  where
    same : (a b : Y → ℕ) (zs : List Y) → ((y : Y) → a y ≡ b y) → sum_by a zs ≡ sum_by b zs
    same a b [] each = refl
    same a b (z ∷ zs) each =
        sum_by-cons a z zs ∙ ap (λ (n : ℕ). n + sum_by a zs) (each z) ∙ ap (λ (n : ℕ). b z + n) (same a b zs each) ∙ sym (sum_by-cons b z zs)

-- one term of a sum over a range
pub range-part : (f : ℕ → ℕ) (a n k : ℕ) → a ≤ k → k < a + n → f k ≤ sum_by f (range_with_len a n)
range-part f a zero k low high = absurd (omega arith)
range-part f a (suc n) k low high =
    let more = sum_by-cons f a (range_with_len (a + 1) n) in
    elim (cases_eq a k) [
      | inl here ↦ let same = ap f here in omega (arith, more, same)
      | inr later ↦ let rest = range-part f (a + 1) n k (omega arith) (omega arith) in omega (arith, more, rest)
    ]

-- one term of a sum over what is kept of a list that f makes of a range
pub listed-part : {X : Type 0} (f : X → ℕ) (p : X → Bool) (h : ℕ → X) (n k : ℕ) → k < n → p (h k) ≡ true →
    f (h k) ≤ sum_by f (filter p (map h (range_with_len 0 n)))
listed-part {X = X} f p h n k below kept =
    let term : X → ℕ = λ x. cond (p x) (f x) 0 in
    let all : sum_by f (filter p (map h (range_with_len 0 n))) ≡ sum_by (λ i. term (h i)) (range_with_len 0 n) =
    sum-filter f p (map h (range_with_len 0 n)) ∙ sum-map term h (range_with_len 0 n) in
    let part = range-part (λ i. term (h i)) 0 n k (omega arith) (omega arith) in
    let is : term (h k) ≡ f (h k) = rw kept refl in
    omega (arith, all, part, is)

-- ---- tests of which no two hold of one element

-- where each test holds of an element of a set, and of no element two, the set has as many elements as there are tests
pub tests-counted : {X Y : Type 0} (set : X → Bool) (hit : Y → X → Bool) (xs : List X) (ys : List Y) →
    All (λ y. 1 ≤ count_by (λ x. set x && hit y x) xs) ys → All (λ x. count_by (λ y. hit y x) ys ≤ 1) xs → length ys ≤ count_by set xs
tests-counted {X} {Y} set hit xs ys each apart =
    let one : Y → X → ℕ = λ y x. cond (set x && hit y x) 1 0 in
    let many : length ys ≤ sum_by (λ y. sum_by (one y) xs) ys = ones (λ y. sum_by (one y) xs) ys each in
    let swapped = sum-swap one ys xs in
    let few : sum_by (λ x. sum_by (λ y. one y x) ys) xs ≤ sum_by (λ x. cond (set x) 1 0) xs =
    sum-le (λ x. sum_by (λ y. one y x) ys) (λ x. cond (set x) 1 0) xs (λ k d below. within (slice_index_or xs k d) (apart k d below)) in
    omega (arith, many, swapped, few)
  where
    ones : (f : Y → ℕ) (zs : List Y) → All (λ y. 1 ≤ f y) zs → length zs ≤ sum_by f zs
    ones f [] all = omega arith
    ones f (z ∷ zs) all =
        let P : Y → Type 0 = λ y. 1 ≤ f y in
        let first = All-head P z zs all in
        let rest = ones f zs (All-tail P z zs all) in
        omega (arith, first, rest, sum_by-cons f z zs)

    within : (x : X) → count_by (λ y. hit y x) ys ≤ 1 → sum_by (λ y. cond (set x && hit y x) 1 0) ys ≤ cond (set x) 1 0
    within x once = by (set x)
      where
        by : (b : Bool) → sum_by (λ y. cond (b && hit y x) 1 0) ys ≤ cond b 1 0
        by true = once
        by false = let none : sum_by (λ (y : Y). 0) ys ≡ 0 = sum-zero ys in omega (arith, none)
