-- Lemmas on lists: what is least in a heap, elements that pass a test, and how many different numbers there are.
use Rattle.std.proofs.Common.{◌≡◌, ℕ, suc, zero, ◌<◌, ◌≤◌, inl, inr, Bool, true, false, ◌==◌, cond, List, [], ◌∷◌, ◌++◌, map, length, get_or, All, Any, count_by, refl, sym, subst, ◌∙◌, arith}
use Rattle.std.specs.BinaryHeap.{IsUpperBound}
use Rattle.std.specs.Ordering.{nat_cmp, ordering_then, is_lt}
use Rattle.std.proofs.lemmas.Bool.{cases_Bool}
use Rattle.std.proofs.lemmas.Bool.Decides.{nat_tests}
use Rattle.std.proofs.lemmas.List.{length-append, get_or_append_left}
use Rattle.std.proofs.lemmas.List.Elements.{All-nil, All-cons, All-head, All-tail, All-map, All-weaker, All-from_recursion}
use Rattle.std.proofs.lemmas.List.Sums.{sum_by-cons}
use Rattle.std.proofs.lemmas.Map.Keys.{ge_from_not_lt}

-- ---- the greatest of a heap that goes by falling numbers is the least

pub least-by : {X : Type 0} (number : X → ℕ) (x : X) (xs : List X) → IsUpperBound (λ a b. nat_cmp (number b) (number a)) x xs →
    All (λ n. number x ≤ n) (map number xs)
least-by {X = X} number x xs bound =
    All-map (λ (n : ℕ). number x ≤ n) number xs
    (All-weaker (λ (y : X). is_lt (nat_cmp (number y) (number x)) ≡ false) (λ (y : X). number x ≤ number y)
    (λ y not_less. ge_from_not_lt (number y) (number x) not_less) xs
    (All-from_recursion (λ (y : X). is_lt (nat_cmp (number y) (number x)) ≡ false) xs bound))

first-not-less : (a b c d : ℕ) → is_lt (ordering_then (nat_cmp a b) (nat_cmp c d)) ≡ false → b ≤ a
first-not-less a b c d not_less = grind (arith, nat_tests, not_less)

pub first-by : {X : Type 0} (pair : X → ℕ × ℕ) (x : X) (xs : List X) →
    IsUpperBound (λ a b. ordering_then (nat_cmp (pair b).0 (pair a).0) (nat_cmp (pair b).1 (pair a).1)) x xs →
    All (λ p. (pair x).0 ≤ p.0) (map pair xs)
first-by {X = X} pair x xs bound =
    let test = λ (y : X). is_lt (ordering_then (nat_cmp (pair y).0 (pair x).0) (nat_cmp (pair y).1 (pair x).1)) ≡ false in
    All-map (λ (p : ℕ × ℕ). (pair x).0 ≤ p.0) pair xs
    (All-weaker test (λ (y : X). (pair x).0 ≤ (pair y).0)
    (λ y not_less. first-not-less (pair y).0 (pair x).0 (pair y).1 (pair x).1 not_less) xs
    (All-from_recursion test xs bound))

pub least-below : (least most : ℕ) (xs : List (ℕ × ℕ)) → All (λ p. least ≤ p.0) xs → Any (λ p. p.0 < most) xs → least < most
least-below least most xs all some =
    let low = subst (λ (p : ℕ × ℕ). least ≤ p.0) some.3 (all some.0 some.1 some.2) in omega (arith, low, some.4)

-- ---- elements that pass

pub any-at : {X : Type 0} (P : X → Type 0) (xs : List X) (k : ℕ) (x : X) → k < length xs → x ≡ get_or xs k x → P x → Any P xs
any-at P xs k x inside is h = (k, x, inside, sym is, h)

pub any-tail : {X : Type 0} (P : X → Type 0) (x : X) (xs : List X) → Any P xs → Any P (x ∷ xs)
any-tail P x xs some = (suc some.0, some.1, omega (arith, some.2), some.3, some.4)

pub any-more : {X : Type 0} (P : X → Type 0) (xs : List X) (y : X) → Any P xs → Any P (xs ++ y ∷ [])
any-more P xs y some =
    (some.0, some.1, omega (arith, length-append xs (y ∷ []), some.2), get_or_append_left xs (y ∷ []) some.1 some.0 some.2 ∙ some.3, some.4)

pub any-weaker : {X : Type 0} (P Q : X → Type 0) → ((x : X) → P x → Q x) → (xs : List X) → Any P xs → Any Q xs
any-weaker P Q weaker xs some = (some.0, some.1, some.2, some.3, weaker some.1 some.4)

pub any-map : {X Y : Type 0} (P : Y → Type 0) (f : X → Y) (xs : List X) → Any (λ x. P (f x)) xs → Any P (map f xs)
any-map P f [] some = absurd (omega (arith, some.2))
any-map {X = X} P f (x ∷ xs) (zero, y, inside, is, h) = (zero, f x, omega arith, refl, subst (λ (z : X). P (f z)) (sym is) h)
any-map P f (x ∷ xs) (suc k, y, inside, is, h) = any-tail P (f x) (map f xs) (any-map P f xs (k, y, omega (arith, inside), is, h))

pub any-count : {X : Type 0} (p : X → Bool) (xs : List X) → 0 < count_by p xs → Any (λ x. p x ≡ true) xs
any-count p [] some = absurd (omega (arith, some))
any-count {X = X} p (x ∷ xs) some =
    let more = sum_by-cons (λ (y : X). cond (p y) 1 0) x xs in
    elim (cases_Bool (p x)) [
      | inl on ↦ (0, x, omega arith, refl, on)
      | inr off ↦ let none : cond {A = ℕ} (p x) 1 0 ≡ 0 = rw off refl in any-tail (λ (y : X). p y ≡ true) x xs (any-count p xs (omega (arith, more, none, some)))
    ]

pub none-count : {X : Type 0} (p : X → Bool) (xs : List X) → count_by p xs ≡ 0 → All (λ x. p x ≡ false) xs
none-count {X = X} p [] none = All-nil (λ (x : X). p x ≡ false)
none-count {X = X} p (x ∷ xs) none =
    let more = sum_by-cons (λ (y : X). cond (p y) 1 0) x xs in
    elim (cases_Bool (p x)) [
      | inl on ↦ let one : cond {A = ℕ} (p x) 1 0 ≡ 1 = rw on refl in absurd (omega (arith, more, one, none))
      | inr off ↦ All-cons (λ (y : X). p y ≡ false) x xs off (none-count p xs (omega (arith, more, none)))
    ]

-- a number below all of a list isn't in it
pub count-under : (n m : ℕ) (ns : List ℕ) → n < m → All (λ k. m ≤ k) ns → count_by (λ k. n == k) ns ≡ 0
count-under n m [] under all = refl
count-under n m (k ∷ ns) under all =
    let more = sum_by-cons (λ (j : ℕ). cond (n == j) 1 0) k ns in
    let low = All-head (λ (j : ℕ). m ≤ j) k ns all in
    let off : (n == k) ≡ false = grind (arith, nat_tests, low, under) in
    let none : cond {A = ℕ} (n == k) 1 0 ≡ 0 = rw off refl in
    omega (arith, more, none, count-under n m ns under (All-tail (λ (j : ℕ). m ≤ j) k ns all))
