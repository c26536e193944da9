-- General lemmas on tests, options and lists, beside those of std: its lemmas.Bool has or_left, or_right, and_from, and_parts,
-- not-true and not-false, its Math.Bool or-false, or_assoc and or_comm.
use Rattle.std.proofs.Common.{◌≡◌, ℕ, suc, zero, ◌+◌, ◌≤◌, Bool, true, false, ◌==◌, max, min, List, [], ◌∷◌, ◌++◌, filter, fold, Option, Some, None, IsSome, IsSomeAnd, IfSome, refl, sym, ap, subst, ◌∙◌, arith}
use Rattle.std.proofs.lemmas.Bool.{both_ways}
use Rattle.std.proofs.lemmas.Bool.Decides.{nat_tests}
use Rattle.std.specs.List.{range_with_len}

-- two tests that say the same
pub same-truth : (p q : Bool) → (p ≡ true → q ≡ true) → (q ≡ true → p ≡ true) → p ≡ q
same-truth true q first second = sym (first refl)
same-truth false true first second = second refl
same-truth false false first second = refl

pub eqb-swap : (a b : ℕ) → (a == b) ≡ (b == a)
eqb-swap a b = grind (arith, nat_tests)

-- an option that has a value, and what holds of it
pub some-and : {A : Type 0} (P : A → Type 0) (o : Option A) (x : A) → o ≡ Some x → P x → IsSomeAnd o P
some-and {A = A} P o x is h = subst (λ (p : Option A). IsSomeAnd p P) (sym is) h

pub and-some : {A : Type 0} (P : A → Type 0) (o : Option A) (x : A) → o ≡ Some x → IsSomeAnd o P → P x
and-some {A = A} P o x is h = subst (λ (p : Option A). IsSomeAnd p P) is h

pub if-some : {A : Type 0} (o : Option A) (P : A → Type 0) → ((x : A) → o ≡ Some x → P x) → IfSome o P
if-some None P each = tt
if-some (Some x) P each = each x refl

pub is-some : {A : Type 0} (o : Option A) → IsSome o → (x : A) × (o ≡ Some x)
is-some None h = absurd (both_ways false refl h)
is-some (Some x) h = (x, refl)

-- the elements that pass a test, by the first
pub filter-yes : {A : Type 0} (p : A → Bool) (x : A) (xs : List A) → p x ≡ true → filter p (x ∷ xs) ≡ x ∷ filter p xs
filter-yes p x xs is = rw is refl

pub filter-no : {A : Type 0} (p : A → Bool) (x : A) (xs : List A) → p x ≡ false → filter p (x ∷ xs) ≡ filter p xs
filter-no p x xs is = rw is refl

-- one more number of a range
pub range-more : (from n : ℕ) → range_with_len from (n + 1) ≡ range_with_len from n ++ (from + n) ∷ []
range-more from zero = let e : from ≡ from + 0 = omega arith in ap (λ (k : ℕ). k ∷ []) e
range-more from (suc n) =
    let more : suc n + 1 ≡ suc (n + 1) = omega arith in
    let e : from + 1 + n ≡ from + suc n = omega arith in
    ap (λ (k : ℕ). range_with_len from k) more
    ∙ ap (λ (xs : List ℕ). from ∷ xs) (range-more (from + 1) n ∙ ap (λ (k : ℕ). range_with_len (from + 1) n ++ k ∷ []) e)

-- the least of numbers is at most the first, the greatest at least
pub fold-min-low : (n : ℕ) (ns : List ℕ) → fold min n ns ≤ n
fold-min-low n [] = omega arith
fold-min-low n (m ∷ ns) = let h = fold-min-low (min n m) ns in omega arith

pub fold-max-high : (n : ℕ) (ns : List ℕ) → n ≤ fold max n ns
fold-max-high n [] = omega arith
fold-max-high n (m ∷ ns) = let h = fold-max-high (max n m) ns in omega arith
