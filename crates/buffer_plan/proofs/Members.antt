-- The members of lists that are made from others.
use Rattle.std.proofs.Common.{◌≡◌, ℕ, zero, suc, ◌+◌, ◌<◌, ◌⊎◌, inl, inr, Bool, true, false, List, [], ◌∷◌, length, slice_get, slice_index_or, map, Contains, find, flat_map, filter_map, Option, Some, None, refl, sym, ap, subst, ◌∙◌, arith}
use Rattle.std.specs.List.{range_with_len, list_any, cons_option}
use Rattle.std.specs.Option.{option_or}
use Rattle.std.proofs.lemmas.Bool.{cases_Bool, or_parts, or_cases, false≢true}
use Rattle.std.proofs.lemmas.List.Elements.{Contains-append_left, Contains-append_right, Contains-append_cases}
use Rattle.std.proofs.lemmas.List.FromFn.{length-range_with_len, get_or-range_with_len}

pub contains-first : {A : Type 0} (x : A) (xs : List A) → Contains (x ∷ xs) x
contains-first x xs = let here : 0 < length (x ∷ xs) = omega arith in (0, here, refl)

pub contains-later : {A : Type 0} (x y : A) (xs : List A) → Contains xs y → Contains (x ∷ xs) y
contains-later x y xs at = let lt = at.1 in let more : suc at.0 < length (x ∷ xs) = omega arith in (suc at.0, more, at.2)

pub contains-cases : {A : Type 0} (x y : A) (xs : List A) → Contains (x ∷ xs) y → (x ≡ y) ⊎ Contains xs y
contains-cases x y xs at = split at.0 at.1 at.2
  where
    split : (k : ℕ) → k < length (x ∷ xs) → slice_index_or (x ∷ xs) k y ≡ y → (x ≡ y) ⊎ Contains xs y
    split zero lt is = inl is
    split (suc k) lt is = let less : k < length xs = omega arith in inr (k, less, is)

-- a member of what f makes of a list, or which f makes lists of, and the member that it comes from
pub record Comes {A B : Type 0} (f : A → B) (xs : List A) (y : B) : Type 0 where
  pub from : A
  pub among : Contains xs from
  pub is : f from ≡ y

pub record Arises {A B : Type 0} (f : A → List B) (xs : List A) (y : B) : Type 0 where
  pub from : A
  pub among : Contains xs from
  pub within : Contains (f from) y

pub contains-map : {A B : Type 0} (f : A → B) (x : A) (xs : List A) → Contains xs x → Contains (map f xs) (f x)
contains-map f x [] at = let none = at.1 in absurd (omega arith)
contains-map {B = B} f x (z ∷ xs) at = elim (contains-cases z x xs at) [
  | inl same ↦ subst (λ (w : B). Contains (f z ∷ map f xs) w) (ap f same) (contains-first (f z) (map f xs))
  | inr later ↦ contains-later (f z) (f x) (map f xs) (contains-map f x xs later)
]

pub map-comes : {A B : Type 0} (f : A → B) (xs : List A) (y : B) → Contains (map f xs) y → Comes f xs y
map-comes f [] y at = let none = at.1 in absurd (omega arith)
map-comes f (x ∷ xs) y at = elim (contains-cases (f x) y (map f xs) at) [
  | inl same ↦ record { from = x; among = contains-first x xs; is = same }
  | inr later ↦
      let rest = map-comes f xs y later in
      record { from = rest.from; among = contains-later x rest.from xs rest.among; is = rest.is }
]

pub contains-flat_map : {A B : Type 0} (f : A → List B) (x : A) (y : B) (xs : List A) → Contains xs x → Contains (f x) y → Contains (flat_map f xs) y
contains-flat_map f x y [] at within = let none = at.1 in absurd (omega arith)
contains-flat_map {A = A} f x y (z ∷ xs) at within = elim (contains-cases z x xs at) [
  | inl same ↦ Contains-append_left (f z) (flat_map f xs) y (subst (λ (w : A). Contains (f w) y) (sym same) within)
  | inr later ↦ Contains-append_right (f z) (flat_map f xs) y (contains-flat_map f x y xs later within)
]

pub flat_map-arises : {A B : Type 0} (f : A → List B) (xs : List A) (y : B) → Contains (flat_map f xs) y → Arises f xs y
flat_map-arises f [] y at = let none = at.1 in absurd (omega arith)
flat_map-arises f (x ∷ xs) y at = elim (Contains-append_cases (f x) (flat_map f xs) y at) [
  | inl here ↦ record { from = x; among = contains-first x xs; within = here }
  | inr later ↦
      let rest = flat_map-arises f xs y later in
      record { from = rest.from; among = contains-later x rest.from xs rest.among; within = rest.within }
]

kept-option : {A : Type 0} (o : Option A) (y : A) (ys : List A) → Contains ys y → Contains (cons_option o ys) y
kept-option None y ys at = at
kept-option (Some z) y ys at = contains-later z y ys at

pub contains-filter_map : {A B : Type 0} (h : A → Option B) (x : A) (y : B) (xs : List A) → Contains xs x → h x ≡ Some y → Contains (filter_map h xs) y
contains-filter_map h x y [] at is = let none = at.1 in absurd (omega arith)
contains-filter_map {B = B} h x y (z ∷ xs) at is = elim (contains-cases z x xs at) [
  | inl same ↦ subst (λ (o : Option B). Contains (cons_option o (filter_map h xs)) y) (sym (ap h same ∙ is)) (contains-first y (filter_map h xs))
  | inr later ↦ kept-option (h z) y (filter_map h xs) (contains-filter_map h x y xs later is)
]

later-comes : {A B : Type 0} (f : A → B) (x : A) (xs : List A) (y : B) → Comes f xs y → Comes f (x ∷ xs) y
later-comes f x xs y rest = record { from = rest.from; among = contains-later x rest.from xs rest.among; is = rest.is }

option-comes : {A B : Type 0} (h : A → Option B) (x : A) (xs : List A) (y : B) (o : Option B) → h x ≡ o →
    (Contains (filter_map h xs) y → Comes h xs (Some y)) → Contains (cons_option o (filter_map h xs)) y → Comes h (x ∷ xs) (Some y)
option-comes h x xs y None is rest at = later-comes h x xs (Some y) (rest at)
option-comes {B = B} h x xs y (Some z) is rest at = elim (contains-cases z y (filter_map h xs) at) [
  | inl same ↦ record { from = x; among = contains-first x xs; is = is ∙ ap (λ (w : B). Some w) same }
  | inr later ↦ later-comes h x xs (Some y) (rest later)
]

pub filter_map-comes : {A B : Type 0} (h : A → Option B) (xs : List A) (y : B) → Contains (filter_map h xs) y → Comes h xs (Some y)
filter_map-comes h [] y at = let none = at.1 in absurd (omega arith)
filter_map-comes h (x ∷ xs) y at = option-comes h x xs y (h x) refl (filter_map-comes h xs y) at

-- the numbers below one
pub contains-range : (n k : ℕ) → k < n → Contains (range_with_len 0 n) k
contains-range n k below =
    let long = length-range_with_len 0 n in
    let within : k < length (range_with_len 0 n) = omega arith in
    let is : 0 + k ≡ k = omega arith in
    (k, within, get_or-range_with_len 0 n k k below ∙ is)

pub range-below : (n k : ℕ) → Contains (range_with_len 0 n) k → k < n
range-below n k at =
    let long = length-range_with_len 0 n in
    let lt = at.1 in
    let below : at.0 < n = omega arith in
    let is = at.2 in
    let place = get_or-range_with_len 0 n at.0 k below in
    omega arith

-- the first member that passes a test
pub record Finds {A : Type 0} (p : A → Bool) (xs : List A) (x : A) : Type 0 where
  pub among : Contains xs x
  pub passes : p x ≡ true

pub find-finds : {A : Type 0} (p : A → Bool) (xs : List A) (x : A) → find p xs ≡ Some x → Finds p xs x
find-finds p [] x is = absurd (grind arith)
find-finds {A = A} p (z ∷ xs) x is = elim (cases_Bool (p z)) [
  | inl pass ↦
      let found : Some z ≡ Some x = rw pass at is in
      let same : z ≡ x = cc in
      record { among = subst (λ (w : A). Contains (z ∷ xs) w) same (contains-first z xs); passes = ap p (sym same) ∙ pass }
  | inr fail ↦
      let found : find p xs ≡ Some x = rw fail at is in
      let rest = find-finds p xs x found in
      record { among = contains-later z x xs rest.among; passes = rest.passes }
]

pub find-some : {A : Type 0} (p : A → Bool) (x : A) (xs : List A) → Contains xs x → p x ≡ true → (y : A) × (find p xs ≡ Some y)
find-some p x [] at pass = let none = at.1 in absurd (omega arith)
find-some {A = A} p x (z ∷ xs) at pass = elim (cases_Bool (p z)) [
  | inl here ↦ (z, (rw here refl))
  | inr fail ↦ elim (contains-cases z x xs at) [
    | inl same ↦ let is : p z ≡ true = ap p same ∙ pass in absurd (grind arith)
    | inr later ↦
        let rest = find-some p x xs later pass in
        (rest.0, (rw fail rest.1))
  ]
]

pub any-finds : {A : Type 0} (p : A → Bool) (xs : List A) → list_any p xs ≡ true → (x : A) × Finds p xs x
any-finds p [] is = absurd (false≢true is)
any-finds p (z ∷ xs) is = elim (or_cases (p z) (list_any p xs) is) [
  | inl here ↦ (z, (record { among = contains-first z xs; passes = here }))
  | inr later ↦
      let rest = any-finds p xs later in
      (rest.0, (record { among = contains-later z rest.0 xs rest.1.among; passes = rest.1.passes }))
]

-- a test that no member passes
pub any-no : {A : Type 0} (p : A → Bool) (x : A) (xs : List A) → list_any p xs ≡ false → Contains xs x → p x ≡ false
any-no p x [] is at = let none = at.1 in absurd (omega arith)
any-no p x (z ∷ xs) is at = elim (contains-cases z x xs at) [
  | inl same ↦ ap p (sym same) ∙ (or_parts (p z) (list_any p xs) is).0
  | inr later ↦ any-no p x xs (or_parts (p z) (list_any p xs) is).1 later
]

pub no-any : {A : Type 0} (p : A → Bool) (xs : List A) → ((x : A) → Contains xs x → p x ≡ false) → list_any p xs ≡ false
no-any p [] each = refl
no-any p (x ∷ xs) each =
    let first = each x (contains-first x xs) in
    rw first (no-any p xs (λ y at. each y (contains-later x y xs at)))

-- an element of a list, by its place
pub element-at : {A : Type 0} (xs : List A) (k : ℕ) → k < length xs → (x : A) × (slice_get xs k ≡ Some x)
element-at [] k below = absurd (omega arith)
element-at (x ∷ xs) zero below = (x, refl)
element-at (x ∷ xs) (suc k) below = element-at xs k (omega arith)

-- an option, and else none
pub or-none : {A : Type 0} (o : Option A) → option_or o None ≡ o
or-none None = refl
or-none (Some x) = refl
