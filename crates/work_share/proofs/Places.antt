-- Elements of lists, by place.
use Rattle.std.proofs.Common.{◌≡◌, ◌≢◌, ℕ, zero, suc, ◌+◌, ◌≤◌, ◌<◌, ◌⊎◌, inl, inr, List, [], ◌∷◌, ◌++◌, length, set, get_or, drop, map, sum_by, All, Option, Some, slice_get, sym, refl, ap, subst, ◌∙◌, ⊎_elim, arith}
use Rattle.std.specs.Option.{option_map, unwrap_or}
use Rattle.std.proofs.lemmas.List.Sums.{sum_by-cons, sum_by-set}
use Rattle.std.proofs.lemmas.List.{set-get_or}
use Rattle.std.proofs.lemmas.List.Elements.{All-get_or, All-head, All-tail}
use Rattle.std.proofs.lemmas.Option.{slice_get-get_or, slice_get_within, get_or_from_slice_get, slice_get-map}

module _ {X : Type 0} where
  pub get-read : (xs : List X) (at : ℕ) (x : X) → at < length xs → x ≡ get_or xs at x → slice_get xs at ≡ Some x
  get-read xs at x within is = slice_get-get_or xs at x within ∙ ap Some (sym is)

  pub same-element : (xs : List X) (at : ℕ) (x y : X) → slice_get xs at ≡ Some x → slice_get xs at ≡ Some y → x ≡ y
  same-element xs at x y one other = sym (get_or_from_slice_get xs at x y one) ∙ get_or_from_slice_get xs at y y other

  -- the element at a place after one was replaced
  pub get-set : (xs : List X) (i j : ℕ) (y z : X) → slice_get (set xs i y) j ≡ Some z → ((j ≡ i) × (y ≡ z)) ⊎ ((j ≢ i) × (slice_get xs j ≡ Some z))
  get-set [] i j y z is = absurd (cc (is))
  get-set (x ∷ xs) zero zero y z is = inl (refl, same-element (y ∷ xs) zero y z refl is)
  get-set (x ∷ xs) zero (suc j) y z is = inr ((λ e. omega (arith, e)), is)
  get-set (x ∷ xs) (suc i) zero y z is = inr ((λ e. omega (arith, e)), is)
  get-set (x ∷ xs) (suc i) (suc j) y z is =
      ⊎_elim
      (λ (here : (j ≡ i) × (y ≡ z)). inl (ap suc here.0, here.1))
      (λ (else : (j ≢ i) × (slice_get xs j ≡ Some z)). inr ((λ e. else.0 (omega (arith, e))), else.1))
      (get-set xs i j y z is)

  pub set-here : (xs : List X) (i : ℕ) (x y : X) → slice_get xs i ≡ Some x → slice_get (set xs i y) i ≡ Some y
  set-here [] i x y there = absurd (cc (there))
  set-here (z ∷ zs) zero x y there = refl
  set-here (z ∷ zs) (suc i) x y there = set-here zs i x y there

  pub set-else : (xs : List X) (i j : ℕ) (y : X) → j ≢ i → slice_get (set xs i y) j ≡ slice_get xs j
  set-else [] i j y apart = refl
  set-else (x ∷ xs) zero zero y apart = absurd (apart refl)
  set-else (x ∷ xs) zero (suc j) y apart = refl
  set-else (x ∷ xs) (suc i) zero y apart = refl
  set-else (x ∷ xs) (suc i) (suc j) y apart = set-else xs i j y (λ e. apart (ap suc e))

  pub set-same : (xs : List X) (i : ℕ) (x : X) → slice_get xs i ≡ Some x → set xs i x ≡ xs
  set-same xs i x there = ap (λ (y : X). set xs i y) (sym (get_or_from_slice_get xs i x x there)) ∙ set-get_or xs i x

  pub get-map : {Y : Type 0} (f : X → Y) (xs : List X) (i : ℕ) (x : X) → slice_get xs i ≡ Some x → slice_get (map f xs) i ≡ Some (f x)
  get-map f xs i x there = slice_get-map f xs i ∙ ap (λ (o : Option X). option_map f o) there

  pub all-at : (P : X → Type 0) (xs : List X) (i : ℕ) (x : X) → slice_get xs i ≡ Some x → All P xs → P x
  all-at P xs i x there all = subst P (get_or_from_slice_get xs i x x there) (All-get_or P xs i x (slice_get_within xs i x there) all)

  pub all-from : (P : X → Type 0) (xs : List X) → ((at : ℕ) (x : X) → slice_get xs at ≡ Some x → P x) → All P xs
  all-from P xs each = λ k d less. each k (get_or xs k d) (slice_get-get_or xs k d less)

  -- a sum after one element was replaced
  pub sum-replaced : (f : X → ℕ) (xs : List X) (i : ℕ) (x y : X) → slice_get xs i ≡ Some x → sum_by f (set xs i y) + f x ≡ sum_by f xs + f y
  sum-replaced f xs i x y there =
      let change = sum_by-set f xs i y x (slice_get_within xs i x there) in
      let old : f (get_or xs i x) ≡ f x = ap f (get_or_from_slice_get xs i x x there) in
      omega (arith, change, old)

  pub sum-le : (f g : X → ℕ) (xs : List X) → All (λ (x : X). f x ≤ g x) xs → sum_by f xs ≤ sum_by g xs
  sum-le f g [] all = omega arith
  sum-le f g (x ∷ xs) all =
      let here = All-head (λ (y : X). f y ≤ g y) x xs all in
      let rest = sum-le f g xs (All-tail (λ (y : X). f y ≤ g y) x xs all) in
      let left = sum_by-cons f x xs in
      let right = sum_by-cons g x xs in
      omega (arith, here, rest, left, right)

  pub sum-equal : (f g : X → ℕ) (xs : List X) → ((x : X) → f x ≡ g x) → sum_by f xs ≡ sum_by g xs
  sum-equal f g [] same = refl
  sum-equal f g (x ∷ xs) same =
      let here = same x in
      let rest = sum-equal f g xs same in
      let left = sum_by-cons f x xs in
      let right = sum_by-cons g x xs in
      omega (arith, here, rest, left, right)

  pub get-there : (xs : List X) (at : ℕ) → at < length xs → (x : X) × (slice_get xs at ≡ Some x)
  get-there [] at less = absurd (omega (arith, less))
  get-there (x ∷ xs) zero less = (x, refl)
  get-there (x ∷ xs) (suc at) less = get-there xs at (omega (arith, less))

  -- the elements of a list with one more at its end
  pub get-push : (xs : List X) (y z : X) (at : ℕ) → slice_get (xs ++ y ∷ []) at ≡ Some z → (slice_get xs at ≡ Some z) ⊎ ((at ≡ length xs) × (y ≡ z))
  get-push [] y z zero is = inr (refl, same-element (y ∷ []) zero y z refl is)
  get-push [] y z (suc at) is = absurd (cc (is))
  get-push (x ∷ xs) y z zero is = inl is
  get-push (x ∷ xs) y z (suc at) is =
      ⊎_elim (λ (old : slice_get xs at ≡ Some z). inl old) (λ (last : (at ≡ length xs) × (y ≡ z)). inr (ap suc last.0, last.1)) (get-push xs y z at is)

  pub each-push : (P : ℕ → X → Type 0) (xs : List X) (y : X) → ((at : ℕ) (x : X) → slice_get xs at ≡ Some x → P at x) → P (length xs) y → (at : ℕ) (x : X) → slice_get (xs ++ y ∷ []) at ≡ Some x → P at x
  each-push P xs y old new at x there =
      ⊎_elim
      (λ (before : slice_get xs at ≡ Some x). old at x before)
      (λ (last : (at ≡ length xs) × (y ≡ x)). subst (λ (p : ℕ × X). P p.0 p.1) (λ i. (sym last.0 i, last.1 i)) new)
      (get-push xs y x at there)

  pub each-set : (P Q : ℕ → X → Type 0) (xs : List X) (i : ℕ) (y : X) → ((at : ℕ) (x : X) → slice_get xs at ≡ Some x → P at x) → Q i y → ((at : ℕ) (x : X) → at ≢ i → P at x → Q at x) → (at : ℕ) (x : X) → slice_get (set xs i y) at ≡ Some x → Q at x
  each-set P Q xs i y old new kept at x there =
      ⊎_elim
      (λ (here : (at ≡ i) × (y ≡ x)). subst (λ (p : ℕ × X). Q p.0 p.1) (λ j. (sym here.0 j, here.1 j)) new)
      (λ (else : (at ≢ i) × (slice_get xs at ≡ Some x)). kept at x else.0 (old at x else.1))
      (get-set xs i at y x there)

  -- two lists with the same elements by place
  pub same-lists : (xs ys : List X) → length xs ≡ length ys → ((at : ℕ) (x y : X) → slice_get xs at ≡ Some x → slice_get ys at ≡ Some y → x ≡ y) → xs ≡ ys
  same-lists [] [] long same = refl
  same-lists [] (y ∷ ys) long same = absurd (omega (arith, long))
  same-lists (x ∷ xs) [] long same = absurd (omega (arith, long))
  same-lists (x ∷ xs) (y ∷ ys) long same =
      let here = same 0 x y refl refl in
      let rest = same-lists xs ys (omega (arith, long)) (λ at u v one other. same (suc at) u v one other) in
      λ i. here i ∷ rest i

  -- what is behind an element of a list of images
  pub get-unmap : {Y : Type 0} (f : X → Y) (xs : List X) (at : ℕ) (y : Y) → slice_get (map f xs) at ≡ Some y → (x : X) × (slice_get xs at ≡ Some x) × (f x ≡ y)
  get-unmap f [] at y is = absurd (cc (is))
  get-unmap f (x ∷ xs) zero y is = (x, refl, same-some (f x) y is)
    where
      same-some : {Z : Type 0} (a b : Z) → Some a ≡ Some b → a ≡ b
      same-some a b e = ap (λ (o : Option _). unwrap_or o a) e
  get-unmap f (x ∷ xs) (suc at) y is = get-unmap f xs at y is

  pub sum-through : {Y : Type 0} (f : Y → ℕ) (g : X → Y) (xs : List X) → sum_by f (map g xs) ≡ sum_by (λ (x : X). f (g x)) xs
  sum-through f g [] = refl
  sum-through f g (x ∷ xs) =
      let rest = sum-through f g xs in
      let left = sum_by-cons f (g x) (map g xs) in
      let right = sum_by-cons (λ (y : X). f (g y)) x xs in
      omega (arith, rest, left, right)

  pub sum-none : (f : X → ℕ) (xs : List X) → ((at : ℕ) (x : X) → slice_get xs at ≡ Some x → f x ≡ 0) → sum_by f xs ≡ 0
  sum-none f [] none = refl
  sum-none f (x ∷ xs) none =
      let here = none 0 x refl in
      let rest = sum-none f xs (λ at y there. none (suc at) y there) in
      let all = sum_by-cons f x xs in
      omega (arith, here, rest, all)

  -- a list from a place on, of which the first is known
  pub get-drop : (xs ys : List X) (n : ℕ) (x : X) → drop n xs ≡ x ∷ ys → (slice_get xs n ≡ Some x) × (drop (n + 1) xs ≡ ys)
  get-drop [] ys n x is = absurd (nil-cons n is)
    where
      nil-cons : (m : ℕ) → drop m [] ≡ x ∷ ys → ⊥
      nil-cons zero e = (let long = ap (λ (l : List X). length l) e in absurd (omega (arith, long)))
      nil-cons (suc m) e = (let long = ap (λ (l : List X). length l) e in absurd (omega (arith, long)))
  get-drop (z ∷ zs) ys zero x is = (ap (λ (l : List X). slice_get l 0) is, ap (λ (l : List X). drop 1 l) is)
  get-drop (z ∷ zs) ys (suc n) x is =
      let rest = get-drop zs ys n x is in
      let next : suc n + 1 ≡ suc (n + 1) = omega arith in
      (rest.0, ap (λ (m : ℕ). drop m (z ∷ zs)) next ∙ rest.1)
