-- A list in the order of a test, in which elements that tie stand as they stood, is the ranked list.
use Rattle.std.proofs.Common.{◌≡◌, ℕ, zero, suc, ◌+◌, ◌<◌, ◌&&◌, not, ◌⊎◌, inl, inr, Bool, true, false, cond, List, [], ◌∷◌, ◌++◌, length, filter, fold, All, slice_index_or, if◌then◌else◌, refl, sym, ap, subst, ◌∙◌, append_assoc, append-nil, arith}
use Rattle.std.specs.Cmp.{IsStrictWeakOrder}
use Rattle.std.specs.List.Sorted.{IsSortedBy, IsStableBy, ties}
use Rattle.std.proofs.lemmas.Bool.{cases_Bool, both_ways, and_parts, and_from, not-true, not_from_false, false_from_ne_true, true_from_ne_false}
use Rattle.std.proofs.lemmas.List.Elements.{All-nil, All-cons, All-head, All-tail, All-weaker, filter_agree}
use Rattle.cut_bounds.specs.Measured.{ranked, ranked_with}

module _ {X : Type 0} (lt : X → X → Bool) (order : IsStrictWeakOrder lt) where
  -- each element is not before the earlier ones
  abbrev pub InOrder : List X → Type 0
  InOrder [] = Unit {0}
  InOrder (x ∷ xs) = All (λ y. lt y x ≡ false) xs × InOrder xs

  never-itself : (x : X) → lt x x ≡ false
  never-itself x = false_from_ne_true (lt x x) (λ is. both_ways (lt x x) (order.one_way x x is) is)

  tie-parts : (x y : X) → ties lt x y ≡ true → (lt x y ≡ false) × (lt y x ≡ false)
  tie-parts x y is =
      let parts = and_parts (not (lt x y)) (not (lt y x)) is in
      (not-true (lt x y) parts.0, not-true (lt y x) parts.1)

  tie-itself : (x : X) → ties lt x x ≡ true
  tie-itself x = and_from (not (lt x x)) (not (lt x x)) (not_from_false (lt x x) (never-itself x)) (not_from_false (lt x x) (never-itself x))

  -- ---- a list sorted by places

  behind-first : (x : X) (xs : List X) → ((k : ℕ) (d : X) → k + 1 < length (x ∷ xs) → lt (slice_index_or (x ∷ xs) (k + 1) d) (slice_index_or (x ∷ xs) k d) ≡ false) →
      (k : ℕ) (d : X) → k < length xs → lt (slice_index_or xs k d) x ≡ false
  behind-first x xs sorted zero d below = sorted 0 d (omega arith)
  behind-first x xs sorted (suc k) d below =
      let next : suc k + 1 ≡ suc (suc k) = omega arith in
      let same : k + 1 ≡ suc k = omega arith in
      let P : ℕ → Type 0 = λ n. lt (slice_index_or (x ∷ xs) n d) (slice_index_or (x ∷ xs) (suc k) d) ≡ false in
      order.chain (slice_index_or xs (suc k) d) (slice_index_or xs k d) x (subst P next (sorted (suc k) d (omega arith)))
      (behind-first x xs sorted k d (omega arith))

  pub in-order : (xs : List X) → IsSortedBy lt xs → InOrder xs
  in-order [] sorted = tt
  in-order (x ∷ xs) sorted = (
    behind-first x xs (λ k d below. sorted k d (omega arith) below),
    in-order xs (λ k d low below.
        let next : suc k + 1 ≡ suc (k + 1) = omega arith in
        let P : ℕ → Type 0 = λ n. lt (slice_index_or (x ∷ xs) n d) (slice_index_or xs k d) ≡ false in
        subst P next (sorted (suc k) d (omega arith) (omega arith))),
  )

  -- ---- one order

  -- an element of a list that passes a test is one of those that a filter leaves
  first-among : (p : X → Bool) (xs : List X) (z : X) (rest : List X) → filter p xs ≡ z ∷ rest → (Q : X → Type 0) → All Q xs → Q z
  first-among p [] z rest is Q each = absurd (nil-cons is)
    where
      nil-cons : [] ≡ z ∷ rest → ⊥
      nil-cons e = cc
  first-among p (x ∷ xs) z rest is Q each =
      elim (cases_Bool (p x)) [
        | inl pass ↦
            let kept : x ∷ filter p xs ≡ z ∷ rest = rw pass at is in
            subst Q (head-same x z (filter p xs) rest kept) (All-head Q x xs each)
        | inr fail ↦ let left : filter p xs ≡ z ∷ rest = rw fail at is in first-among p xs z rest left Q (All-tail Q x xs each)
      ]
    where
      head-same : (a b : X) (front back : List X) → a ∷ front ≡ b ∷ back → a ≡ b
      head-same a b front back e = cc

  filter-pass : (p : X → Bool) (x : X) (xs : List X) → p x ≡ true → filter p (x ∷ xs) ≡ x ∷ filter p xs
  filter-pass p x xs is = rw is refl

  filter-fail : (p : X → Bool) (x : X) (xs : List X) → p x ≡ false → filter p (x ∷ xs) ≡ filter p xs
  filter-fail p x xs is = rw is refl

  cons-parts : (a b : X) (front back : List X) → a ∷ front ≡ b ∷ back → (a ≡ b) × (front ≡ back)
  cons-parts a b front back e = (cc, cc)

  nil-not-cons : (a : X) (rest : List X) → [] ≡ a ∷ rest → ⊥
  nil-not-cons a rest e = cc

  -- a list in order has no element before its first that another list begins with, where ties stand alike
  not-before : (y z : X) (ys zs : List X) → InOrder (y ∷ ys) → ((x : X) → filter (ties lt x) (y ∷ ys) ≡ filter (ties lt x) (z ∷ zs)) → lt z y ≡ false
  not-before y z ys zs sorted same =
      let begins = same z ∙ filter-pass (ties lt z) z zs (tie-itself z) in
      first-among (ties lt z) (y ∷ ys) z (filter (ties lt z) zs) begins (λ w. lt w y ≡ false) (All-cons (λ w. lt w y ≡ false) y ys (never-itself y) sorted.0)

  pub one-order : (ys zs : List X) → InOrder ys → InOrder zs → ((x : X) → filter (ties lt x) ys ≡ filter (ties lt x) zs) → ys ≡ zs
  one-order [] [] sorted_y sorted_z same = refl
  one-order [] (z ∷ zs) sorted_y sorted_z same =
      absurd (nil-not-cons z (filter (ties lt z) zs) (same z ∙ filter-pass (ties lt z) z zs (tie-itself z)))
  one-order (y ∷ ys) [] sorted_y sorted_z same =
      absurd (nil-not-cons y (filter (ties lt y) ys) (sym (same y) ∙ filter-pass (ties lt y) y ys (tie-itself y)))
  one-order (y ∷ ys) (z ∷ zs) sorted_y sorted_z same =
      let before = not-before y z ys zs sorted_y same in
      let behind = not-before z y zs ys sorted_z (λ x. sym (same x)) in
      let tie : ties lt y z ≡ true = and_from (not (lt y z)) (not (lt z y)) (not_from_false (lt y z) behind) (not_from_false (lt z y) before) in
      let heads =
      cons-parts y z (filter (ties lt y) ys) (filter (ties lt y) zs)
      (sym (filter-pass (ties lt y) y ys (tie-itself y)) ∙ same y ∙ filter-pass (ties lt y) z zs tie) in
      let rest = one-order ys zs sorted_y.1 sorted_z.1 (λ x. tails x heads.0 (cases_Bool (ties lt x y))) in
      ap (λ (x : X). x ∷ ys) heads.0 ∙ ap (λ (xs : List X). z ∷ xs) rest
    where
      tails : (x : X) → y ≡ z → (ties lt x y ≡ true) ⊎ (ties lt x y ≡ false) → filter (ties lt x) ys ≡ filter (ties lt x) zs
      tails x is (inl tie) =
          let tie_z : ties lt x z ≡ true = ap (ties lt x) (sym is) ∙ tie in
          (cons-parts y z (filter (ties lt x) ys) (filter (ties lt x) zs)
          (sym (filter-pass (ties lt x) y ys tie) ∙ same x ∙ filter-pass (ties lt x) z zs tie_z)).1
      tails x is (inr apart) =
          let apart_z : ties lt x z ≡ false = ap (ties lt x) (sym is) ∙ apart in
          sym (filter-fail (ties lt x) y ys apart) ∙ same x ∙ filter-fail (ties lt x) z zs apart_z

  -- ---- the ranked list

  All-ranked : (P : X → Type 0) (x : X) (xs : List X) → P x → All P xs → All P (ranked_with lt x xs)
  All-ranked P x [] here each = All-cons P x [] here each
  All-ranked P x (y ∷ ys) here each = by (lt x y) (All-ranked P x ys here (All-tail P y ys each))
    where
      by : (b : Bool) → All P (ranked_with lt x ys) → All P (if b then x ∷ y ∷ ys else y ∷ ranked_with lt x ys)
      by true rest = All-cons P x (y ∷ ys) here each
      by false rest = All-cons P y (ranked_with lt x ys) (All-head P y ys each) rest

  -- where one beats the first of a list in order, it beats all
  beats-all : (x y : X) (ys : List X) → lt x y ≡ true → All (λ w. lt w y ≡ false) ys → All (λ w. lt x w ≡ true) (y ∷ ys)
  beats-all x y ys beats behind =
      All-cons (λ w. lt x w ≡ true) y ys beats
      (All-weaker (λ w. lt w y ≡ false) (λ w. lt x w ≡ true)
      (λ w later. true_from_ne_false (lt x w) (λ fails. both_ways (lt x y) (order.chain x w y fails later) beats)) ys behind)

  ranked-in-order : (x : X) (xs : List X) → InOrder xs → InOrder (ranked_with lt x xs)
  ranked-in-order x [] sorted = (All-nil (λ y. lt y x ≡ false), tt)
  ranked-in-order x (y ∷ ys) sorted = by (lt x y) refl (ranked-in-order x ys sorted.1)
    where
      by : (b : Bool) → lt x y ≡ b → InOrder (ranked_with lt x ys) → InOrder (if b then x ∷ y ∷ ys else y ∷ ranked_with lt x ys)
      by true beats rest =
          (All-weaker (λ w. lt x w ≡ true) (λ w. lt w x ≡ false) (λ w less. order.one_way x w less) (y ∷ ys) (beats-all x y ys beats sorted.0), sorted)
      by false fails rest = (All-ranked (λ w. lt w y ≡ false) x ys fails sorted.0, rest)

  -- no element that another beats ties with what ties with that
  none-tie : (at x : X) (xs : List X) → ties lt at x ≡ true → All (λ w. lt x w ≡ true) xs → filter (ties lt at) xs ≡ []
  none-tie at x [] tie beats = refl
  none-tie at x (w ∷ ws) tie beats =
      let less = All-head (λ v. lt x v ≡ true) w ws beats in
      let off : ties lt at w ≡ false = false_from_ne_true (ties lt at w) (λ also.
      both_ways (lt x w) (order.chain x at w (tie-parts at x tie).1 (tie-parts at w also).0) less) in
      filter-fail (ties lt at) w ws off ∙ none-tie at x ws tie (All-tail (λ v. lt x v ≡ true) w ws beats)

  -- those that tie stand as before, and one more behind them
  ranked-stable : (at x : X) (xs : List X) → InOrder xs → filter (ties lt at) (ranked_with lt x xs) ≡ filter (ties lt at) xs ++ filter (ties lt at) (x ∷ [])
  ranked-stable at x [] sorted = refl
  ranked-stable at x (y ∷ ys) sorted = by (lt x y) refl (ranked-stable at x ys sorted.1)
    where
      p : X → Bool
      p w = ties lt at w

      front : (c : Bool) → cond c (y ∷ filter p ys) (filter p ys) ++ filter p (x ∷ []) ≡ cond c (y ∷ (filter p ys ++ filter p (x ∷ []))) (filter p ys ++ filter p (x ∷ []))
      front true = refl
      front false = refl

      by : (b : Bool) → lt x y ≡ b → filter (ties lt at) (ranked_with lt x ys) ≡ filter (ties lt at) ys ++ filter (ties lt at) (x ∷ []) →
          filter (ties lt at) (if b then x ∷ y ∷ ys else y ∷ ranked_with lt x ys) ≡ filter (ties lt at) (y ∷ ys) ++ filter (ties lt at) (x ∷ [])
      by true beats rest =
          elim (cases_Bool (ties lt at x)) [
            | inl tie ↦
                let none = none-tie at x (y ∷ ys) tie (beats-all x y ys beats sorted.0) in
                filter-pass (ties lt at) x (y ∷ ys) tie ∙ ap (λ (ws : List X). x ∷ ws) none
                ∙ sym (ap (λ (ws : List X). ws ++ filter (ties lt at) (x ∷ [])) none ∙ filter-pass (ties lt at) x [] tie)
            | inr apart ↦
                filter-fail (ties lt at) x (y ∷ ys) apart
                ∙ sym (ap (λ (ws : List X). filter (ties lt at) (y ∷ ys) ++ ws) (filter-fail (ties lt at) x [] apart) ∙ append-nil (filter (ties lt at) (y ∷ ys)))
          ]
      by false fails rest =
          ap (λ (ws : List X). cond (ties lt at y) (y ∷ ws) ws) rest ∙ sym (front (ties lt at y))

  ranked-fold : (so_far xs : List X) → InOrder so_far → InOrder (fold (λ done x. ranked_with lt x done) so_far xs)
  ranked-fold so_far [] sorted = sorted
  ranked-fold so_far (x ∷ xs) sorted = ranked-fold (ranked_with lt x so_far) xs (ranked-in-order x so_far sorted)

  stable-fold : (at : X) (so_far xs : List X) → InOrder so_far →
      filter (ties lt at) (fold (λ done x. ranked_with lt x done) so_far xs) ≡ filter (ties lt at) so_far ++ filter (ties lt at) xs
  stable-fold at so_far [] sorted = sym (append-nil (filter (ties lt at) so_far))
  stable-fold at so_far (x ∷ xs) sorted =
      stable-fold at (ranked_with lt x so_far) xs (ranked-in-order x so_far sorted)
      ∙ ap (λ (ws : List X). ws ++ filter (ties lt at) xs) (ranked-stable at x so_far sorted)
      ∙ append_assoc (filter (ties lt at) so_far) (filter (ties lt at) (x ∷ [])) (filter (ties lt at) xs)
      ∙ ap (λ (ws : List X). filter (ties lt at) so_far ++ ws) (sym (split (ties lt at x)))
    where
      split : (b : Bool) → cond b (x ∷ filter (ties lt at) xs) (filter (ties lt at) xs) ≡ cond b (x ∷ []) [] ++ filter (ties lt at) xs
      split true = refl
      split false = refl

  All-fold : (P : X → Type 0) (so_far xs : List X) → All P so_far → All P xs → All P (fold (λ done x. ranked_with lt x done) so_far xs)
  All-fold P so_far [] done each = done
  All-fold P so_far (x ∷ xs) done each =
      All-fold P (ranked_with lt x so_far) xs (All-ranked P x so_far (All-head P x xs each) done) (All-tail P x xs each)

  -- what holds of each element of a list holds of each of the ranked one
  pub All-ranked_list : (P : X → Type 0) (xs : List X) → All P xs → All P (ranked lt xs)
  All-ranked_list P xs each = All-fold P [] xs (All-nil P) each

  pub ranked-sorted : (xs : List X) → InOrder (ranked lt xs)
  ranked-sorted xs = ranked-fold [] xs tt

  -- what a stable sort leaves is the ranked list
  pub sorted-ranked : (xs ys : List X) → IsSortedBy lt ys → IsStableBy lt xs ys → ys ≡ ranked lt xs
  sorted-ranked xs ys sorted stable =
      one-order ys (ranked lt xs) (in-order ys sorted) (ranked-sorted xs) (λ x. stable x ∙ sym (stable-fold x [] xs tt))

-- a test that says the same as the order
module _ {X : Type 0} (lt beats : X → X → Bool) (same : (x y : X) → lt x y ≡ beats x y) where
  ties-same : (x y : X) → ties lt x y ≡ ties beats x y
  ties-same x y = ap (λ (b : Bool). not b && not (lt y x)) (same x y) ∙ ap (λ (b : Bool). not (beats x y) && not b) (same y x)

  pub sorted-alike : (ys : List X) → IsSortedBy lt ys → IsSortedBy beats ys
  sorted-alike ys sorted k d low below = sym (same (slice_index_or ys (k + 1) d) (slice_index_or ys k d)) ∙ sorted k d low below

  pub stable-alike : (xs ys : List X) → IsStableBy lt xs ys → IsStableBy beats xs ys
  stable-alike xs ys stable x = sym (filter_agree (ties lt x) (ties beats x) (ties-same x) ys) ∙ stable x ∙ filter_agree (ties lt x) (ties beats x) (ties-same x) xs
