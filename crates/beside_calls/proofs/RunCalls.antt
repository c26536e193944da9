-- Calls of a function at places of a list, from one place on.
use Rattle.std.proofs.Common.{◌≡◌, ℕ, ◌+◌, ◌-◌, ◌<◌, ◌≤◌, inl, inr, List, ◌++◌, length, slice_index_or, slice_set, refl, sym, ap, subst, ◌∙◌, arith}
use Rattle.std.proofs.lemmas.Bool.{cases_lt}
use Rattle.std.proofs.lemmas.List.{length-append, get_or_append_left, get_or-append_right, get_or-set_same, get_or-set_other, get_or_default}
use denote.Ref.{MutBor}
use denote.Param.Members.{Shared}
use Rattle.std.specs.Fork.{AcceptsAt, ChangesAt, ChangesEach}
use Rattle.beside_calls.specs.Runs.{AreReady, AreDone}

module _ {F T : Type 0} (g : Shared F (ℕ × (MutBor T × Unit {0})) ((Unit {0}) × (MutBor T × Unit {0}))) (f : F) where
  -- the items behind the first ones may be called where all may
  pub own-ready : (at : ℕ) (items others own : List T) → items ≡ others ++ own → length others ≡ at → AreReady g f 0 items → AreReady g f at own
  own-ready at items others own is long ready = record {
    each = λ k d below.
        let all = ap (λ (xs : List T). length xs) is ∙ length-append others own in
        let within : at + k < length items = omega (arith, below, all, long) in
        let place : 0 + (at + k) ≡ at + k = omega arith in
        let behind : at ≤ at + k = omega arith in
        let from : at + k - at ≡ k = omega arith in
        subst (λ (n : ℕ). AcceptsAt g f n (slice_index_or own k d)) place
        (subst (λ (x : T). AcceptsAt g f (0 + (at + k)) x)
        (ap (λ (xs : List T). slice_index_or xs (at + k) d) is ∙ get_or-append_right others own at (at + k) d long behind ∙ ap (λ (n : ℕ). slice_index_or own n d) from)
        (ready.each (at + k) d within));
  }

  -- the first items, and those behind them
  pub both-done : (at : ℕ) (items others own others_after own_after : List T) → items ≡ others ++ own → length others ≡ at → AreDone g f 0 others others_after → AreDone g f at own own_after →
      AreDone g f 0 items (others_after ++ own_after)
  both-done at items others own others_after own_after is long first last = record {
    long = length-append others_after own_after ∙ sum (length others_after) (length own_after) (length others) (length own) first.long last.long ∙ sym (length-append others own)
        ∙ sym (ap (λ (xs : List T). length xs) is);
    each = λ k d below. subst (λ (xs : List T). ChangesAt g f (0 + k) (slice_index_or xs k d) (slice_index_or (others_after ++ own_after) k d)) (sym is)
        (whole k d (subst (λ (xs : List T). k < length xs) is below));
  }
    where
      sum : (a b c d : ℕ) → a ≡ c → b ≡ d → a + b ≡ c + d
      sum a b c d x y = omega (arith, x, y)

      early : (k : ℕ) (d : T) → k < length others → ChangesAt g f (0 + k) (slice_index_or (others ++ own) k d) (slice_index_or (others_after ++ own_after) k d)
      early k d below =
          let same = first.long in
          subst (λ (x : T). ChangesAt g f (0 + k) x (slice_index_or (others_after ++ own_after) k d)) (sym (get_or_append_left others own d k below))
          (subst (λ (y : T). ChangesAt g f (0 + k) (slice_index_or others k d) y) (sym (get_or_append_left others_after own_after d k (omega (arith, below, same)))) (first.each k d below))

      late : (k : ℕ) (d : T) → at ≤ k → k < length (others ++ own) → ChangesAt g f (0 + k) (slice_index_or (others ++ own) k d) (slice_index_or (others_after ++ own_after) k d)
      late k d low below =
          let all = length-append others own in
          let place : at + (k - at) ≡ 0 + k = omega (arith, low) in
          let within : k - at < length own = omega (arith, low, below, all, long) in
          subst (λ (x : T). ChangesAt g f (0 + k) x (slice_index_or (others_after ++ own_after) k d)) (sym (get_or-append_right others own at k d long low))
          (subst (λ (y : T). ChangesAt g f (0 + k) (slice_index_or own (k - at) d) y) (sym (get_or-append_right others_after own_after at k d (first.long ∙ long) low))
          (subst (λ (n : ℕ). ChangesAt g f n (slice_index_or own (k - at) d) (slice_index_or own_after (k - at) d)) place (last.each (k - at) d within)))

      whole : (k : ℕ) (d : T) → k < length (others ++ own) → ChangesAt g f (0 + k) (slice_index_or (others ++ own) k d) (slice_index_or (others_after ++ own_after) k d)
      whole k d below = elim (cases_lt k (length others)) [
        | inl is_early ↦ early k d is_early
        | inr is_late ↦ late k d (omega (arith, is_late, long)) below
      ]

  -- the calls at all places
  pub all-done : (xs ys : List T) → AreDone g f 0 xs ys → ChangesEach g f xs ys
  all-done xs ys done = λ i d below.
      let place : 0 + i ≡ i = omega arith in
      (refl, subst (λ (n : ℕ). ChangesAt g f n (slice_index_or xs i d) (slice_index_or ys i d)) place (done.each i d below))

  -- the items from one on are as they were
  abbrev pub Untouched : ℕ → List T → List T → Type 0
  Untouched at xs ys = (k : ℕ) (d : T) → at ≤ k → slice_index_or ys k d ≡ slice_index_or xs k d

  -- those before it are what calls left
  abbrev pub Touched : ℕ → ℕ → List T → List T → Type 0
  Touched base at xs ys = (k : ℕ) (d : T) → k < at → ChangesAt g f (base + k) (slice_index_or xs k d) (slice_index_or ys k d)

  -- one more call leaves the items behind it as they were
  pub still-untouched : (at : ℕ) (xs ys : List T) (y : T) → Untouched at xs ys → Untouched (at + 1) xs (slice_set ys at y)
  still-untouched at xs ys y same k d low = get_or-set_other ys at k y d (λ is. omega (arith, low, is)) ∙ same k d (omega (arith, low))

  -- and those up to it are what calls left
  pub one-more : (base at : ℕ) (xs ys : List T) (default y : T) → at < length ys → Untouched at xs ys → Touched base at xs ys → ChangesAt g f (base + at) (slice_index_or ys at default) y →
      Touched base (at + 1) xs (slice_set ys at y)
  one-more base at xs ys default y within same touched changes k d low = elim (cases_lt k at) [
    | inl before ↦ subst (λ (z : T). ChangesAt g f (base + k) (slice_index_or xs k d) z) (sym (get_or-set_other ys at k y d (λ is. omega (arith, before, is)))) (touched k d before)
    | inr not_before ↦ (
        let here : at ≡ k = omega (arith, low, not_before) in
        subst (λ (n : ℕ). ChangesAt g f (base + n) (slice_index_or xs n d) (slice_index_or (slice_set ys at y) n d)) here
        (subst (λ (z : T). ChangesAt g f (base + at) (slice_index_or xs at d) z) (sym (get_or-set_same ys at y d within))
        (subst (λ (z : T). ChangesAt g f (base + at) z y) (get_or_default ys at default d within ∙ same at d (omega arith)) changes)))
  ]
