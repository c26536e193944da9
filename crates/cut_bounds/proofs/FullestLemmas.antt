-- The first few of a ranked list, kept as it grows.
use Rattle.std.proofs.Common.{◌≡◌, ℕ, zero, suc, ◌+◌, ◌<◌, ltb, inl, inr, Some, None, Bool, not, ◌++◌, get_or, true, false, cond, List, [], ◌∷◌, length, take, filter, if◌then◌else◌, refl, sym, ap, ◌∙◌, append-nil, arith}
use Rattle.std.specs.List.{insert, position, position_or_len}
use Rattle.std.proofs.lemmas.Bool.{cases_Bool, ltb-false}
use Rattle.std.proofs.lemmas.Option.{none-some, same_Some}
use Rattle.std.proofs.lemmas.List.Elements.{filter_more}
use Rattle.std.proofs.lemmas.List.Sums.{fold_push, prefix_len-le-length}
use Rattle.cut_bounds.specs.Fullest.{is_fuller, is_needed, fullest_of, most_told}
use Rattle.cut_bounds.specs.Measured.{ranked, ranked_with}
use Rattle.cut_bounds.specs.declared.wall.MeasuredWall.{MeasuredWall}

-- an element is placed before the first that it beats
pub ranked-insert : {X : Type 0} (beats : X → X → Bool) (x : X) (xs : List X) → ranked_with beats x xs ≡ insert xs (position_or_len (beats x) xs) x
ranked-insert beats x [] = refl
ranked-insert {X = X} beats x (y ∷ ys) = by (beats x y) (ranked-insert beats x ys)
  where
    at : ℕ
    at = position_or_len (beats x) ys

    next : 1 + at ≡ suc at
    next = omega arith

    by : (b : Bool) → ranked_with beats x ys ≡ insert ys at x →
        (if b then x ∷ y ∷ ys else y ∷ ranked_with beats x ys) ≡ insert (y ∷ ys) (cond (not b) (1 + at) 0) x
    by true rest = refl
    by false rest = ap (λ (zs : List X). y ∷ zs) rest ∙ ap (λ (n : ℕ). insert (y ∷ ys) n x) (sym next)

-- the place that a search finds
pub found-at : {X : Type 0} (p : X → Bool) (xs : List X) (i : ℕ) → Some i ≡ position p xs → i ≡ position_or_len p xs
found-at p xs i is =
    elim (cases_Bool (ltb (position_or_len p xs) (length xs))) [
      | inl within ↦ let found : Some i ≡ Some (position_or_len p xs) = is ∙ rw within refl in same_Some i (position_or_len p xs) found
      | inr past ↦ let none : Some i ≡ None = is ∙ rw past refl in absurd (none-some i (sym none))
    ]

pub found-none : {X : Type 0} (p : X → Bool) (xs : List X) → None ≡ position p xs → length xs ≡ position_or_len p xs
found-none p xs is =
    let most = prefix_len-le-length (λ x. not (p x)) xs in
    elim (cases_Bool (ltb (position_or_len p xs) (length xs))) [
      | inl within ↦ let found : None ≡ Some (position_or_len p xs) = is ∙ rw within refl in absurd (none-some (position_or_len p xs) found)
      | inr past ↦ let le = ltb-false (position_or_len p xs) (length xs) past in omega (arith, most, le)
    ]

-- of a list with one element more, the first few are those of its first few with that one
take-ranked : {X : Type 0} (beats : X → X → Bool) (x : X) (n : ℕ) (xs : List X) → take n (ranked_with beats x (take n xs)) ≡ take n (ranked_with beats x xs)
take-ranked beats x zero xs = refl
take-ranked beats x (suc n) [] = refl
take-ranked {X = X} beats x (suc n) (y ∷ ys) = by (beats x y) (take-ranked beats x n ys)
  where
    again : (m : ℕ) (zs : List X) → take m (y ∷ take m zs) ≡ take m (y ∷ zs)
    again zero zs = refl
    again (suc m) zs = ap (λ (ws : List X). y ∷ ws) (twice m zs)
      where
        twice : (k : ℕ) (ws : List X) → take k (take (suc k) ws) ≡ take k ws
        twice zero ws = refl
        twice (suc k) [] = refl
        twice (suc k) (w ∷ ws) = ap (λ (vs : List X). w ∷ vs) (twice k ws)

    by : (b : Bool) → take n (ranked_with beats x (take n ys)) ≡ take n (ranked_with beats x ys) →
        take (suc n) (if b then x ∷ y ∷ take n ys else y ∷ ranked_with beats x (take n ys)) ≡
        take (suc n) (if b then x ∷ y ∷ ys else y ∷ ranked_with beats x ys)
    by true rest = ap (λ (ws : List X). x ∷ ws) (again n ys)
    by false rest = ap (λ (ws : List X). y ∷ ws) rest

-- ---- the fullest walls, wall by wall

pub fullest-more : (walls : List MeasuredWall) (i : ℕ) (wall d : MeasuredWall) (old new : List MeasuredWall) → i < length walls → wall ≡ get_or walls i d →
    is_needed wall ≡ true → old ≡ fullest_of (take i walls) → new ≡ take most_told (ranked_with is_fuller wall old) → new ≡ fullest_of (take (i + 1) walls)
fullest-more walls i wall d old new below at needed was is =
    let before : List MeasuredWall = filter is_needed (take i walls) in
    let more : filter is_needed (take (i + 1) walls) ≡ before ++ wall ∷ [] =
    filter_more is_needed walls i d below
    ∙ ap (λ (w : MeasuredWall). before ++ cond (is_needed w) (w ∷ []) []) (sym at) ∙ ap (λ (b : Bool). before ++ cond b (wall ∷ []) []) needed in
    is ∙ ap (λ (ws : List MeasuredWall). take most_told (ranked_with is_fuller wall ws)) was ∙ take-ranked is_fuller wall most_told (ranked is_fuller before)
    ∙ sym (ap (λ (ws : List MeasuredWall). take most_told (ranked is_fuller ws)) more
    ∙ ap (take most_told) (fold_push (λ so_far x. ranked_with is_fuller x so_far) [] before wall))

pub fullest-same : (walls : List MeasuredWall) (i : ℕ) (wall d : MeasuredWall) (old : List MeasuredWall) → i < length walls → wall ≡ get_or walls i d →
    is_needed wall ≡ false → old ≡ fullest_of (take i walls) → old ≡ fullest_of (take (i + 1) walls)
fullest-same walls i wall d old below at needless was =
    let before : List MeasuredWall = filter is_needed (take i walls) in
    let same : filter is_needed (take (i + 1) walls) ≡ before =
    filter_more is_needed walls i d below
    ∙ ap (λ (w : MeasuredWall). before ++ cond (is_needed w) (w ∷ []) []) (sym at) ∙ ap (λ (b : Bool). before ++ cond b (wall ∷ []) []) needless
    ∙ append-nil before in
    was ∙ sym (ap (λ (ws : List MeasuredWall). take most_told (ranked is_fuller ws)) same)
