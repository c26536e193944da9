-- The left-edge numbering by its definition, and the numbers below a number.
use Rattle.std.proofs.Common.{◌≡◌, ℕ, ◌<◌, ◌≤◌, inl, inr, Bool, true, false, ◌==◌, ◌||◌, not, nat_lt, List, [], ◌∷◌, ◌++◌, map, length, All, Some, slice_get, refl, sym, ap, subst, ◌∙◌, append_assoc, arith}
use Rattle.std.specs.List.{IsDistinct, list_any, position_or_len, range_with_len, zip}
use Rattle.std.proofs.lemmas.Bool.{cases_Bool, and_parts, and_from, false≢true}
use Rattle.std.proofs.lemmas.Bool.Decides.{Decides-eqb, nat_tests}
use Rattle.std.proofs.lemmas.Cmp.{nat_eq_equiv}
use Rattle.std.proofs.lemmas.List.{length-map}
use Rattle.std.proofs.lemmas.List.Elements.{All-nil, All-cons, All-head, All-tail}
use Rattle.std.proofs.lemmas.List.Folds.{Any-from_list_any, list_any-from_Any}
use Rattle.std.proofs.lemmas.List.FromFn.{get_or-range_with_len, length-range_with_len}
use Rattle.std.proofs.lemmas.List.Sums.{position_or_len_is}
use Rattle.std.proofs.lemmas.Map.Made.{length-le_from_is_member, IsDistinct-from_AllPairs}
use Rattle.std.proofs.Math.Seq.{take-append_seam}
use Rattle.track_panels.specs.declared.piece.Piece.{Piece}
use Rattle.track_panels.specs.Numberings.{Placed, IsClear, IsLeastClear, IsLeftEdge, is_clear, least_clear, tracks_from}

-- ---- the elements of a list of numbers

pub each-of : (P : ℕ → Type 0) (xs : List ℕ) (q : ℕ) → list_any (λ x. q == x) xs ≡ true → All P xs → P q
each-of P xs q is all =
    let some = Any-from_list_any (λ x. q == x) xs is in
    let same : some.1 ≡ q = grind (arith, nat_tests, some.4) in
    subst P (some.3 ∙ same) (all some.0 some.1 some.2)

-- ---- the numbers below a number

pub range-distinct : (n : ℕ) → IsDistinct (λ a b. a == b) (range_with_len 0 n)
range-distinct n = IsDistinct-from_AllPairs Decides-eqb (range_with_len 0 n) (λ i j d before inside.
    let long = length-range_with_len 0 n in
    let at_i = get_or-range_with_len 0 n i d (omega (arith, before, inside, long)) in
    let at_j = get_or-range_with_len 0 n j d (omega (arith, inside, long)) in
    λ same. omega (arith, at_i, at_j, same, before))

pub range-below : (n q : ℕ) → list_any (λ x. q == x) (range_with_len 0 n) ≡ true → q < n
range-below n q is = each-of (λ k. k < n) (range_with_len 0 n) q is (λ k d inside.
    let long = length-range_with_len 0 n in
    let at = get_or-range_with_len 0 n k d (omega (arith, inside, long)) in
    omega (arith, at, inside, long))

pub range-has : (n q : ℕ) → q < n → list_any (λ x. q == x) (range_with_len 0 n) ≡ true
range-has n q below =
    list_any-from_Any (λ x. q == x) (range_with_len 0 n) (q, q, omega (arith, below, length-range_with_len 0 n), get_or-range_with_len 0 n q q below ∙ omega arith, grind (arith, nat_tests))

-- the first of the numbers below a number that passes, or that number
pub position-first : (p : ℕ → Bool) (n at : ℕ) → at ≤ n → (at < n → p at ≡ true) → ((k : ℕ) → k < at → p k ≡ false) →
    position_or_len p (range_with_len 0 n) ≡ at
position-first p n at most passes before =
    let long = length-range_with_len 0 n in
    position_or_len_is p (range_with_len 0 n) at 0 (omega (arith, most, long))
    (λ k lower. ap p (get_or-range_with_len 0 n k 0 (omega (arith, lower, most)) ∙ omega arith) ∙ before k lower)
    (λ inside. ap p (get_or-range_with_len 0 n at 0 (omega (arith, inside, long)) ∙ omega arith) ∙ passes (omega (arith, inside, long)))

-- ---- the least clear track

pub clear-yes : (tile track : ℕ) (placed : Placed) → IsClear tile track placed → is_clear tile track placed ≡ true
clear-yes tile track [] clear = refl
clear-yes tile track (p ∷ ps) clear =
    let P : Piece × ℕ → Type 0 = λ q. q.1 ≡ track → q.0.high < tile in
    let first = All-head P p ps clear in
    and_from (not (p.1 == track) || nat_lt p.0.high tile) (is_clear tile track ps)
    (elim (cases_Bool (p.1 == track)) [
      | inl on ↦ let below = first (grind (arith, nat_tests, on)) in grind (arith, nat_tests, on, below)
      | inr off ↦ rw off refl
    ]) (clear-yes tile track ps (All-tail P p ps clear))

pub clear-is : (tile track : ℕ) (placed : Placed) → is_clear tile track placed ≡ true → IsClear tile track placed
clear-is tile track [] yes' = All-nil (λ (q : Piece × ℕ). q.1 ≡ track → q.0.high < tile)
clear-is tile track (p ∷ ps) yes' =
    let parts = and_parts (not (p.1 == track) || nat_lt p.0.high tile) (is_clear tile track ps) yes' in
    All-cons (λ (q : Piece × ℕ). q.1 ≡ track → q.0.high < tile) p ps
    (λ is. let a = parts.0 in grind (arith, nat_tests, a, is)) (clear-is tile track ps parts.1)

-- a track that isn't clear has a piece
pub on-it : (tile track : ℕ) (placed : Placed) → is_clear tile track placed ≡ false → list_any (λ t. track == t) (map (λ p. p.1) placed) ≡ true
on-it tile track [] off = absurd (false≢true (sym off))
on-it tile track (p ∷ ps) off =
    elim (cases_Bool (track == p.1)) [
      | inl on ↦ rw on refl
      | inr other ↦
          let apart : (p.1 == track) ≡ false = grind (arith, nat_tests, other) in
          let rest : is_clear tile track ps ≡ false = sym (rw apart refl) ∙ off in
          rw other (on-it tile track ps rest)
    ]

pub least-is : (tile track : ℕ) (placed : Placed) → IsLeastClear tile track placed → least_clear tile placed ≡ track
least-is tile track placed least =
    let taken : (k : ℕ) → k < track → is_clear tile k placed ≡ false = λ k lower. elim (cases_Bool (is_clear tile k placed)) [
      | inl on ↦ absurd (least.least k lower (clear-is tile k placed on))
      | inr off ↦ off
    ] in
    let most = length-le_from_is_member nat_eq_equiv (range_with_len 0 track) (map (λ (p : Piece × ℕ). p.1) placed) (range-distinct track)
    (λ q is. on-it tile q placed (taken q (range-below track q is))) in
    position-first (λ k. is_clear tile k placed) (length placed) track
    (omega (arith, most, length-map placed (λ (p : Piece × ℕ). p.1), length-range_with_len 0 track))
    (λ inside. clear-yes tile track placed least.clear) taken

-- ---- the numbering

pub seam : (before : Placed) (p : Piece × ℕ) (after : Placed) → slice_get (before ++ p ∷ after) (length before) ≡ Some p
seam [] p after = refl
seam (q ∷ qs) p after = seam qs p after

pub tracks-are : (before : Placed) (pieces : List Piece) (numbers : List ℕ) → length numbers ≡ length pieces →
    IsLeftEdge (before ++ zip pieces numbers) → tracks_from before pieces ≡ numbers
tracks-are before [] [] same edge = refl
tracks-are before [] (n ∷ ns) same edge = absurd (omega (arith, same))
tracks-are before (p ∷ ps) [] same edge = absurd (omega (arith, same))
tracks-are before (p ∷ ps) (n ∷ ns) same edge =
    let least = edge (length before) (p, n) (seam before (p, n) (zip ps ns)) in
    let here = least-is p.low n before (subst (λ (qs : Placed). IsLeastClear p.low n qs) (take-append_seam before ((p, n) ∷ zip ps ns)) least) in
    let shift = append_assoc before ((p, n) ∷ []) (zip ps ns) in
    let rest = tracks-are (before ++ (p, n) ∷ []) ps ns (omega (arith, same)) (subst (λ (qs : Placed). IsLeftEdge qs) (sym shift) edge) in
    rw here (ap (λ (ms : List ℕ). n ∷ ms) rest)
