-- What one more net adds to the counts.
use Rattle.std.proofs.Common.{◌≡◌, ◌↔◌, ℕ, zero, suc, ◌+◌, ◌*◌, ◌<◌, ◌≤◌, inl, inr, Bool, true, false, cond, List, [], ◌∷◌, ◌++◌, length, get_or, filter, Contains, count_by, sum_by, IsTrue, refl, sym, ap, subst, ◌∙◌, arith}
use Rattle.std.specs.List.{range_with_len}
use Rattle.std.specs.List.Sorted.{IsStrictlyIncreasing}
use Rattle.std.proofs.Math.ListN.{get_or-append}
use Rattle.std.proofs.Math.Seq.{get_or-append_seam}
use Rattle.std.proofs.lemmas.Bool.{cases_Bool, cases_lt, cases_eq, both_ways}
use Rattle.std.proofs.lemmas.List.{length-append}
use Rattle.std.proofs.lemmas.List.Elements.{filter-append, Contains-push, Contains-append_left, Contains-push_cases}
use Rattle.std.proofs.lemmas.List.Sums.{sum_by-append, sum_by_push, count_by-le-length}
use Rattle.std.proofs.lemmas.List.FromFn.{length-range_with_len}
use Rattle.gr_base.proofs.General.{range-more}
use Rattle.gr_base.specs.Designs.{DesignView, is_routed, pins_at}
use Rattle.gr_base.specs.EdgeSets.{Edges, IsJoined}
use Rattle.route_evaluator.specs.Counts.{sum_before, noted}
use Rattle.route_evaluator.specs.Verdicts.{IsUnjoined}

from-zero : (n : ℕ) → range_with_len 0 (n + 1) ≡ range_with_len 0 n ++ n ∷ []
from-zero n = let e : 0 + n ≡ n = omega arith in range-more 0 n ∙ ap (λ (k : ℕ). range_with_len 0 n ++ k ∷ []) e

-- ---- sums over the routed nets below a number

module _ (d : DesignView) (f : ℕ → ℕ) where
  parted : (k : ℕ) → sum_before d (k + 1) f ≡ sum_before d k f + sum_by f (cond (is_routed d k) (k ∷ []) [])
  parted k =
      ap (λ (xs : List ℕ). sum_by f (filter (is_routed d) xs)) (from-zero k)
      ∙ ap (sum_by f) (filter-append (is_routed d) (range_with_len 0 k) (k ∷ []))
      ∙ sum_by-append f (filter (is_routed d) (range_with_len 0 k)) (cond (is_routed d k) (k ∷ []) [])

  pub sum-next : (k : ℕ) → is_routed d k ≡ true → sum_before d (k + 1) f ≡ sum_before d k f + f k
  sum-next k on =
      let one : sum_by f (cond (is_routed d k) (k ∷ []) []) ≡ 0 + f k = rw on refl in
      omega (arith, parted k, one)

  pub sum-skip : (k : ℕ) → is_routed d k ≡ false → sum_before d (k + 1) f ≡ sum_before d k f
  sum-skip k off =
      let none : sum_by f (cond (is_routed d k) (k ∷ []) []) ≡ 0 = rw off refl in
      omega (arith, parted k, none)

  pub sum-most : (m k : ℕ) → ((n : ℕ) → f n ≤ m) → sum_before d k f ≤ k * m
  sum-most m zero most = omega arith
  sum-most m (suc k) most =
      let e : suc k ≡ k + 1 = omega arith in
      let rest = sum-most m k most in
      let more : sum_before d (suc k) f ≡ sum_before d (k + 1) f = ap (λ (n : ℕ). sum_before d n f) e in
      elim (cases_Bool (is_routed d k)) [
        | inl on ↦ let next = sum-next k on in let few = most k in omega (arith, more, next, few, rest)
        | inr off ↦ let next = sum-skip k off in omega (arith, more, next, rest)
      ]

-- how many nets below a number are routed
pub routed-next : (d : DesignView) (k : ℕ) → is_routed d k ≡ true → count_by (is_routed d) (range_with_len 0 (k + 1)) ≡ count_by (is_routed d) (range_with_len 0 k) + 1
routed-next d k on =
    let one : cond {A = ℕ} (is_routed d k) 1 0 ≡ 1 = rw on refl in
    let more = sum_by_push (λ (n : ℕ). cond (is_routed d n) 1 0) (range_with_len 0 k) k in
    ap (count_by (is_routed d)) (from-zero k) ∙ omega (arith, more, one)

pub routed-skip : (d : DesignView) (k : ℕ) → is_routed d k ≡ false → count_by (is_routed d) (range_with_len 0 (k + 1)) ≡ count_by (is_routed d) (range_with_len 0 k)
routed-skip d k off =
    let one : cond {A = ℕ} (is_routed d k) 1 0 ≡ 0 = rw off refl in
    let more = sum_by_push (λ (n : ℕ). cond (is_routed d n) 1 0) (range_with_len 0 k) k in
    ap (count_by (is_routed d)) (from-zero k) ∙ omega (arith, more, one)

pub routed-most : (d : DesignView) (k : ℕ) → count_by (is_routed d) (range_with_len 0 k) ≤ k
routed-most d k = omega (arith, count_by-le-length (is_routed d) (range_with_len 0 k), length-range_with_len 0 k)

-- ---- the list of nets that aren't joined

-- the list rises, and has just the nets below a number that aren't joined
pub record IsListed (d : DesignView) (sets : ℕ → Edges) (count : ℕ) (nets : List ℕ) : Type 0 where
  pub rising : IsStrictlyIncreasing nets
  pub unjoined : (net : ℕ) → Contains nets net ↔ ((net < count) × IsUnjoined d sets net)

pub listed-skip : (d : DesignView) (sets : ℕ → Edges) (k : ℕ) (nets : List ℕ) → (IsUnjoined d sets k → ⊥) → IsListed d sets k nets → IsListed d sets (k + 1) nets
listed-skip d sets k nets joined listed = record {
  rising = listed.rising;
  unjoined = λ net. (
    λ has. let u = (listed.unjoined net).0 has in let below = u.0 in (omega arith, u.1),
    λ u. elim (cases_eq net k) [
      | inl same ↦ absurd (joined (subst (λ (n : ℕ). IsUnjoined d sets n) same u.1))
      | inr other ↦ let below = u.0 in let less : net < k = omega arith in (listed.unjoined net).1 (less, u.1)
    ],
  );
}

pub listed-push : (d : DesignView) (sets : ℕ → Edges) (k : ℕ) (nets : List ℕ) → IsUnjoined d sets k → IsListed d sets k nets → IsListed d sets (k + 1) (nets ++ k ∷ [])
listed-push d sets k nets apart listed = record {
  rising = λ i less. elim (cases_lt (i + 1) (length nets)) [
    | inl before ↦
        let here = get_or-append nets (k ∷ []) 0 i (omega arith) in
        let next = get_or-append nets (k ∷ []) 0 (i + 1) before in
        omega (arith, here, next, listed.rising i before)
    | inr last ↦
        let end : i + 1 ≡ length nets = omega (arith, less, length-append nets (k ∷ [])) in
        let here = get_or-append nets (k ∷ []) 0 i (omega arith) in
        let next : get_or (nets ++ k ∷ []) (i + 1) 0 ≡ k = ap (λ (n : ℕ). get_or (nets ++ k ∷ []) n 0) end ∙ get_or-append_seam nets k [] 0 in
        let below = ((listed.unjoined (get_or nets i 0)).0 (i, omega arith, again nets i (omega arith))).0 in
        omega (arith, here, next, below)
  ];
  unjoined = λ net. (
    λ has. elim (Contains-push_cases nets k net has) [
      | inl old ↦ let u = (listed.unjoined net).0 old in let below = u.0 in (omega arith, u.1)
      | inr new ↦ (omega arith, subst (λ (n : ℕ). IsUnjoined d sets n) new apart)
    ],
    λ u. elim (cases_eq net k) [
      | inl same ↦ subst (λ (n : ℕ). Contains (nets ++ k ∷ []) n) (sym same) (Contains-push nets k)
      | inr other ↦ let below = u.0 in let less : net < k = omega arith in Contains-append_left nets (k ∷ []) net ((listed.unjoined net).1 (less, u.1))
    ],
  );
}
  where
    again : (xs : List ℕ) (i : ℕ) → i < length xs → get_or xs i (get_or xs i 0) ≡ get_or xs i 0
    again [] i less = absurd (omega arith)
    again (x ∷ xs) zero less = refl
    again (x ∷ xs) (suc i) less = again xs i (omega arith)

pub listed-next : (d : DesignView) (sets : ℕ → Edges) (k : ℕ) (nets new : List ℕ) (joined : Bool) → is_routed d k ≡ true →
    IsTrue joined ↔ IsJoined d.frame.shape (sets k) (pins_at d k) → IsListed d sets k nets → new ≡ noted joined k nets → IsListed d sets (k + 1) new
listed-next d sets k nets new joined routed decides listed is = subst (λ (xs : List ℕ). IsListed d sets (k + 1) xs) (sym is) (by joined refl)
  where
    by : (b : Bool) → joined ≡ b → IsListed d sets (k + 1) (noted b k nets)
    by true yes_joined = listed-skip d sets k nets (λ u. u.apart (decides.0 yes_joined)) listed
    by false not_joined =
        listed-push d sets k nets (record { routed = routed; apart = λ joins. both_ways joined not_joined (decides.1 joins) }) listed
