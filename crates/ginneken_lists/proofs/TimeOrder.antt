-- Times are in a total order, in which none is the greatest.
use Rattle.std.proofs.Common.{◌≡◌, ℤ, inl, inr, true, false, Option, Some, None, refl, sym, ap, subst, arith}
use Rattle.std.proofs.lemmas.Bool.{both_ways, cases_Bool, false_from_ne_true}
use Rattle.std.proofs.lemmas.Int.{ints, clamps}
use Rattle.std.specs.Int.{int_min}
use Rattle.std.specs.Prelude.{int_le}
use Rattle.elmore_delay.specs.RcTrees.{sooner}
use Rattle.ginneken_lists.specs.Candidates.{no_later}

int-itself : (x : ℤ) → int_le x x ≡ true
int-itself x = grind (arith, ints)

int-through : (x y z : ℤ) → int_le x y ≡ true → int_le y z ≡ true → int_le x z ≡ true
int-through x y z first second = grind (arith, ints)

int-other : (x y : ℤ) → int_le x y ≡ false → int_le y x ≡ true
int-other x y later = grind (arith, ints)

int-same : (x y : ℤ) → int_le x y ≡ true → int_le y x ≡ true → x ≡ y
int-same x y first second = grind (arith, ints)

int-min_first : (x y : ℤ) → int_le x y ≡ true → int_min x y ≡ x
int-min_first x y first = grind (arith, ints, clamps)

int-min_second : (x y : ℤ) → int_le y x ≡ true → int_min x y ≡ y
int-min_second x y second = grind (arith, ints, clamps)

pub no_later-itself : (a : Option ℤ) → no_later a a ≡ true
no_later-itself None = refl
no_later-itself (Some x) = int-itself x

pub no_later-through : (a b c : Option ℤ) → no_later a b ≡ true → no_later b c ≡ true → no_later a c ≡ true
no_later-through a b None first second = refl
no_later-through a None (Some z) first second = absurd (both_ways false refl second)
no_later-through None (Some y) (Some z) first second = absurd (both_ways false refl first)
no_later-through (Some x) (Some y) (Some z) first second = int-through x y z first second

pub no_later-other : (a b : Option ℤ) → no_later a b ≡ false → no_later b a ≡ true
no_later-other a None later = absurd (both_ways true later refl)
no_later-other None (Some y) later = refl
no_later-other (Some x) (Some y) later = int-other x y later

pub no_later-same : (a b : Option ℤ) → no_later a b ≡ true → no_later b a ≡ true → a ≡ b
no_later-same None None first second = refl
no_later-same None (Some y) first second = absurd (both_ways false refl first)
no_later-same (Some x) None first second = absurd (both_ways false refl second)
no_later-same (Some x) (Some y) first second = ap Some (int-same x y first second)

-- later than what is no earlier
pub later-through : (a b c : Option ℤ) → no_later b a ≡ true → no_later b c ≡ false → no_later a c ≡ false
later-through a b c first later = false_from_ne_true (no_later a c) (λ is. both_ways (no_later b c) later (no_later-through b a c first is))

-- no earlier than what is later
pub later-before : (a b c : Option ℤ) → no_later a b ≡ false → no_later c b ≡ true → no_later a c ≡ false
later-before a b c later first = false_from_ne_true (no_later a c) (λ is. both_ways (no_later a b) later (no_later-through a c b is first))

-- the lesser of two times
pub sooner-first : (a b : Option ℤ) → no_later (sooner a b) a ≡ true
sooner-first None b = refl
sooner-first (Some x) None = int-itself x
sooner-first (Some x) (Some y) = grind (arith, ints, clamps)

pub sooner-second : (a b : Option ℤ) → no_later (sooner a b) b ≡ true
sooner-second None b = no_later-itself b
sooner-second (Some x) None = refl
sooner-second (Some x) (Some y) = grind (arith, ints, clamps)

pub sooner-is_first : (a b : Option ℤ) → no_later a b ≡ true → sooner a b ≡ a
sooner-is_first None None first = refl
sooner-is_first None (Some y) first = absurd (both_ways false refl first)
sooner-is_first (Some x) None first = refl
sooner-is_first (Some x) (Some y) first = ap Some (int-min_first x y first)

pub sooner-is_second : (a b : Option ℤ) → no_later b a ≡ true → sooner a b ≡ b
sooner-is_second None b second = refl
sooner-is_second (Some x) None second = absurd (both_ways false refl second)
sooner-is_second (Some x) (Some y) second = ap Some (int-min_second x y second)

-- it is no earlier than what neither is earlier than
pub sooner-greatest : (a b c : Option ℤ) → no_later c a ≡ true → no_later c b ≡ true → no_later c (sooner a b) ≡ true
sooner-greatest a b c first second = elim (cases_Bool (no_later a b)) [
  | inl is ↦ subst (λ (t : Option ℤ). no_later c t ≡ true) (sym (sooner-is_first a b is)) first
  | inr is ↦ subst (λ (t : Option ℤ). no_later c t ≡ true) (sym (sooner-is_second a b (no_later-other a b is))) second
]

-- it is later than what both are later than
pub later-sooner : (a b c : Option ℤ) → no_later a c ≡ false → no_later b c ≡ false → no_later (sooner a b) c ≡ false
later-sooner a b c first second = elim (cases_Bool (no_later a b)) [
  | inl is ↦ subst (λ (t : Option ℤ). no_later t c ≡ false) (sym (sooner-is_first a b is)) first
  | inr is ↦ subst (λ (t : Option ℤ). no_later t c ≡ false) (sym (sooner-is_second a b (no_later-other a b is))) second
]
