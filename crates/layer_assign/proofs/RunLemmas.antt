-- The best layers along a run are those that the offers with their climbs give.
use Rattle.std.proofs.Common.{◌≡◌, ℕ, zero, suc, ◌+◌, ◌-◌, ◌*◌, ◌<◌, ◌≤◌, inl, inr, true, false, nat_lt, max, min, Option, Some, None, IfSome, add-one, refl, sym, ap, subst, ◌∙◌, arith}
use Rattle.std.proofs.lemmas.Bool.{cases_lt}
use Rattle.std.proofs.lemmas.Bool.Decides.{nat_tests}
use Rattle.std.specs.Option.{option_map}
use Rattle.layer_assign.specs.declared.span.Best.{Best}
use Rattle.layer_assign.specs.Spans.{widened, climb}
use Rattle.layer_assign.specs.Tables.{better, best_below}
use Rattle.layer_assign.specs.Runs.{offer_on, offer_from, a_climb_more, best_up_to, best_from}

pub better-second : (a b : Best) → b.cost < a.cost → better (Some a) (Some b) ≡ Some b
better-second a b less = let test : nat_lt b.cost a.cost ≡ true = grind (arith, nat_tests) in rw test refl

pub better-first : (a b : Best) → a.cost ≤ b.cost → better (Some a) (Some b) ≡ Some a
better-first a b most = let test : nat_lt b.cost a.cost ≡ false = grind (arith, nat_tests) in rw test refl

pub better-none : (a : Option Best) → better a None ≡ a
better-none None = refl
better-none (Some a) = refl

-- it doesn't matter which two of three offers are compared first
better-assoc : (a b c : Option Best) → better (better a b) c ≡ better a (better b c)
better-assoc None b c = refl
better-assoc (Some a) None c = refl
better-assoc (Some a) (Some b) None = better-none (better (Some a) (Some b))
better-assoc (Some a) (Some b) (Some c) =
    elim (cases_lt b.cost a.cost) [
      | inl second ↦ elim (cases_lt c.cost b.cost) [
        | inl third ↦
            ap (λ o. better o (Some c)) (better-second a b second) ∙ better-second b c third ∙
            sym (better-second a c (omega (arith, second, third))) ∙
            ap (λ o. better (Some a) o) (sym (better-second b c third))
        | inr stays ↦
            ap (λ o. better o (Some c)) (better-second a b second) ∙ better-first b c stays ∙
            sym (better-second a b second) ∙
            ap (λ o. better (Some a) o) (sym (better-first b c stays))
      ]
      | inr first ↦ elim (cases_lt c.cost b.cost) [
        | inl third ↦
            ap (λ o. better o (Some c)) (better-first a b first) ∙
            ap (λ o. better (Some a) o) (sym (better-second b c third))
        | inr stays ↦
            ap (λ o. better o (Some c)) (better-first a b first) ∙
            better-first a c (omega (arith, first, stays)) ∙
            sym (better-first a b first) ∙
            ap (λ o. better (Some a) o) (sym (better-first b c stays))
      ]
    ]

-- a climb more for both of two offers leaves the better one the better
climb-better : (a b : Option Best) → a_climb_more (better a b) ≡ better (a_climb_more a) (a_climb_more b)
climb-better None b = refl
climb-better (Some a) None = refl
climb-better (Some a) (Some b) =
    elim (cases_lt b.cost a.cost) [
      | inl less ↦ ap (λ o. a_climb_more o) (better-second a b less) ∙ sym (better-second (more a) (more b) (omega arith))
      | inr most ↦ ap (λ o. a_climb_more o) (better-first a b most) ∙ sym (better-first (more a) (more b) (omega arith))
    ]
  where
    more : Best → Best
    more x = record { layer = x.layer; cost = x.cost + 3 }

-- the best of the offers from a layer on
abbrev from_on : (ℕ → Option Best) → ℕ → ℕ → Option Best
from_on f a zero = None
from_on f a (suc n) = better (f a) (from_on f (a + 1) n)

below-one : (f : ℕ → Option Best) (a : ℕ) → best_below f (a + 1) ≡ better (best_below f a) (f a)
unfolding best_below
below-one f a = rw add-one refl

below-from : (f : ℕ → Option Best) (a n : ℕ) → best_below f (a + n) ≡ better (best_below f a) (from_on f a n)
below-from f a zero = let e : a + 0 ≡ a = omega arith in ap (best_below f) e ∙ sym (better-none (best_below f a))
below-from f a (suc n) =
    let e : a + suc n ≡ a + 1 + n = omega arith in
    ap (best_below f) e ∙ below-from f (a + 1) n ∙
    ap (λ o. better o (from_on f (a + 1) n)) (below-one f a) ∙
    better-assoc (best_below f a) (f a) (from_on f (a + 1) n)

pub below-climbed : (f h : ℕ → Option Best) (n : ℕ) → ((m : ℕ) → m < n → f m ≡ a_climb_more (h m)) → best_below f n ≡ a_climb_more (best_below h n)
unfolding best_below
below-climbed f h zero each = refl
below-climbed f h (suc n) each =
    ap (λ o. better o (f n)) (below-climbed f h n (λ m lt. each m (omega arith))) ∙
    ap (λ o. better (a_climb_more (best_below h n)) o) (each n (omega arith)) ∙
    sym (climb-better (best_below h n) (h n))

from-climbed : (f h : ℕ → Option Best) (a n : ℕ) → ((m : ℕ) → a ≤ m → f m ≡ a_climb_more (h m)) → from_on f a n ≡ a_climb_more (from_on h a n)
from-climbed f h a zero each = refl
from-climbed f h a (suc n) each =
    ap (λ o. better o (from_on f (a + 1) n)) (each a (omega arith)) ∙
    ap (λ o. better (a_climb_more (h a)) o) (from-climbed f h (a + 1) n (λ m le. each m (omega arith))) ∙
    sym (climb-better (h a) (from_on h (a + 1) n))

-- climbs between two layers
climb-none : (l : ℕ) → climb (widened (widened None l) l) ≡ 0
climb-none l = let high : max l l ≡ l = omega arith in let low : min l l ≡ l = omega arith in omega arith

climb-below : (l m : ℕ) → m ≤ l → climb (widened (widened None (l + 1)) m) ≡ climb (widened (widened None l) m) + 3
climb-below l m le =
    let high : max l m ≡ l = omega arith in
    let low : min l m ≡ m = omega arith in
    let more : max (l + 1) m ≡ l + 1 = omega arith in
    let same : min (l + 1) m ≡ m = omega arith in
    omega (arith, high, low, more, same, le)

climb-above : (l m : ℕ) → l + 1 ≤ m → climb (widened (widened None l) m) ≡ climb (widened (widened None (l + 1)) m) + 3
climb-above l m le =
    let high : max l m ≡ m = omega arith in
    let low : min l m ≡ l = omega arith in
    let same : max (l + 1) m ≡ m = omega arith in
    let more : min (l + 1) m ≡ l + 1 = omega arith in
    omega (arith, high, low, more, same, le)

-- a layer with a cost
abbrev pub at_cost : ℕ → ℕ → Best
at_cost layer cost = record { layer = layer; cost = cost }

offer-same : (o : Option ℕ) (layer x : ℕ) → x ≡ 0 →
    option_map (λ (limb : ℕ). at_cost layer limb) o ≡ option_map (λ (limb : ℕ). at_cost layer (limb + x)) o
offer-same None layer x none = refl
offer-same (Some limb) layer x none =
    let e : limb ≡ limb + x = omega arith in
    let make : ℕ → Option Best = λ k. Some (record { layer = layer; cost = k }) in
    ap make e

offer-climbed : (o : Option ℕ) (layer x y : ℕ) → x ≡ y + 3 →
    option_map (λ (limb : ℕ). at_cost layer (limb + x)) o ≡ a_climb_more (option_map (λ (limb : ℕ). at_cost layer (limb + y)) o)
offer-climbed None layer x y more = refl
offer-climbed (Some limb) layer x y more =
    let e : limb + x ≡ limb + y + 3 = omega arith in
    let make : ℕ → Option Best = λ k. Some (record { layer = layer; cost = k }) in
    ap make e

on-from : (limbs : ℕ → Option ℕ) (l : ℕ) → offer_on limbs l ≡ offer_from limbs l l
on-from limbs l = offer-same (limbs l) l (climb (widened (widened None l) l)) (climb-none l)

pub from-below : (limbs : ℕ → Option ℕ) (l m : ℕ) → m ≤ l → offer_from limbs (l + 1) m ≡ a_climb_more (offer_from limbs l m)
from-below limbs l m le =
    offer-climbed (limbs m) m (climb (widened (widened None (l + 1)) m)) (climb (widened (widened None l) m)) (climb-below l m le)

from-above : (limbs : ℕ → Option ℕ) (l m : ℕ) → l + 1 ≤ m → offer_from limbs l m ≡ a_climb_more (offer_from limbs (l + 1) m)
from-above limbs l m le =
    offer-climbed (limbs m) m (climb (widened (widened None l) m)) (climb (widened (widened None (l + 1)) m)) (climb-above l m le)

pub up_to-more : (limbs : ℕ → Option ℕ) (l : ℕ) → best_up_to limbs (l + 1) ≡ better (a_climb_more (best_up_to limbs l)) (offer_on limbs l)
unfolding best_up_to
up_to-more limbs l = rw add-one refl

-- the best of the layers up to one are those of the offers with their climbs
pub up_to-below : (limbs : ℕ → Option ℕ) (l : ℕ) → best_up_to limbs (l + 1) ≡ best_below (offer_from limbs l) (l + 1)
unfolding best_up_to best_below
up_to-below limbs zero = up_to-more limbs 0 ∙ on-from limbs 0 ∙ sym (below-one (offer_from limbs 0) 0)
up_to-below limbs (suc l) =
    let next = l + 1 in
    let at : suc l ≡ next = sym (add-one l) in
    let step : best_up_to limbs (next + 1) ≡ best_below (offer_from limbs next) (next + 1) =
    up_to-more limbs next ∙
    ap (λ o. better (a_climb_more o) (offer_on limbs next)) (up_to-below limbs l) ∙
    ap (λ o. better o (offer_on limbs next)) (sym (below-climbed (offer_from limbs next) (offer_from limbs l) next (λ m lt. from-below limbs l m (omega arith)))) ∙
    ap (λ o. better (best_below (offer_from limbs next) next) o) (on-from limbs next) ∙
    sym (below-one (offer_from limbs next) next) in
    subst (λ (k : ℕ). best_up_to limbs (k + 1) ≡ best_below (offer_from limbs k) (k + 1)) (sym at) step

from-from_on : (limbs : ℕ → Option ℕ) (a n : ℕ) → best_from limbs a n ≡ from_on (offer_from limbs a) a n
unfolding best_from
from-from_on limbs a zero = refl
from-from_on limbs a (suc n) =
    ap (λ o. better o (a_climb_more (best_from limbs (a + 1) n))) (on-from limbs a) ∙
    ap (λ o. better (offer_from limbs a a) (a_climb_more o)) (from-from_on limbs (a + 1) n) ∙
    ap (λ o. better (offer_from limbs a a) o) (sym (from-climbed (offer_from limbs a) (offer_from limbs (a + 1)) (a + 1) n (λ m le. from-above limbs a m le)))

-- the best up to a layer and the best above it make the best of all
pub best-both : (limbs : ℕ → Option ℕ) (l n layers : ℕ) → l + 1 + n ≡ layers →
    better (best_up_to limbs (l + 1)) (a_climb_more (best_from limbs (l + 1) n)) ≡ best_below (offer_from limbs l) layers
best-both limbs l n layers all =
    ap (λ o. better o (a_climb_more (best_from limbs (l + 1) n))) (up_to-below limbs l) ∙
    ap (λ o. better (best_below (offer_from limbs l) (l + 1)) (a_climb_more o)) (from-from_on limbs (l + 1) n) ∙
    ap (λ o. better (best_below (offer_from limbs l) (l + 1)) o) (sym (from-climbed (offer_from limbs l) (offer_from limbs (l + 1)) (l + 1) n (λ m le. from-above limbs l m le))) ∙
    sym (below-from (offer_from limbs l) (l + 1) n) ∙ ap (best_below (offer_from limbs l)) all

-- one layer further down
pub from-more : (limbs : ℕ → Option ℕ) (k layer layers : ℕ) (best seen made : Option Best) → k + 1 ≡ layer → layer ≤ layers → best ≡ best_from limbs layer (layers - layer) →
    seen ≡ a_climb_more best → made ≡ better (offer_on limbs k) seen → made ≡ best_from limbs k (layers - k)
unfolding best_from
from-more limbs k layer layers best seen made next most so_far climbs is =
    let count : layers - k ≡ suc (layers - layer) = omega arith in
    is ∙ ap (λ o. better (offer_on limbs k) o) (climbs ∙ ap (λ o. a_climb_more o) so_far) ∙
    ap (λ j. better (offer_on limbs k) (a_climb_more (best_from limbs j (layers - layer)))) (sym next) ∙
    sym (ap (best_from limbs k) count)

-- what the best cost at most
better-if : (P : Best → Type 0) (a b : Option Best) → IfSome a P → IfSome b P → IfSome (better a b) P
better-if P None b of_a of_b = of_b
better-if P (Some a) None of_a of_b = of_a
better-if P (Some a) (Some b) of_a of_b =
    elim (cases_lt b.cost a.cost) [
      | inl less ↦ subst (λ (o : Option Best). IfSome o P) (sym (better-second a b less)) of_b
      | inr most ↦ subst (λ (o : Option Best). IfSome o P) (sym (better-first a b most)) of_a
    ]

climb-small : (o : Option Best) (most more : ℕ) → most + 3 ≤ more → IfSome o (λ b. b.cost ≤ most) → IfSome (a_climb_more o) (λ b. b.cost ≤ more)
climb-small None most more le small = tt
climb-small (Some b) most more le small = omega arith

on-small : (limbs : ℕ → Option ℕ) (l : ℕ) (o : Option ℕ) (most more : ℕ) → most ≤ more → IfSome o (λ cost. cost ≤ most) →
    IfSome (option_map (λ (limb : ℕ). at_cost l limb) o) (λ b. b.cost ≤ more)
on-small limbs l None most more le small = tt
on-small limbs l (Some limb) most more le small = omega arith

abbrev pub AreSmall : (ℕ → Option ℕ) → ℕ → ℕ → Type 0
AreSmall limbs layers most = (l : ℕ) → l < layers → IfSome (limbs l) (λ cost. cost ≤ most)

pub up_to-small : (limbs : ℕ → Option ℕ) (layers most n : ℕ) → n ≤ layers → AreSmall limbs layers most → IfSome (best_up_to limbs n) (λ b. b.cost ≤ most + 3 * n)
unfolding best_up_to
up_to-small limbs layers most zero le small = tt
up_to-small limbs layers most (suc n) le small =
    better-if (λ b. b.cost ≤ most + 3 * suc n) (a_climb_more (best_up_to limbs n)) (offer_on limbs n)
    (climb-small (best_up_to limbs n) (most + 3 * n) (most + 3 * suc n) (omega arith) (up_to-small limbs layers most n (omega arith) small))
    (on-small limbs n (limbs n) most (most + 3 * suc n) (omega arith) (small n (omega arith)))

pub from-small : (limbs : ℕ → Option ℕ) (layers most a n : ℕ) → a + n ≤ layers → AreSmall limbs layers most → IfSome (best_from limbs a n) (λ b. b.cost ≤ most + 3 * n)
unfolding best_from
from-small limbs layers most a zero le small = tt
from-small limbs layers most a (suc n) le small =
    better-if (λ b. b.cost ≤ most + 3 * suc n) (offer_on limbs a) (a_climb_more (best_from limbs (a + 1) n))
    (on-small limbs a (limbs a) most (most + 3 * suc n) (omega arith) (small a (omega arith)))
    (climb-small (best_from limbs (a + 1) n) (most + 3 * n) (most + 3 * suc n) (omega arith) (from-small limbs layers most (a + 1) n (omega arith) small))

-- the best cost little
costs-under : (o : Option Best) (most more : ℕ) → most ≤ more → IfSome o (λ b. b.cost ≤ most) → IfSome o (λ b. b.cost ≤ more)
costs-under None most more le small = tt
costs-under (Some b) most more le small = omega arith

pub costs-less : (o is : Option Best) (n : ℕ) → n ≤ 16 → o ≡ is → IfSome is (λ b. b.cost ≤ 1125899907891200 + 3 * n) → IfSome o (λ b. b.cost ≤ 1152921504606846976)
costs-less o is n few same small =
    subst (λ (p : Option Best). IfSome p (λ b. b.cost ≤ 1152921504606846976)) (sym same)
    (costs-under is (1125899907891200 + 3 * n) 1152921504606846976 (omega arith) small)
