-- Limbs along a run that are left out, since a climb from a lower layer costs no more, aren't missed.
use Rattle.std.proofs.Common.{◌≡◌, ◌≢◌, ◌⊎◌, ℕ, zero, suc, ◌+◌, ◌<◌, ◌≤◌, inl, inr, List, length, set, Option, Some, None, unwrap_or, IfSome, IsSomeAnd, add-one, refl, sym, ap, subst, ◌∙◌, arith}
use Rattle.std.proofs.lemmas.Bool.{cases_lt, cases_eq}
use Rattle.std.proofs.lemmas.List.{length-set}
use Rattle.std.specs.Option.{option_map, option_and_then}
use Rattle.layer_assign.specs.declared.span.Best.{Best}
use Rattle.layer_assign.specs.Spans.{widened, climb}
use Rattle.layer_assign.specs.Tables.{number_in, better, best_below}
use Rattle.layer_assign.specs.Runs.{offer_on, offer_from, a_climb_more, best_up_to, StandsUnless, Thins}
use Rattle.layer_assign.proofs.RunLemmas.{better-second, better-first, better-none, below-climbed, from-below, up_to-below, up_to-more, at_cost}
use Rattle.layer_assign.proofs.TableLemmas.{get-set_same, get-set_other}

-- the best so far is that of the lower layers alone
pub up_to-same : (f h : ℕ → Option ℕ) (n : ℕ) → ((k : ℕ) → k < n → f k ≡ h k) → best_up_to f n ≡ best_up_to h n
unfolding best_up_to
up_to-same f h zero same = refl
up_to-same f h (suc n) same =
    ap (λ (o : Option Best). better (a_climb_more o) (offer_on f n)) (up_to-same f h n (λ k lt. same k (omega arith))) ∙
    ap (λ (o : Option ℕ). better (a_climb_more (best_up_to h n)) (option_map (λ (limb : ℕ). at_cost n limb) o)) (same n (omega arith))

-- the better of two offers is one of them, and costs no more than either
one_of : (x y : Option Best) (b : Best) → better x y ≡ Some b → (x ≡ Some b) ⊎ (y ≡ Some b)
one_of None y b is = inr is
one_of (Some a) None b is = inl is
one_of (Some a) (Some c) b is =
    elim (cases_lt c.cost a.cost) [
      | inl less ↦ inr (sym (better-second a c less) ∙ is)
      | inr most ↦ inl (sym (better-first a c most) ∙ is)
    ]

first-most : (x y : Option Best) (most : ℕ) → IsSomeAnd x (λ a. a.cost ≤ most) → IsSomeAnd (better x y) (λ a. a.cost ≤ most)
first-most None y most le = absurd le
first-most (Some a) None most le = le
first-most (Some a) (Some c) most le =
    let P : Option Best → Type 0 = λ o. IsSomeAnd o (λ b. b.cost ≤ most) in
    elim (cases_lt c.cost a.cost) [
      | inl less ↦ let low : c.cost ≤ most = omega (arith, le, less) in subst P (sym (better-second a c less)) low
      | inr stays ↦ subst P (sym (better-first a c stays)) le
    ]

second-most : (x : Option Best) (b : Best) → IsSomeAnd (better x (Some b)) (λ a. a.cost ≤ b.cost)
second-most None b = omega arith
second-most (Some a) b =
    let P : Option Best → Type 0 = λ o. IsSomeAnd o (λ c. c.cost ≤ b.cost) in
    elim (cases_lt b.cost a.cost) [
      | inl less ↦ let low : b.cost ≤ b.cost = omega arith in subst P (sym (better-second a b less)) low
      | inr stays ↦ subst P (sym (better-first a b stays)) stays
    ]

-- the best of some offers is one of them, and costs no more than any
attained : (f : ℕ → Option Best) (n : ℕ) (b : Best) → best_below f n ≡ Some b → (k : ℕ) × ((k < n) × (f k ≡ Some b))
unfolding best_below
attained f zero b is = absurd (no_best is)
  where
    no_best : None ≡ Some b → ⊥
    no_best e = cc
attained f (suc n) b is =
    elim (one_of (best_below f n) (f n) b is) [
      | inl first ↦ let at = attained f n b first in let lt = at.1.0 in (at.0, (omega arith, at.1.1))
      | inr last ↦ (n, (omega arith, last))
    ]

at-most : (f : ℕ → Option Best) (n k : ℕ) (b : Best) → k < n → f k ≡ Some b → IsSomeAnd (best_below f n) (λ a. a.cost ≤ b.cost)
unfolding best_below
at-most f zero k b lt is = absurd (omega arith)
at-most f (suc n) k b lt is =
    elim (cases_eq k n) [
      | inl same ↦
          let P : Option Best → Type 0 = λ o. IsSomeAnd (better (best_below f n) o) (λ a. a.cost ≤ b.cost) in
          subst P (sym is ∙ ap f same) (second-most (best_below f n) b)
      | inr other ↦ first-most (best_below f n) (f n) b.cost (at-most f n k b (omega arith) is)
    ]

-- an earlier offer costs no more
record Beaten (left all : ℕ → Option Best) (layer : ℕ) : Type 0 where
  by : ℕ
  lower : by < layer
  best : Best
  is : left by ≡ Some best
  most : IfSome (all layer) (λ b. best.cost ≤ b.cost)

beaten : (x y : Option Best) (most : ℕ) → IsSomeAnd x (λ a. a.cost ≤ most) → IfSome y (λ b. most ≤ b.cost) → better x y ≡ x
beaten None y most low high = absurd low
beaten (Some a) None most low high = refl
beaten (Some a) (Some b) most low high = better-first a b (omega (arith, low, high))

-- offers that are left out where an earlier one costs no more
left-best : (left all : ℕ → Option Best) (n : ℕ) → ((m : ℕ) → m < n → (left m ≡ all m) ⊎ ((left m ≡ None) × Beaten left all m)) → best_below left n ≡ best_below all n
unfolding best_below
left-best left all zero each = refl
left-best left all (suc n) each =
    let rest = left-best left all n (λ m lt. each m (omega arith)) in
    elim (each n (omega arith)) [
      | inl same ↦ ap (λ (o : Option Best). better o (left n)) rest ∙ ap (λ (o : Option Best). better (best_below all n) o) same
      | inr out ↦
          let by = out.1 in
          ap (λ (o : Option Best). better (best_below left n) o) out.0 ∙ better-none (best_below left n) ∙
          sym (beaten (best_below left n) (all n) by.best.cost (at-most left n by.by by.best by.lower by.is) by.most) ∙
          ap (λ (o : Option Best). better o (all n)) rest
    ]

-- a climb by way of a third layer is no shorter
climb-by : (a k m : ℕ) → climb (widened (widened None a) k) ≤ climb (widened (widened None m) k) + climb (widened (widened None a) m)
climb-by a k m = omega arith

some-and : (o : Option Best) (P : Best → Type 0) → IsSomeAnd o P → (b : Best) × ((o ≡ Some b) × P b)
some-and None P is = absurd is
some-and (Some b) P is = (b, (refl, is))

abbrev cost_in : Option Best → ℕ
cost_in o = unwrap_or (option_map (λ (b : Best). b.cost) o) 0

mapped : (o : Option ℕ) (k x : ℕ) (b : Best) → option_map (λ (limb : ℕ). at_cost k (limb + x)) o ≡ Some b → (c : ℕ) × ((o ≡ Some c) × (c + x ≡ b.cost))
mapped None k x b is = absurd (no_best is)
  where
    no_best : None ≡ Some b → ⊥
    no_best e = cc
mapped (Some c) k x b is = (c, (refl, ap (λ (o : Option Best). cost_in o) is))

-- what an offer costs at least
offer-least : (o : Option ℕ) (m x least most : ℕ) → IfSome o (λ c. least ≤ c) → most ≤ least + x → IfSome (option_map (λ (limb : ℕ). at_cost m (limb + x)) o) (λ b. most ≤ b.cost)
offer-least None m x least most low le = tt
offer-least (Some c) m x least most low le = omega (arith, low, le)

-- from each layer a lower layer's limb costs no more than one that is left out
left-beaten : (all left : ℕ → Option ℕ) (layer m : ℕ) → IsSomeAnd (a_climb_more (best_up_to left m)) (λ b. IfSome (all m) (λ c. b.cost ≤ c)) →
    Beaten (offer_from left layer) (offer_from all layer) m
unfolding best_up_to
left-beaten all left layer zero more = absurd more
left-beaten all left layer (suc j) more =
    let m = j + 1 in
    let P : Option Best → Type 0 = λ o. IsSomeAnd o (λ b. IfSome (all m) (λ c. b.cost ≤ c)) in
    let Q : ℕ → Type 0 = λ n. IsSomeAnd (a_climb_more (best_up_to left n)) (λ b. IfSome (all n) (λ c. b.cost ≤ c)) in
    let more_m : Q m = subst Q (sym (add-one j)) more in
    let is_best : a_climb_more (best_up_to left m) ≡ best_below (offer_from left m) m =
    ap (λ (o : Option Best). a_climb_more o) (up_to-below left j) ∙
    sym (below-climbed (offer_from left m) (offer_from left j) m (λ k lt. from-below left j k (omega arith))) in
    let found = some-and (best_below (offer_from left m) m) (λ b. IfSome (all m) (λ c. b.cost ≤ c)) (subst P is_best more_m) in
    let at = attained (offer_from left m) m found.0 found.1.0 in
    let k = at.0 in
    let limb = mapped (left k) k (climb (widened (widened None m) k)) found.0 at.1.1 in
    let near = climb (widened (widened None layer) k) in
    let by = climb-by layer k m in
    let make : ℕ → Type 0 = λ n. Beaten (offer_from left layer) (offer_from all layer) n in
    let sum = limb.1.1 in
    let make_offer : Option ℕ → Option Best = λ o. option_map (λ (c : ℕ). at_cost k (c + near)) o in
    subst make (add-one j)
    (record {
      by = k;
      lower = at.1.0;
      best = at_cost k (limb.0 + near);
      is = ap make_offer limb.1.0;
      most = offer-least (all m) m (climb (widened (widened None layer) m)) found.0.cost (limb.0 + near) found.1.1 (omega (arith, by, sum));
    })

-- the best of the limbs that are left is the best of all, from each layer
pub thin-best : (all left : ℕ → Option ℕ) (layer layers : ℕ) → Thins layers all left → best_below (offer_from left layer) layers ≡ best_below (offer_from all layer) layers
thin-best all left layer layers thins =
    left-best (offer_from left layer) (offer_from all layer) layers
    (λ m lt. elim (thins m lt) [
      | inl same ↦ inl (ap (λ (o : Option ℕ). option_map (λ (limb : ℕ). at_cost m (limb + climb (widened (widened None layer) m))) o) same)
      | inr out ↦ inr (
        ap (λ (o : Option ℕ). option_map (λ (limb : ℕ). at_cost m (limb + climb (widened (widened None layer) m))) o) out.0,
        left-beaten all left layer m out.1,
      )
    ])

-- the costs on the layers below a number, but those that are left out, and the best of them
pub record Thinning (costs : ℕ → Option ℕ) (thin : List (Option ℕ)) (n : ℕ) (best : Option Best) : Type 0 where
  pub count : length thin ≡ 16
  pub is_best : best ≡ best_up_to (number_in thin) n
  pub thins : Thins n costs (number_in thin)
  pub most : (layer : ℕ) → layer < n → IfSome (number_in thin layer) (λ cost. cost ≤ 1125899907891200)

number-same : (thin : List (Option ℕ)) (n : ℕ) (v : Option ℕ) → n < length thin → number_in (set thin n v) n ≡ v
number-same thin n v lt = ap (λ (o : Option (Option ℕ)). option_and_then (λ (p : Option ℕ). p) o) (get-set_same thin n v lt)

number-other : (thin : List (Option ℕ)) (n k : ℕ) (v : Option ℕ) → k ≢ n → number_in (set thin n v) k ≡ number_in thin k
number-other thin n k v apart = ap (λ (o : Option (Option ℕ)). option_and_then (λ (p : Option ℕ). p) o) (get-set_other thin n k v apart)

up_to-set : (thin : List (Option ℕ)) (n m : ℕ) (v : Option ℕ) → m ≤ n → best_up_to (number_in (set thin n v)) m ≡ best_up_to (number_in thin) m
up_to-set thin n m v le = up_to-same (number_in (set thin n v)) (number_in thin) m (λ k lt. number-other thin n k v (λ e. omega arith))

pub thinning-none : (costs : ℕ → Option ℕ) (thin : List (Option ℕ)) → length thin ≡ 16 → Thinning costs thin 0 None
unfolding best_up_to
thinning-none costs thin count = record {
  count = count;
  is_best = refl;
  thins = λ layer lt. absurd (omega arith);
  most = λ layer lt. absurd (omega arith);
}

pub thinning-more : (costs : ℕ → Option ℕ) (thin : List (Option ℕ)) (n : ℕ) (v : Option ℕ) (best seen own next : Option Best) → n < 16 → Thinning costs thin n best →
    seen ≡ a_climb_more best → StandsUnless seen (costs n) v → IfSome v (λ cost. cost ≤ 1125899907891200) →
    own ≡ offer_on (number_in (set thin n v)) n → next ≡ better seen own → Thinning costs (set thin n v) (n + 1) next
thinning-more costs thin n v best seen own next few so_far climbs stands small own_is next_is =
    let inside : n < length thin = let e = so_far.count in omega arith in
    let here = number-same thin n v inside in
    let climbed : seen ≡ a_climb_more (best_up_to (number_in (set thin n v)) n) =
    climbs ∙ ap (λ (o : Option Best). a_climb_more o) (so_far.is_best ∙ sym (up_to-set thin n n v (omega arith))) in
    let P : Option Best → Type 0 = λ o. StandsUnless o (costs n) v in
    let Q : Option ℕ → Type 0 = λ o. StandsUnless (a_climb_more (best_up_to (number_in (set thin n v)) n)) (costs n) o in
    let last = subst Q (sym here) (subst P climbed stands) in
    record {
      count = length-set thin n v ∙ so_far.count;
      is_best =
          next_is ∙ ap (λ (o : Option Best). better o own) climbed ∙
          ap (λ (o : Option Best). better (a_climb_more (best_up_to (number_in (set thin n v)) n)) o) own_is ∙ sym (up_to-more (number_in (set thin n v)) n);
      thins = λ layer lt.
          elim (cases_eq layer n) [
            | inl same ↦ subst (λ (k : ℕ). StandsUnless (a_climb_more (best_up_to (number_in (set thin n v)) k)) (costs k) (number_in (set thin n v) k)) (sym same) last
            | inr other ↦
                let R : Option Best → Type 0 = λ o. StandsUnless (a_climb_more o) (costs layer) (number_in (set thin n v) layer) in
                let S : Option ℕ → Type 0 = λ o. StandsUnless (a_climb_more (best_up_to (number_in thin) layer)) (costs layer) o in
                subst R (sym (up_to-set thin n layer v (omega arith))) (subst S (sym (number-other thin n layer v other)) (so_far.thins layer (omega arith)))
          ];
      most = λ layer lt.
          let small_at : Option ℕ → Type 0 = λ o. IfSome o (λ cost. cost ≤ 1125899907891200) in
          elim (cases_eq layer n) [
            | inl same ↦ subst (λ (k : ℕ). small_at (number_in (set thin n v) k)) (sym same) (subst small_at (sym here) small)
            | inr other ↦ subst small_at (sym (number-other thin n layer v other)) (so_far.most layer (omega arith))
          ];
    }
