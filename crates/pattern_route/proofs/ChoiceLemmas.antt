-- The first least of walks that are compared in turn.
use Rattle.std.proofs.Common.{◌≡◌, ℕ, ◌<◌, ◌≤◌, inl, inr, List, [], ◌∷◌, ◌++◌, true, false, nat_lt, refl, sym, ap, subst, ◌∙◌, arith, All}
use Rattle.std.proofs.lemmas.Bool.{cases_lt}
use Rattle.std.proofs.lemmas.Bool.Decides.{nat_tests}
use Rattle.std.proofs.lemmas.List.Elements.{All-nil, All-cons, All-head, All-tail, All-append, All-weaker}
use Rattle.pattern_route.specs.Walks.{cheaper, least_of, first_least, IsFirstLeast}

pub cheaper-second : (cost : List ℕ → ℕ) (a b : List ℕ) → cost b < cost a → cheaper cost a b ≡ b
cheaper-second cost a b less = let test : nat_lt (cost b) (cost a) ≡ true = grind (arith, nat_tests) in rw test refl

pub cheaper-first : (cost : List ℕ → ℕ) (a b : List ℕ) → cost a ≤ cost b → cheaper cost a b ≡ a
cheaper-first cost a b most = let test : nat_lt (cost b) (cost a) ≡ false = grind (arith, nat_tests) in rw test refl

-- it doesn't matter which two of three walks are compared first
cheaper-assoc : (cost : List ℕ → ℕ) (a b c : List ℕ) →
    cheaper cost (cheaper cost a b) c ≡ cheaper cost a (cheaper cost b c)
cheaper-assoc cost a b c =
    elim (cases_lt (cost b) (cost a)) [
      | inl second ↦ elim (cases_lt (cost c) (cost b)) [
        | inl third ↦
            ap (λ w. cheaper cost w c) (cheaper-second cost a b second) ∙ cheaper-second cost b c third ∙
            sym (cheaper-second cost a c (omega (arith, second, third))) ∙
            ap (λ w. cheaper cost a w) (sym (cheaper-second cost b c third))
        | inr stays ↦
            ap (λ w. cheaper cost w c) (cheaper-second cost a b second) ∙ cheaper-first cost b c stays ∙
            sym (cheaper-second cost a b second) ∙
            ap (λ w. cheaper cost a w) (sym (cheaper-first cost b c stays))
      ]
      | inr first ↦ elim (cases_lt (cost c) (cost b)) [
        | inl third ↦
            ap (λ w. cheaper cost w c) (cheaper-first cost a b first) ∙
            ap (λ w. cheaper cost a w) (sym (cheaper-second cost b c third))
        | inr stays ↦
            ap (λ w. cheaper cost w c) (cheaper-first cost a b first) ∙
            cheaper-first cost a c (omega (arith, first, stays)) ∙
            sym (cheaper-first cost a b first) ∙
            ap (λ w. cheaper cost a w) (sym (cheaper-first cost b c stays))
      ]
    ]

pub least_of-cons : (cost : List ℕ → ℕ) (a b : List ℕ) (rest : List (List ℕ)) →
    least_of cost a (b ∷ rest) ≡ cheaper cost a (least_of cost b rest)
least_of-cons cost a b [] = refl
least_of-cons cost a b (c ∷ rest) =
    least_of-cons cost (cheaper cost a b) c rest ∙ cheaper-assoc cost a b (least_of cost c rest) ∙
    ap (λ w. cheaper cost a w) (sym (least_of-cons cost b c rest))

pub least_of-append : (cost : List ℕ → ℕ) (a : List ℕ) (xs ys : List (List ℕ)) →
    least_of cost a (xs ++ ys) ≡ least_of cost (least_of cost a xs) ys
least_of-append cost a [] ys = refl
least_of-append cost a (x ∷ xs) ys = least_of-append cost (cheaper cost a x) xs ys

-- a walk stays the first least one before others that cost no less
pub least_of-kept : (cost : List ℕ → ℕ) (a : List ℕ) (rest : List (List ℕ)) → All (λ w. cost a ≤ cost w) rest → least_of cost a rest ≡ a
least_of-kept cost a [] all = refl
least_of-kept cost a (b ∷ rest) all =
    let P : List ℕ → Type 0 = λ w. cost a ≤ cost w in
    ap (λ w. least_of cost w rest) (cheaper-first cost a b (All-head P b rest all)) ∙ least_of-kept cost a rest (All-tail P b rest all)

first-of-one : (cost : List ℕ → ℕ) (a : List ℕ) → IsFirstLeast cost (a ∷ []) a
first-of-one cost a = record {
  before = [];
  after = [];
  split = refl;
  dearer = All-nil (λ w. cost a < cost w);
  least = All-nil (λ w. cost a ≤ cost w);
}

-- a walk before others is the first least one unless theirs costs less
first-of-more : (cost : List ℕ → ℕ) (a : List ℕ) (walks : List (List ℕ)) (walk : List ℕ) →
    IsFirstLeast cost walks walk → IsFirstLeast cost (a ∷ walks) (cheaper cost a walk)
first-of-more cost a walks walk first =
    let P : List ℕ → Type 0 = λ w. IsFirstLeast cost (a ∷ walks) w in
    elim (cases_lt (cost walk) (cost a)) [
      | inl less ↦ subst P (sym (cheaper-second cost a walk less)) (record {
        before = a ∷ first.before;
        after = first.after;
        split = ap (λ ws. a ∷ ws) first.split;
        dearer = All-cons (λ w. cost walk < cost w) a first.before less first.dearer;
        least = first.least;
      })
      | inr most ↦
          let all : All (λ w. cost a ≤ cost w) (first.before ++ walk ∷ first.after) =
          All-append (λ w. cost a ≤ cost w) first.before (walk ∷ first.after)
          (All-weaker (λ w. cost walk < cost w) (λ w. cost a ≤ cost w) (λ w less. omega (arith, most, less)) first.before first.dearer)
          (All-cons (λ w. cost a ≤ cost w) walk first.after most
          (All-weaker (λ w. cost walk ≤ cost w) (λ w. cost a ≤ cost w) (λ w least. omega (arith, most, least)) first.after first.least)) in
          let Q : List (List ℕ) → Type 0 = λ ws. All (λ w. cost a ≤ cost w) ws in
          subst P (sym (cheaper-first cost a walk most)) (record {
            before = [];
            after = walks;
            split = refl;
            dearer = All-nil (λ w. cost a < cost w);
            least = subst Q (sym first.split) all;
          })
    ]

pub first_least-first : (cost : List ℕ → ℕ) (a : List ℕ) (rest : List (List ℕ)) →
    IsFirstLeast cost (a ∷ rest) (first_least cost (a ∷ rest))
first_least-first cost a [] = first-of-one cost a
first_least-first cost a (b ∷ rest) =
    let P : List ℕ → Type 0 = λ w. IsFirstLeast cost (a ∷ b ∷ rest) w in
    subst P (sym (least_of-cons cost a b rest)) (first-of-more cost a (b ∷ rest) (least_of cost b rest) (first_least-first cost b rest))
