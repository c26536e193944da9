-- Walls by falling excess.
use Rattle.std.proofs.Common.{◌≡◌, Less, Equal, Greater, ℕ, nat_lt, inl, inr, Bool, List, sym, ap, ◌∙◌, arith}
use Rattle.std.specs.Cmp.{IsStrictWeakOrder, nat_cmp_is}
use Rattle.std.specs.List.Sorted.{IsSortedBy, IsStableBy}
use Rattle.std.specs.Ordering.{is_lt, nat_cmp}
use Rattle.std.proofs.lemmas.Bool.{cases_order, lt-ltb, le-ltb}
use Rattle.std.proofs.lemmas.List.MinMax.{IsStrictWeakOrder-by_number, IsStrictWeakOrder-flip}
use Rattle.cut_bounds.proofs.RankLemmas.{sorted-ranked, sorted-alike, stable-alike}
use Rattle.cut_bounds.specs.Measured.{ranked}
use Rattle.cut_bounds.specs.Taken.{excess_of, has_more}
use Rattle.cut_bounds.specs.declared.wall.MeasuredWall.{MeasuredWall}

has_more-order : IsStrictWeakOrder has_more
has_more-order = IsStrictWeakOrder-flip (λ x y. nat_lt (excess_of x) (excess_of y)) (IsStrictWeakOrder-by_number excess_of)

less-test : (a b : ℕ) → is_lt (nat_cmp a b) ≡ nat_lt a b
less-test a b =
    elim (cases_order a b) [
      | inl same ↦ ap is_lt (sym (nat_cmp_is a b Equal same)) ∙ sym (le-ltb a b (omega (arith, same)))
      | inr other ↦ elim other [
        | inl less ↦ ap is_lt (sym (nat_cmp_is a b Less less)) ∙ sym (lt-ltb a b less)
        | inr more ↦ ap is_lt (sym (nat_cmp_is a b Greater more)) ∙ sym (le-ltb a b (omega (arith, more)))
      ]
    ]

-- what a stable sort by falling excess leaves
pub excess-ranked : (xs ys : List MeasuredWall) → IsSortedBy (λ x y. is_lt (nat_cmp (excess_of y) (excess_of x))) ys →
    IsStableBy (λ x y. is_lt (nat_cmp (excess_of y) (excess_of x))) xs ys → ys ≡ ranked has_more xs
excess-ranked xs ys sorted stable =
    let lt : MeasuredWall → MeasuredWall → Bool = λ x y. is_lt (nat_cmp (excess_of y) (excess_of x)) in
    let same : (x y : MeasuredWall) → lt x y ≡ has_more x y = λ x y. less-test (excess_of y) (excess_of x) in
    sorted-ranked has_more has_more-order xs ys (sorted-alike lt has_more same ys sorted) (stable-alike lt has_more same xs ys stable)
