-- The neighbour that saves most, found by the lists of children.
use Rattle.std.proofs.Common.{◌≡◌, ℕ, zero, suc, ◌+◌, ◌<◌, ◌⊎◌, inl, inr, Bool, true, false, not, ◌&&◌, ◌||◌, ◌==◌, nat_lt, if◌then◌else◌, Option, Some, None, IfSome, List, [], ◌∷◌, length, filter, fold, refl, sym, ap, subst, ◌∙◌, arith}
use Rattle.std.specs.List.{range_with_len}
use Rattle.std.proofs.lemmas.Bool.{cases_Bool, cases_eq}
use Rattle.std.proofs.lemmas.Bool.Decides.{nat_tests}
use Rattle.std.proofs.lemmas.Map.Views.{any-filter_same}
use Rattle.gr_base.specs.Trees.{is_among}
use Rattle.steiner_topology.specs.declared.point.Point.{Point}
use Rattle.steiner_topology.specs.Topology.{parent_of, is_neighbour, neighbours, saving, better, best_neighbour}
use Rattle.steiner_topology.specs.Children.{is_child, without, list_at, AreChildren, is_better, preferred, best_of}
use Rattle.steiner_topology.proofs.Order.{by_same, asym_by, same_by, trans_by}

-- the laws of the comparison
better-back : (points : List Point) (j a b c : ℕ) → is_better points j a b ≡ false → is_better points j c a ≡ false → is_better points j c b ≡ false
better-back points j a b c ab ca =
    trans_by false (saving points j c) (saving points j a) (saving points j b) (nat_lt a c) (nat_lt b a) (nat_lt b c)
    (λ h k. grind (arith, nat_tests)) ca ab

better-asym : (points : List Point) (j a b : ℕ) → is_better points j a b ≡ true → is_better points j b a ≡ false
better-asym points j a b =
    asym_by (saving points j a) (saving points j b) (nat_lt b a) (nat_lt a b) (λ h. grind (arith, nat_tests))

better-self : (points : List Point) (j a : ℕ) → is_better points j a a ≡ false
better-self points j a =
    by_same (saving points j a) (saving points j a) (nat_lt a a) refl ∙ grind (arith, nat_tests)

better-same : (points : List Point) (j a b : ℕ) → is_better points j a b ≡ false → is_better points j b a ≡ false → a ≡ b
better-same points j a b ab ba =
    let same = same_by (saving points j a) (saving points j b) (nat_lt b a) (nat_lt a b) ab ba in
    let up = same.1 in
    let down = same.2 in
    grind (arith, nat_tests)

-- the best of the numbers of which something holds, if there is one
abbrev pub IsBest : List Point → ℕ → (ℕ → Type 0) → Option ℕ → Type 0
IsBest points j P None = (v : ℕ) → P v → ⊥
IsBest points j P (Some q) = P q × ((v : ℕ) → P v → is_better points j q v ≡ false)

pub best-unique : (points : List Point) (j : ℕ) (P : ℕ → Type 0) (a b : Option ℕ) → IsBest points j P a → IsBest points j P b → a ≡ b
best-unique points j P None None a_is b_is = refl
best-unique points j P None (Some r) a_is b_is = absurd (a_is r b_is.0)
best-unique points j P (Some q) None a_is b_is = absurd (b_is q a_is.0)
best-unique points j P (Some q) (Some r) a_is b_is = ap Some (better-same points j q r (a_is.1 r b_is.0) (b_is.1 q a_is.0))

pub best-alike : (points : List Point) (j : ℕ) (P Q : ℕ → Type 0) (a : Option ℕ) → ((v : ℕ) → P v → Q v) → ((v : ℕ) → Q v → P v) →
    IsBest points j P a → IsBest points j Q a
best-alike points j P Q None there back is = λ v holds_v. is v (back v holds_v)
best-alike points j P Q (Some q) there back is = (there q is.0, λ v holds_v. is.1 v (back v holds_v))

-- the better one of the best so far and one number more
pub best-step : (points : List Point) (j : ℕ) (P : ℕ → Type 0) (a : Option ℕ) (q : ℕ) → IsBest points j P a →
    IsBest points j (λ v. P v ⊎ (v ≡ q)) (preferred points j a q)
best-step points j P None q is = (
  inr refl,
  λ v now. elim now [
    | inl was ↦ absurd (is v was)
    | inr same ↦ ap (is_better points j q) same ∙ better-self points j q
  ],
)
best-step points j P (Some kept) q is = elim (cases_Bool (is_better points j kept q)) [
  | inl more ↦
      let e : preferred points j (Some kept) q ≡ Some q = rw more refl in
      let Q : Option ℕ → Type 0 = λ o. IsBest points j (λ v. P v ⊎ (v ≡ q)) o in
      subst Q (sym e) (
        inr refl,
        λ v now. elim now [
          | inl was ↦ better-back points j kept v q (is.1 v was) (better-asym points j kept q more)
          | inr same ↦ ap (is_better points j q) same ∙ better-self points j q
        ],
      )
  | inr less ↦
      let e : preferred points j (Some kept) q ≡ Some kept = rw less refl in
      let Q : Option ℕ → Type 0 = λ o. IsBest points j (λ v. P v ⊎ (v ≡ q)) o in
      subst Q (sym e) (
        inl is.0,
        λ v now. elim now [
          | inl was ↦ is.1 v was
          | inr same ↦ ap (is_better points j kept) same ∙ less
        ],
      )
]

is_among-cons : (x v : ℕ) (xs : List ℕ) → is_among (x ∷ xs) v ≡ true → (v ≡ x) ⊎ (is_among xs v ≡ true)
is_among-cons x v xs is = elim (cases_eq v x) [ inl same ↦ inl same | inr other ↦ inr (grind (arith, nat_tests)) ]

best-fold : (points : List Point) (j : ℕ) (xs : List ℕ) (P : ℕ → Type 0) (a : Option ℕ) → IsBest points j P a →
    IsBest points j (λ v. P v ⊎ (is_among xs v ≡ true)) (fold (preferred points j) a xs)
best-fold points j [] P a is =
    best-alike points j P (λ v. P v ⊎ (false ≡ true)) a (λ v has. inl has) (λ v now. elim now [ inl was ↦ was | inr never ↦ grind arith ]) is
best-fold points j (x ∷ xs) P a is =
    best-alike points j (λ v. (P v ⊎ (v ≡ x)) ⊎ (is_among xs v ≡ true)) (λ v. P v ⊎ (is_among (x ∷ xs) v ≡ true))
    (fold (preferred points j) (preferred points j a x) xs)
    (λ v now. elim now [
      | inl head ↦ elim head [ inl was ↦ inl was | inr same ↦ inr (grind (arith, nat_tests)) ]
      | inr tail ↦ inr (grind (arith, nat_tests))
    ])
    (λ v now. elim now [
      | inl was ↦ inl (inl was)
      | inr listed ↦ elim (is_among-cons x v xs listed) [ inl same ↦ inl (inr same) | inr tail ↦ inr tail ]
    ])
    (best-fold points j xs (λ v. P v ⊎ (v ≡ x)) (preferred points j a x) (best-step points j P a x is))

-- the best of a list
pub best_of-best : (points : List Point) (j : ℕ) (xs : List ℕ) → IsBest points j (λ v. is_among xs v ≡ true) (best_of points j xs)
best_of-best points j xs =
    best-alike points j (λ v. ⊥ ⊎ (is_among xs v ≡ true)) (λ v. is_among xs v ≡ true) (best_of points j xs)
    (λ v now. elim now [ inl never ↦ absurd never | inr listed ↦ listed ]) (λ v listed. inr listed)
    (best-fold points j xs (λ v. ⊥) None (λ v never. never))

-- among rising numbers a later one that saves the same is not preferred
preferred-later : (points : List Point) (j : ℕ) (a : Option ℕ) (q : ℕ) → IfSome a (λ k. k < q) → better points j a q ≡ preferred points j a q
preferred-later points j None q before = refl
preferred-later points j (Some kept) q before =
    ap (λ (more : Bool). if more then Some q else Some kept) (grind (arith, nat_tests))

kept-below : (points : List Point) (j : ℕ) (a : Option ℕ) (q : ℕ) → IfSome a (λ k. k < q + 1) → IfSome (preferred points j a q) (λ k. k < q + 1)
kept-below points j None q before = omega arith
kept-below points j (Some kept) q before =
    let Q : Option ℕ → Type 0 = λ o. IfSome o (λ k. k < q + 1) in
    elim (cases_Bool (is_better points j kept q)) [
      | inl more ↦ let e : preferred points j (Some kept) q ≡ Some q = rw more refl in subst Q (sym e) (omega arith)
      | inr less ↦ let e : preferred points j (Some kept) q ≡ Some kept = rw less refl in subst Q (sym e) before
    ]

wider : (a : Option ℕ) (q : ℕ) → IfSome a (λ k. k < q) → IfSome a (λ k. k < q + 1)
wider None q before = tt
wider (Some k) q before = omega arith

fold-rising : (points : List Point) (j : ℕ) (p : ℕ → Bool) (n b : ℕ) (a : Option ℕ) → IfSome a (λ k. k < b) →
    fold (better points j) a (filter p (range_with_len b n)) ≡ fold (preferred points j) a (filter p (range_with_len b n))
fold-rising points j p zero b a before = refl
fold-rising points j p (suc n) b a before = elim (cases_Bool (p b)) [
  | inl passes ↦
      let rest = filter p (range_with_len (b + 1) n) in
      let all : filter p (range_with_len b (suc n)) ≡ b ∷ rest = rw passes refl in
      ap (fold (better points j) a) all ∙
      ap (λ (o : Option ℕ). fold (better points j) o rest) (preferred-later points j a b before) ∙
      fold-rising points j p n (b + 1) (preferred points j a b) (kept-below points j a b (wider a b before)) ∙
      sym (ap (fold (preferred points j) a) all)
  | inr fails ↦
      let rest = filter p (range_with_len (b + 1) n) in
      let all : filter p (range_with_len b (suc n)) ≡ rest = rw fails refl in
      ap (fold (better points j) a) all ∙ fold-rising points j p n (b + 1) a (wider a b before) ∙ sym (ap (fold (preferred points j) a) all)
]

is_among-range : (n b v : ℕ) → is_among (range_with_len b n) v ≡ (not (nat_lt v b) && nat_lt v (b + n))
is_among-range zero b v = grind (arith, nat_tests)
is_among-range (suc n) b v = let rest = is_among-range n (b + 1) v in grind (arith, nat_tests)

is_among-neighbours : (points : List Point) (j v : ℕ) → is_among (neighbours points j) v ≡ (is_neighbour points j v && nat_lt v (length points))
is_among-neighbours points j v =
    let test : ℕ → Bool = is_neighbour points j in
    let range = is_among-range (length points) 0 v in
    any-filter_same (λ x. x == v) test (test v) (λ x is. let same : x ≡ v = grind (arith, nat_tests) in ap test same) (range_with_len 0 (length points)) ∙
    ap (λ (b : Bool). test v && b) (range ∙ grind (arith, nat_tests))

-- the definition's choice is the best of the neighbours
pub best_neighbour-best : (points : List Point) (j : ℕ) →
    IsBest points j (λ v. (is_neighbour points j v && nat_lt v (length points)) ≡ true) (best_neighbour points j)
best_neighbour-best points j =
    let Q : Option ℕ → Type 0 = λ o. IsBest points j (λ v. is_among (neighbours points j) v ≡ true) o in
    best-alike points j (λ v. is_among (neighbours points j) v ≡ true) (λ v. (is_neighbour points j v && nat_lt v (length points)) ≡ true) (best_neighbour points j)
    (λ v listed. sym (is_among-neighbours points j v) ∙ listed) (λ v is. is_among-neighbours points j v ∙ is)
    (subst Q (sym (fold-rising points j (is_neighbour points j) (length points) 0 None tt)) (best_of-best points j (neighbours points j)))

first_holds : (a b : Bool) → (a && b) ≡ true → a ≡ true
first_holds true b is = refl
first_holds false b is = is

pub best_neighbour-is : (points : List Point) (j q : ℕ) → Some q ≡ best_neighbour points j → is_neighbour points j q ≡ true
best_neighbour-is points j q is =
    let Q : Option ℕ → Type 0 = λ o. IsBest points j (λ v. (is_neighbour points j v && nat_lt v (length points)) ≡ true) o in
    let found = subst Q (sym is) (best_neighbour-best points j) in
    first_holds (is_neighbour points j q) (nat_lt q (length points)) found.0

-- where a number is listed after one is left out
pub is_among-without : (list : List ℕ) (x v : ℕ) → is_among (without x list) v ≡ (not (v == x) && is_among list v)
is_among-without list x v =
    any-filter_same (λ y. y == v) (λ y. not (y == x)) (not (v == x))
    (λ y is. let same : y ≡ v = grind (arith, nat_tests) in ap (λ (n : ℕ). not (n == x)) same) list

is_among-siblings : (points : List Point) (lists : List (List ℕ)) (i j v : ℕ) → AreChildren points lists → i < length points →
    is_among (without j (list_at lists i)) v ≡ (not (v == j) && is_child points i v)
is_among-siblings points lists i j v are below =
    is_among-without (list_at lists i) j v ∙ ap (λ (b : Bool). not (v == j) && b) (are.listed i v below)

-- a neighbour is a child, unless it is the parent
alone : (n i j above back v : ℕ) → (above ≡ i) ⊎ (above ≡ j) →
    (not (v == j) && (nat_lt v n && (not (v == i) && back == i))) ≡ ((not (v == j) && (not (i == v) && (above == v || back == i))) && nat_lt v n)
alone n i j above back v either = elim either [ inl own ↦ grind (arith, nat_tests) | inr own ↦ grind (arith, nat_tests) ]

pub best-alone : (points : List Point) (lists : List (List ℕ)) (j : ℕ) → AreChildren points lists → parent_of points j < length points →
    (parent_of points (parent_of points j) ≡ parent_of points j) ⊎ (parent_of points (parent_of points j) ≡ j) →
    best_of points j (without j (list_at lists (parent_of points j))) ≡ best_neighbour points j
best-alone points lists j are below either =
    let i = parent_of points j in
    let n = length points in
    let list = without j (list_at lists i) in
    let P : ℕ → Type 0 = λ v. (is_neighbour points j v && nat_lt v n) ≡ true in
    let same : (v : ℕ) → is_among list v ≡ (is_neighbour points j v && nat_lt v n) =
    λ v. is_among-siblings points lists i j v are below ∙ alone n i j (parent_of points i) (parent_of points v) v either in
    best-unique points j P (best_of points j list) (best_neighbour points j)
    (best-alike points j (λ v. is_among list v ≡ true) P (best_of points j list) (λ v listed. sym (same v) ∙ listed) (λ v is. same v ∙ is) (best_of-best points j list))
    (best_neighbour-best points j)

with_above : (n i j above back v : ℕ) → (above ≡ i → ⊥) → (above ≡ j → ⊥) → above < n →
    ((not (v == j) && (nat_lt v n && (not (v == i) && back == i))) ≡ true) ⊎ (v ≡ above) →
    ((not (v == j) && (not (i == v) && (above == v || back == i))) && nat_lt v n) ≡ true
with_above n i j above back v not_i not_j inside either = elim either [ inl child ↦ grind (arith, nat_tests) | inr is ↦ grind (arith, nat_tests) ]

with_above-back : (n i j above back v : ℕ) → ((not (v == j) && (not (i == v) && (above == v || back == i))) && nat_lt v n) ≡ true →
    ((not (v == j) && (nat_lt v n && (not (v == i) && back == i))) ≡ true) ⊎ (v ≡ above)
with_above-back n i j above back v is = elim (cases_eq v above) [ inl same ↦ inr same | inr other ↦ inl (grind (arith, nat_tests)) ]

pub best-with_above : (points : List Point) (lists : List (List ℕ)) (j : ℕ) → AreChildren points lists → parent_of points j < length points →
    parent_of points (parent_of points j) < length points →
    (parent_of points (parent_of points j) ≡ parent_of points j → ⊥) → (parent_of points (parent_of points j) ≡ j → ⊥) →
    preferred points j (best_of points j (without j (list_at lists (parent_of points j)))) (parent_of points (parent_of points j)) ≡ best_neighbour points j
best-with_above points lists j are below inside not_i not_j =
    let i = parent_of points j in
    let above = parent_of points i in
    let n = length points in
    let list = without j (list_at lists i) in
    let best = best_of points j list in
    let P : ℕ → Type 0 = λ v. (is_neighbour points j v && nat_lt v n) ≡ true in
    let L : ℕ → Type 0 = λ v. is_among list v ≡ true in
    let C : ℕ → Type 0 = λ v. (not (v == j) && is_child points i v) ≡ true in
    let same : (v : ℕ) → is_among list v ≡ (not (v == j) && is_child points i v) = λ v. is_among-siblings points lists i j v are below in
    let children : IsBest points j C best =
    best-alike points j L C best (λ v listed. sym (same v) ∙ listed) (λ v is. same v ∙ is) (best_of-best points j list) in
    best-unique points j P (preferred points j best above) (best_neighbour points j)
    (best-alike points j (λ v. C v ⊎ (v ≡ above)) P (preferred points j best above)
    (λ v. with_above n i j above (parent_of points v) v not_i not_j inside)
    (λ v. with_above-back n i j above (parent_of points v) v)
    (best-step points j C best above children))
    (best_neighbour-best points j)

-- what the search for the best neighbour found
pub best-found : (points slice : List Point) (j q : ℕ) (o : Option ℕ) → o ≡ Some q → o ≡ best_neighbour slice j → slice ≡ points →
    Some q ≡ best_neighbour points j
best-found points slice j q o found best same = sym found ∙ best ∙ ap (λ (xs : List Point). best_neighbour xs j) same
