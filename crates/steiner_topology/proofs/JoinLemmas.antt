-- The nearest pair of each point tells the next join.
use Rattle.std.proofs.Common.{◌≡◌, ℕ, zero, suc, ◌+◌, ◌-◌, ◌<◌, ◌≤◌, inl, inr, Bool, true, false, cond, ◌||◌, ◌==◌, Option, Some, None, IfSome, List, [], ◌∷◌, ◌++◌, length, map, filter, flat_map, get_or, set, count_by, All, is_some, refl, sym, ap, subst, ◌∙◌, arith}
use Rattle.std.specs.List.{list_any, range_with_len}
use Rattle.std.proofs.lemmas.Bool.{cases_eq, cases_Bool}
use Rattle.std.proofs.lemmas.Bool.Decides.{nat_tests}
use Rattle.std.proofs.lemmas.List.{length_push, length-set, length-map, get_or-map, get_or-set_same, get_or-set_other}
use Rattle.std.proofs.lemmas.List.FromFn.{fill_by_all, length-map-range_with_len, get_or-map-range_with_len}
use Rattle.std.proofs.lemmas.List.Sums.{sum_by-cons, sum_by-set, get_or-le-sum_by}
use Rattle.std.proofs.lemmas.List.Elements.{All-nil, All-push}
use Rattle.steiner_topology.specs.declared.point.Join.{Join}
use Rattle.steiner_topology.specs.Tile.{Tile}
use Rattle.steiner_topology.specs.Joins.{pair, numbers, span, is_before, sooner, soonest, is_joined, pairs_of, open_pairs, with_join, joins_after, joins_of, AreInside, nearest_pairs, offered}
use Rattle.steiner_topology.proofs.Order.{sooner-first, sooner-kept, sooner-comm, sooner-self, sooner_assoc, before-span}

pub soonest-append : (tiles : List Tile) (xs ys : List Join) →
    soonest tiles (xs ++ ys) ≡ sooner tiles (soonest tiles xs) (soonest tiles ys)
soonest-append tiles [] ys = refl
soonest-append tiles (p ∷ xs) ys =
    ap (sooner tiles (Some p)) (soonest-append tiles xs ys) ∙
    sym (sooner_assoc tiles (Some p) (soonest tiles xs) (soonest tiles ys))

-- what has been taken in already changes nothing when it comes again
again : (tiles : List Tile) (u a : Option Join) → sooner tiles (sooner tiles u a) u ≡ sooner tiles u a
again tiles u a =
    sooner-comm tiles (sooner tiles u a) u ∙
    sym (sooner_assoc tiles u u a) ∙
    ap (λ (x : Option Join). sooner tiles x a) (sooner-self tiles u)

-- the first pair of a point with those points that pass a test
abbrev first_with : List Tile → ℕ → (ℕ → Bool) → List ℕ → Option Join
first_with tiles j p vs = soonest tiles (map (λ i. pair j i) (filter p vs))

first_with-yes : (tiles : List Tile) (j : ℕ) (p : ℕ → Bool) (v : ℕ) (vs : List ℕ) → p v ≡ true →
    first_with tiles j p (v ∷ vs) ≡ sooner tiles (Some (pair j v)) (first_with tiles j p vs)
first_with-yes tiles j p v vs passes = rw passes refl

first_with-no : (tiles : List Tile) (j : ℕ) (p : ℕ → Bool) (v : ℕ) (vs : List ℕ) → p v ≡ false →
    first_with tiles j p (v ∷ vs) ≡ first_with tiles j p vs
first_with-no tiles j p v vs fails = rw fails refl

-- with the pair of x taken in, it is the same whether x passes the test
with_one : (tiles : List Tile) (j x : ℕ) (p q : ℕ → Bool) → q x ≡ true → ((v : ℕ) → (v ≡ x → ⊥) → q v ≡ p v) → (vs : List ℕ) →
    sooner tiles (first_with tiles j q vs) (Some (pair j x)) ≡ sooner tiles (first_with tiles j p vs) (Some (pair j x))
with_one tiles j x p q passes agree [] = refl
with_one tiles j x p q passes agree (v ∷ vs) =
    let u : Option Join = Some (pair j x) in
    let a = first_with tiles j p vs in
    let b = first_with tiles j q vs in
    let rest = with_one tiles j x p q passes agree vs in
    elim (cases_eq v x) [
      | inl is ↦
          let head : first_with tiles j q (v ∷ vs) ≡ sooner tiles u b =
          first_with-yes tiles j q v vs (ap q is ∙ passes) ∙ ap (λ (n : ℕ). sooner tiles (Some (pair j n)) b) is in
          let left : sooner tiles (first_with tiles j q (v ∷ vs)) u ≡ sooner tiles a u =
          ap (λ (o : Option Join). sooner tiles o u) head ∙ again tiles u b ∙ sooner-comm tiles u b ∙ rest in
          elim (cases_Bool (p v)) [
            | inl too ↦
                let tail : first_with tiles j p (v ∷ vs) ≡ sooner tiles u a =
                first_with-yes tiles j p v vs too ∙ ap (λ (n : ℕ). sooner tiles (Some (pair j n)) a) is in
                left ∙ sym (ap (λ (o : Option Join). sooner tiles o u) tail ∙ again tiles u a ∙ sooner-comm tiles u a)
            | inr fails ↦ left ∙ sym (ap (λ (o : Option Join). sooner tiles o u) (first_with-no tiles j p v vs fails))
          ]
      | inr other ↦ elim (cases_Bool (p v)) [
        | inl too ↦
            let w : Option Join = Some (pair j v) in
            ap (λ (o : Option Join). sooner tiles o u) (first_with-yes tiles j q v vs (agree v other ∙ too)) ∙
            sooner_assoc tiles w b u ∙ ap (sooner tiles w) rest ∙ sym (sooner_assoc tiles w a u) ∙
            sym (ap (λ (o : Option Join). sooner tiles o u) (first_with-yes tiles j p v vs too))
        | inr fails ↦
            ap (λ (o : Option Join). sooner tiles o u) (first_with-no tiles j q v vs (agree v other ∙ fails)) ∙
            rest ∙ sym (ap (λ (o : Option Join). sooner tiles o u) (first_with-no tiles j p v vs fails))
      ]
    ]

-- a point that passes the test has been taken in
taken_in : (tiles : List Tile) (j x : ℕ) (q : ℕ → Bool) → q x ≡ true → (n a : ℕ) → a ≤ x → x < a + n →
    sooner tiles (first_with tiles j q (range_with_len a n)) (Some (pair j x)) ≡ first_with tiles j q (range_with_len a n)
taken_in tiles j x q passes zero a low high = absurd (omega arith)
taken_in tiles j x q passes (suc n) a low high =
    let u : Option Join = Some (pair j x) in
    let vs = range_with_len (a + 1) n in
    elim (cases_eq a x) [
      | inl is ↦
          let head : first_with tiles j q (a ∷ vs) ≡ sooner tiles u (first_with tiles j q vs) =
          first_with-yes tiles j q a vs (ap q is ∙ passes) ∙ ap (λ (n : ℕ). sooner tiles (Some (pair j n)) (first_with tiles j q vs)) is in
          ap (λ (o : Option Join). sooner tiles o u) head ∙ again tiles u (first_with tiles j q vs) ∙ sym head
      | inr other ↦
          let rest = taken_in tiles j x q passes n (a + 1) (omega arith) (omega arith) in
          elim (cases_Bool (q a)) [
            | inl too ↦
                let head = first_with-yes tiles j q a vs too in
                ap (λ (o : Option Join). sooner tiles o u) head ∙
                sooner_assoc tiles (Some (pair j a)) (first_with tiles j q vs) u ∙
                ap (sooner tiles (Some (pair j a))) rest ∙ sym head
            | inr fails ↦
                let head = first_with-no tiles j q a vs fails in
                ap (λ (o : Option Join). sooner tiles o u) head ∙ rest ∙ sym head
          ]
    ]

-- one more point that passes
first_with-more : (tiles : List Tile) (j x : ℕ) (p q : ℕ → Bool) → q x ≡ true → ((v : ℕ) → (v ≡ x → ⊥) → q v ≡ p v) → x < length tiles →
    first_with tiles j q (numbers tiles) ≡ sooner tiles (first_with tiles j p (numbers tiles)) (Some (pair j x))
first_with-more tiles j x p q passes agree inside =
    sym (taken_in tiles j x q passes (length tiles) 0 (omega arith) (omega arith)) ∙
    with_one tiles j x p q passes agree (numbers tiles)

-- the first pair of a point with one point or more is one of its pairs
first_with-some : (tiles : List Tile) (j x : ℕ) (vs : List ℕ) →
    (i : ℕ) × (soonest tiles (map (λ v. pair j v) (x ∷ vs)) ≡ Some (pair j i))
first_with-some tiles j x [] = (x, refl)
first_with-some tiles j x (v ∷ vs) =
    let rest = first_with-some tiles j v vs in
    elim (cases_Bool (is_before tiles (pair j rest.0) (pair j x))) [
      | inl sooner_one ↦ (rest.0, rw (rest.1, sooner_one) refl)
      | inr later ↦ (x, rw (rest.1, later) refl)
    ]

-- who is joined after one more join
pub list_any-push : (f : Join → Bool) (xs : List Join) (x : Join) → list_any f (xs ++ x ∷ []) ≡ (list_any f xs || f x)
list_any-push f [] x = grind (arith, nat_tests)
list_any-push f (y ∷ xs) x = let rest = list_any-push f xs x in grind (arith, nat_tests)

pub is_joined-same : (joins : List Join) (p : Join) → is_joined (joins ++ p ∷ []) p.point ≡ true
is_joined-same joins p = let e = list_any-push (λ q. q.point == p.point) joins p in grind (arith, nat_tests)

pub is_joined-other : (joins : List Join) (p : Join) (v : ℕ) → (v ≡ p.point → ⊥) → is_joined (joins ++ p ∷ []) v ≡ is_joined joins v
is_joined-other joins p v other = let e = list_any-push (λ q. q.point == v) joins p in grind (arith, nat_tests)

pub pairs_of-joined : (tiles : List Tile) (joins : List Join) (v : ℕ) → is_joined joins v ≡ true → pairs_of tiles joins v ≡ []
pairs_of-joined tiles joins v joined = rw joined refl

pairs_of-open : (tiles : List Tile) (joins : List Join) (v : ℕ) → is_joined joins v ≡ false →
    soonest tiles (pairs_of tiles joins v) ≡ first_with tiles v (λ i. is_joined joins i) (numbers tiles)
pairs_of-open tiles joins v open_one = rw open_one refl

-- point 0 is joined, so there is a first pair
pub nearest-some : (tiles : List Tile) (joins : List Join) (v : ℕ) → is_joined joins v ≡ false → 0 < length tiles →
    (i : ℕ) × (soonest tiles (pairs_of tiles joins v) ≡ Some (pair v i))
nearest-some (t ∷ tiles) joins v open_one some =
    let first = first_with-some (t ∷ tiles) v 0 (filter (λ i. is_joined joins i) (range_with_len 1 (length tiles))) in
    (first.0, pairs_of-open (t ∷ tiles) joins v open_one ∙ first.1)
nearest-some [] joins v open_one some = absurd (omega arith)

-- a point's first pair after one more join
pub nearest-more : (tiles : List Tile) (joins : List Join) (p : Join) (v : ℕ) → p.point < length tiles → (v ≡ p.point → ⊥) →
    soonest tiles (pairs_of tiles (joins ++ p ∷ []) v) ≡ offered tiles p.point (soonest tiles (pairs_of tiles joins v))
nearest-more tiles joins p v inside other = elim (cases_Bool (is_joined joins v)) [
  | inl joined ↦
      ap (soonest tiles) (pairs_of-joined tiles (joins ++ p ∷ []) v (is_joined-other joins p v other ∙ joined)) ∙
      sym (ap (λ (xs : List Join). offered tiles p.point (soonest tiles xs)) (pairs_of-joined tiles joins v joined))
  | inr open_one ↦
      let first = nearest-some tiles joins v open_one (omega arith) in
      let more : soonest tiles (pairs_of tiles (joins ++ p ∷ []) v) ≡ sooner tiles (soonest tiles (pairs_of tiles joins v)) (Some (pair v p.point)) =
      pairs_of-open tiles (joins ++ p ∷ []) v (is_joined-other joins p v other ∙ open_one) ∙
      first_with-more tiles v p.point (λ i. is_joined joins i) (λ i. is_joined (joins ++ p ∷ []) i) (is_joined-same joins p) (λ w apart. is_joined-other joins p w apart) inside ∙
      ap (λ (o : Option Join). sooner tiles o (Some (pair v p.point))) (sym (pairs_of-open tiles joins v open_one)) in
      more ∙ ap (λ (o : Option Join). sooner tiles o (Some (pair v p.point))) first.1 ∙
      sym (ap (offered tiles p.point) first.1)
]

length-nearest : (tiles : List Tile) (joins : List Join) → length (nearest_pairs tiles joins) ≡ length tiles
length-nearest tiles joins = length-map-range_with_len (λ v. soonest tiles (pairs_of tiles joins v)) 0 (length tiles)

nearest_at : (tiles : List Tile) (joins : List Join) (v : ℕ) (d : Option Join) → v < length tiles →
    get_or (nearest_pairs tiles joins) v d ≡ soonest tiles (pairs_of tiles joins v)
nearest_at tiles joins v d inside =
    get_or-map-range_with_len (λ v. soonest tiles (pairs_of tiles joins v)) 0 (length tiles) v v d inside (omega arith)

-- the points' first pairs after one more join
pub nearest_pairs-more : (tiles : List Tile) (joins : List Join) (p : Join) → p.point < length tiles →
    map (offered tiles p.point) (set (nearest_pairs tiles joins) p.point None) ≡ nearest_pairs tiles (joins ++ p ∷ [])
nearest_pairs-more tiles joins p inside =
    let old = nearest_pairs tiles joins in
    let cleared = set old p.point None in
    let f : ℕ → Option Join = λ v. soonest tiles (pairs_of tiles (joins ++ p ∷ []) v) in
    let size : length cleared ≡ length tiles = length-set old p.point None ∙ length-nearest tiles joins in
    let at : (v : ℕ) → v < length tiles → get_or (map (offered tiles p.point) cleared) v None ≡ f v =
    λ v below. get_or-map (offered tiles p.point) cleared v None None (omega arith) ∙
    elim (cases_eq v p.point) [
      | inl is ↦
          ap (λ (n : ℕ). offered tiles p.point (get_or cleared n None)) is ∙
          ap (offered tiles p.point) (get_or-set_same old p.point None None (let e = length-nearest tiles joins in omega arith)) ∙
          sym (ap (soonest tiles) (pairs_of-joined tiles (joins ++ p ∷ []) v (ap (λ (n : ℕ). is_joined (joins ++ p ∷ []) n) is ∙ is_joined-same joins p)))
      | inr other ↦
          ap (offered tiles p.point) (get_or-set_other old p.point v None None other) ∙
          ap (offered tiles p.point) (nearest_at tiles joins v None below) ∙
          sym (nearest-more tiles joins p v inside other)
    ] in
    fill_by_all f (map (offered tiles p.point) cleared) (length tiles) None (length-map cleared (offered tiles p.point) ∙ size) at

-- the points of a pair that is taken
pub record IsOpen (tiles : List Tile) (joins : List Join) (p : Join) : Type 0 where
  pub inside : p.point < length tiles
  pub not_joined : is_joined joins p.point ≡ false
  pub parent_inside : p.parent < length tiles
  pub parent_joined : is_joined joins p.parent ≡ true

sooner-if : (tiles : List Tile) (P : Join → Type 0) (a b : Option Join) → IfSome a P → IfSome b P → IfSome (sooner tiles a b) P
sooner-if tiles P None b a_has b_has = b_has
sooner-if tiles P (Some p) None a_has b_has = a_has
sooner-if tiles P (Some p) (Some q) a_has b_has =
    let Q : Option Join → Type 0 = λ o. IfSome o P in
    elim (cases_Bool (is_before tiles q p)) [
      | inl first ↦ let e : sooner tiles (Some p) (Some q) ≡ Some q = rw first refl in subst Q (sym e) b_has
      | inr later ↦ let e : sooner tiles (Some p) (Some q) ≡ Some p = rw later refl in subst Q (sym e) a_has
    ]

first_with-if : (tiles : List Tile) (j : ℕ) (p : ℕ → Bool) (P : Join → Type 0) (n a : ℕ) →
    ((i : ℕ) → i < a + n → p i ≡ true → P (pair j i)) → IfSome (first_with tiles j p (range_with_len a n)) P
first_with-if tiles j p P zero a each = tt
first_with-if tiles j p P (suc n) a each =
    let Q : Option Join → Type 0 = λ o. IfSome o P in
    let rest = first_with-if tiles j p P n (a + 1) (λ i below passes. each i (omega arith) passes) in
    elim (cases_Bool (p a)) [
      | inl passes ↦
          subst Q (sym (first_with-yes tiles j p a (range_with_len (a + 1) n) passes))
          (sooner-if tiles P (Some (pair j a)) (first_with tiles j p (range_with_len (a + 1) n)) (each a (omega arith) passes) rest)
      | inr fails ↦ subst Q (sym (first_with-no tiles j p a (range_with_len (a + 1) n) fails)) rest
    ]

pub nearest-open : (tiles : List Tile) (joins : List Join) (v : ℕ) → v < length tiles →
    IfSome (soonest tiles (pairs_of tiles joins v)) (IsOpen tiles joins)
nearest-open tiles joins v below =
    let Q : Option Join → Type 0 = λ o. IfSome o (IsOpen tiles joins) in
    elim (cases_Bool (is_joined joins v)) [
      | inl joined ↦ subst Q (sym (ap (soonest tiles) (pairs_of-joined tiles joins v joined))) tt
      | inr open_one ↦
          subst Q (sym (pairs_of-open tiles joins v open_one))
          (first_with-if tiles v (λ i. is_joined joins i) (IsOpen tiles joins) (length tiles) 0
          (λ i inside passes. record { inside = below; not_joined = open_one; parent_inside = omega arith; parent_joined = passes }))
    ]

-- a point's first pair is its own
pub own-point : (tiles : List Tile) (joins : List Join) (v : ℕ) → IfSome (soonest tiles (pairs_of tiles joins v)) (λ p. p.point ≡ v)
own-point tiles joins v =
    let Q : Option Join → Type 0 = λ o. IfSome o (λ p. p.point ≡ v) in
    elim (cases_Bool (is_joined joins v)) [
      | inl joined ↦ subst Q (sym (ap (soonest tiles) (pairs_of-joined tiles joins v joined))) tt
      | inr open_one ↦
          subst Q (sym (pairs_of-open tiles joins v open_one))
          (first_with-if tiles v (λ i. is_joined joins i) (λ p. p.point ≡ v) (length tiles) 0 (λ i inside passes. refl))
    ]

open_pairs-open : (tiles : List Tile) (joins : List Join) (n a : ℕ) → a + n ≤ length tiles →
    IfSome (soonest tiles (flat_map (λ v. pairs_of tiles joins v) (range_with_len a n))) (IsOpen tiles joins)
open_pairs-open tiles joins zero a fits = tt
open_pairs-open tiles joins (suc n) a fits =
    let Q : Option Join → Type 0 = λ o. IfSome o (IsOpen tiles joins) in
    let rest = flat_map (λ v. pairs_of tiles joins v) (range_with_len (a + 1) n) in
    subst Q (sym (soonest-append tiles (pairs_of tiles joins a) rest))
    (sooner-if tiles (IsOpen tiles joins) (soonest tiles (pairs_of tiles joins a)) (soonest tiles rest)
    (nearest-open tiles joins a (omega arith)) (open_pairs-open tiles joins n (a + 1) (omega arith)))

-- the first of all pairs, if there is one
pub next-if : (tiles : List Tile) (joins : List Join) → IfSome (soonest tiles (open_pairs tiles joins)) (IsOpen tiles joins)
next-if tiles joins = open_pairs-open tiles joins (length tiles) 0 (omega arith)

-- the pair that is joined next
pub next-open : (tiles : List Tile) (joins : List Join) (p : Join) → soonest tiles (open_pairs tiles joins) ≡ Some p → IsOpen tiles joins p
next-open tiles joins p is =
    let Q : Option Join → Type 0 = λ o. IfSome o (IsOpen tiles joins) in
    subst Q is (next-if tiles joins)

-- how many points aren't joined yet
pub open_count : List (Option Join) → ℕ
open_count pairs = count_by (λ pair. is_some pair) pairs

offered-some : (tiles : List Tile) (v : ℕ) (o : Option Join) → is_some (offered tiles v o) ≡ is_some o
offered-some tiles v None = refl
offered-some tiles v (Some p) = elim (cases_Bool (is_before tiles (pair p.point v) p)) [
  | inl first ↦ rw first refl
  | inr later ↦ rw later refl
]

pub open_count-offered : (tiles : List Tile) (v : ℕ) (pairs : List (Option Join)) → open_count (map (offered tiles v) pairs) ≡ open_count pairs
unfolding open_count
open_count-offered tiles v [] = refl
open_count-offered tiles v (o ∷ pairs) =
    let f : Option Join → ℕ = λ o. cond (is_some o) 1 0 in
    sum_by-cons f (offered tiles v o) (map (offered tiles v) pairs) ∙
    (rw (offered-some tiles v o, open_count-offered tiles v pairs) (sym (sum_by-cons f o pairs)))

pub open_count-joined : (tiles : List Tile) (joins : List Join) (p : Join) → 0 < length tiles → IsOpen tiles joins p →
    open_count (set (nearest_pairs tiles joins) p.point None) + 1 ≡ open_count (nearest_pairs tiles joins)
unfolding open_count
open_count-joined tiles joins p some opens =
    let f : Option Join → ℕ = λ o. cond (is_some o) 1 0 in
    let change = sum_by-set f (nearest_pairs tiles joins) p.point None None (let e = length-nearest tiles joins in let i = opens.inside in omega arith) in
    let first = nearest-some tiles joins p.point opens.not_joined some in
    let was : f (get_or (nearest_pairs tiles joins) p.point None) ≡ 1 =
    ap f (nearest_at tiles joins p.point None opens.inside) ∙ ap f first.1 in
    omega arith

pub joins_after-more : (n : ℕ) (tiles : List Tile) (joins : List Join) (p : Join) → soonest tiles (open_pairs tiles joins) ≡ Some p →
    joins_after (suc n) tiles joins ≡ joins_after n tiles (joins ++ p ∷ [])
unfolding joins_after
joins_after-more n tiles joins p is = ap (λ (o : Option Join). joins_after n tiles (with_join joins o)) is

pub joins_after-none : (n : ℕ) (tiles : List Tile) (joins : List Join) → soonest tiles (open_pairs tiles joins) ≡ None →
    joins_after n tiles joins ≡ joins
unfolding joins_after
joins_after-none zero tiles joins is = refl
joins_after-none (suc n) tiles joins is =
    ap (λ (o : Option Join). joins_after n tiles (with_join joins o)) is ∙ joins_after-none n tiles joins is

-- before the first join
none_joined : (n a : ℕ) → 0 < a → filter (λ i. is_joined [] i) (range_with_len a n) ≡ []
none_joined zero a above = refl
none_joined (suc n) a above =
    let test : is_joined [] a ≡ false = grind (arith, nat_tests) in
    rw test (none_joined n (a + 1) (omega arith))

first_pair : (t : Tile) (tiles : List Tile) (n a : ℕ) → 0 < a →
    map (λ v. soonest (t ∷ tiles) (pairs_of (t ∷ tiles) [] v)) (range_with_len a n) ≡ map (λ v. Some (pair v 0)) (range_with_len a n)
first_pair t tiles zero a above = refl
first_pair t tiles (suc n) a above =
    let test : is_joined [] a ≡ false = grind (arith, nat_tests) in
    let head : soonest (t ∷ tiles) (pairs_of (t ∷ tiles) [] a) ≡ Some (pair a 0) =
    pairs_of-open (t ∷ tiles) [] a test ∙
    ap (λ (vs : List ℕ). soonest (t ∷ tiles) (pair a 0 ∷ map (λ i. pair a i) vs)) (none_joined (length tiles) 1 (omega arith)) in
    ap (λ (o : Option Join). o ∷ map (λ v. soonest (t ∷ tiles) (pairs_of (t ∷ tiles) [] v)) (range_with_len (a + 1) n)) head ∙
    ap (λ (os : List (Option Join)). Some (pair a 0) ∷ os) (first_pair t tiles n (a + 1) (omega arith))

pub nearest_pairs-first : (tiles : List Tile) → 0 < length tiles →
    nearest_pairs tiles [] ≡ None ∷ map (λ v. Some (pair v 0)) (range_with_len 1 (length tiles - 1))
nearest_pairs-first [] some = absurd (omega arith)
nearest_pairs-first (t ∷ tiles) some =
    let size : length (t ∷ tiles) - 1 ≡ length tiles = omega arith in
    ap (λ (os : List (Option Join)). None ∷ os) (first_pair t tiles (length tiles) 1 (omega arith)) ∙
    ap (λ (n : ℕ). None ∷ map (λ v. Some (pair v 0)) (range_with_len 1 n)) (sym size)

open_count-pairs : (n a : ℕ) → open_count (map (λ v. Some (pair v 0)) (range_with_len a n)) ≡ n
unfolding open_count
open_count-pairs zero a = refl
open_count-pairs (suc n) a =
    let f : Option Join → ℕ = λ o. cond (is_some o) 1 0 in
    let rest = open_count-pairs n (a + 1) in
    let head = sum_by-cons f (Some (pair a 0)) (map (λ v. Some (pair v 0)) (range_with_len (a + 1) n)) in
    omega arith

pub open_count-first : (tiles : List Tile) → 0 < length tiles → open_count (nearest_pairs tiles []) ≡ length tiles - 1
unfolding open_count
open_count-first tiles some =
    ap open_count (nearest_pairs-first tiles some) ∙
    sum_by-cons (λ o. cond (is_some o) 1 0) None (map (λ v. Some (pair v 0)) (range_with_len 1 (length tiles - 1))) ∙
    (let e = open_count-pairs (length tiles - 1) 1 in omega arith)

with_join-all : (tiles : List Tile) (joins : List Join) (P : Join → Type 0) → ((p : Join) → IsOpen tiles joins p → P p) →
    (o : Option Join) → All P joins → IfSome o (IsOpen tiles joins) → All P (with_join joins o)
with_join-all tiles joins P each None all opens = all
with_join-all tiles joins P each (Some p) all opens = All-push P joins p all (each p opens)

length-with_join : (joins : List Join) (o : Option Join) → length (with_join joins o) ≤ length joins + 1
length-with_join joins None = omega arith
length-with_join joins (Some p) = let e = length_push joins p in omega arith

-- what holds of each pair that may be joined holds of those that are
pub joins_after-all : (tiles : List Tile) (P : Join → Type 0) → ((joins : List Join) (p : Join) → IsOpen tiles joins p → P p) →
    (n : ℕ) (joins : List Join) → All P joins → All P (joins_after n tiles joins)
unfolding joins_after
joins_after-all tiles P each zero joins all = all
joins_after-all tiles P each (suc n) joins all =
    let next = soonest tiles (open_pairs tiles joins) in
    joins_after-all tiles P each n (with_join joins next) (with_join-all tiles joins P (each joins) next all (next-if tiles joins))

pub length-joins_after : (n : ℕ) (tiles : List Tile) (joins : List Join) → length (joins_after n tiles joins) ≤ length joins + n
unfolding joins_after
length-joins_after zero tiles joins = omega arith
length-joins_after (suc n) tiles joins =
    let rest = length-joins_after n tiles (with_join joins (soonest tiles (open_pairs tiles joins))) in
    let one = length-with_join joins (soonest tiles (open_pairs tiles joins)) in
    omega arith

pub joins_of-inside : (tiles : List Tile) → All (AreInside tiles) (joins_of tiles)
joins_of-inside tiles =
    joins_after-all tiles (AreInside tiles) (λ joins p opens. (opens.inside, opens.parent_inside)) (length tiles - 1) [] (All-nil (AreInside tiles))

-- point 0 isn't joined again
pub above : (tiles : List Tile) (joins : List Join) (p : Join) → IsOpen tiles joins p → 0 < p.point
above tiles joins p opens = let out = opens.not_joined in grind (arith, nat_tests)

pub length-joins_of : (tiles : List Tile) → 0 < length tiles → length (joins_of tiles) < length tiles
length-joins_of tiles some = let e = length-joins_after (length tiles - 1) tiles [] in omega arith

-- a pair that was taken in changes nothing more
taken-pairs : (tiles : List Tile) (f : ℕ → List Join) (u : Option Join) (v n a : ℕ) → a ≤ v → v < a + n →
    sooner tiles (soonest tiles (f v)) u ≡ soonest tiles (f v) →
    sooner tiles (soonest tiles (flat_map f (range_with_len a n))) u ≡ soonest tiles (flat_map f (range_with_len a n))
taken-pairs tiles f u v zero a low high taken = absurd (omega arith)
taken-pairs tiles f u v (suc n) a low high taken =
    let rest = flat_map f (range_with_len (a + 1) n) in
    let whole = soonest-append tiles (f a) rest in
    let head = soonest tiles (f a) in
    let tail = soonest tiles rest in
    elim (cases_eq a v) [
      | inl is ↦
          let here : sooner tiles head u ≡ head =
          ap (λ (n : ℕ). sooner tiles (soonest tiles (f n)) u) is ∙ taken ∙ sym (ap (λ (n : ℕ). soonest tiles (f n)) is) in
          ap (λ (o : Option Join). sooner tiles o u) whole ∙ sooner_assoc tiles head tail u ∙ ap (sooner tiles head) (sooner-comm tiles tail u) ∙
          sym (sooner_assoc tiles head u tail) ∙ ap (λ (o : Option Join). sooner tiles o tail) here ∙ sym whole
      | inr other ↦
          ap (λ (o : Option Join). sooner tiles o u) whole ∙ sooner_assoc tiles head tail u ∙
          ap (sooner tiles head) (taken-pairs tiles f u v n (a + 1) (omega arith) (omega arith) taken) ∙ sym whole
    ]

-- no pair is shorter than the one that is joined next
pub next-least : (tiles : List Tile) (joins : List Join) (p q : Join) → soonest tiles (open_pairs tiles joins) ≡ Some p → IsOpen tiles joins q →
    span tiles p ≤ span tiles q
next-least tiles joins p q is opens =
    let u : Option Join = Some q in
    let own : sooner tiles (soonest tiles (pairs_of tiles joins q.point)) u ≡ soonest tiles (pairs_of tiles joins q.point) =
    ap (λ (o : Option Join). sooner tiles o u) (pairs_of-open tiles joins q.point opens.not_joined) ∙
    taken_in tiles q.point q.parent (λ i. is_joined joins i) opens.parent_joined (length tiles) 0 (omega arith) (let h = opens.parent_inside in omega arith) ∙
    sym (pairs_of-open tiles joins q.point opens.not_joined) in
    let all : sooner tiles (Some p) u ≡ Some p =
    ap (λ (o : Option Join). sooner tiles o u) (sym is) ∙
    taken-pairs tiles (λ v. pairs_of tiles joins v) u q.point (length tiles) 0 (omega arith) (let h = opens.inside in omega arith) own ∙ is in
    elim (cases_Bool (is_before tiles q p)) [
      | inl first ↦
          let same : q ≡ p = cc (sooner-first tiles p q first) in
          let e = ap (span tiles) same in omega (arith, e)
      | inr later ↦ before-span tiles q p later
    ]

some-none : (o : Option Join) (p : Join) → o ≡ Some p → o ≡ None → ⊥
some-none o p some none = cc

none-parts : (tiles : List Tile) (a b : Option Join) → sooner tiles a b ≡ None → (a ≡ None) × (b ≡ None)
none-parts tiles None b is = (refl, is)
none-parts tiles (Some p) None is = absurd (some-none (Some p) p refl is)
none-parts tiles (Some p) (Some q) is = elim (cases_Bool (is_before tiles q p)) [
  | inl first ↦ absurd (some-none (Some q) q refl (sym (sooner-first tiles p q first) ∙ is))
  | inr later ↦ absurd (some-none (Some p) p refl (sym (sooner-kept tiles p q later) ∙ is))
]

-- if nothing is joined next, each point is joined
all-none : (tiles : List Tile) (f : ℕ → List Join) (v n a : ℕ) → a ≤ v → v < a + n →
    soonest tiles (flat_map f (range_with_len a n)) ≡ None → soonest tiles (f v) ≡ None
all-none tiles f v zero a low high is = absurd (omega arith)
all-none tiles f v (suc n) a low high is =
    let rest = flat_map f (range_with_len (a + 1) n) in
    let parts = none-parts tiles (soonest tiles (f a)) (soonest tiles rest) (sym (soonest-append tiles (f a) rest) ∙ is) in
    elim (cases_eq a v) [
      | inl same ↦ ap (λ (n : ℕ). soonest tiles (f n)) (sym same) ∙ parts.0
      | inr other ↦ all-none tiles f v n (a + 1) (omega arith) (omega arith) parts.1
    ]

pub next-none : (tiles : List Tile) (joins : List Join) (v : ℕ) → v < length tiles → soonest tiles (open_pairs tiles joins) ≡ None → is_joined joins v ≡ true
next-none tiles joins v inside is = elim (cases_Bool (is_joined joins v)) [
  | inl joined ↦ joined
  | inr out ↦
      let some = nearest-some tiles joins v out (omega arith) in
      absurd (some-none (soonest tiles (pairs_of tiles joins v)) (pair v some.0) some.1
      (all-none tiles (λ v. pairs_of tiles joins v) v (length tiles) 0 (omega arith) (omega arith) is))
]

-- who is joined stays joined
pub joined-more : (joins : List Join) (p : Join) (v : ℕ) → is_joined joins v ≡ true → is_joined (joins ++ p ∷ []) v ≡ true
joined-more joins p v joined = elim (cases_eq v p.point) [
  | inl is ↦ ap (λ (n : ℕ). is_joined (joins ++ p ∷ []) n) is ∙ is_joined-same joins p
  | inr other ↦ is_joined-other joins p v other ∙ joined
]

no-open : (tiles : List Tile) (joins : List Join) (v : ℕ) → open_count (nearest_pairs tiles joins) ≡ 0 → v < length tiles →
    (p : Join) → soonest tiles (pairs_of tiles joins v) ≡ Some p → ⊥
unfolding open_count
no-open tiles joins v count inside p is =
    let f : Option Join → ℕ = λ o. cond (is_some o) 1 0 in
    let most = get_or-le-sum_by f (nearest_pairs tiles joins) v None (let e = length-nearest tiles joins in omega arith) in
    let one : f (get_or (nearest_pairs tiles joins) v None) ≡ 1 = ap f (nearest_at tiles joins v None inside) ∙ ap f is in
    omega arith

joined-cases : (n : ℕ) (tiles : List Tile) (joins : List Join) (v : ℕ) (o : Option Join) → soonest tiles (open_pairs tiles joins) ≡ o →
    open_count (nearest_pairs tiles joins) ≡ suc n → v < length tiles →
    ((more : List Join) → open_count (nearest_pairs tiles more) ≡ n → is_joined (joins_after n tiles more) v ≡ true) →
    is_joined (joins_after n tiles (with_join joins o)) v ≡ true
joined-cases n tiles joins v None is count inside rest =
    ap (λ (xs : List Join). is_joined xs v) (joins_after-none n tiles joins is) ∙ next-none tiles joins v inside is
joined-cases n tiles joins v (Some p) is count inside rest =
    let opens = next-open tiles joins p is in
    let less = open_count-joined tiles joins p (omega arith) opens in
    let new : open_count (nearest_pairs tiles (joins ++ p ∷ [])) ≡ open_count (set (nearest_pairs tiles joins) p.point None) =
    ap open_count (sym (nearest_pairs-more tiles joins p opens.inside)) ∙ open_count-offered tiles p.point (set (nearest_pairs tiles joins) p.point None) in
    rest (joins ++ p ∷ []) (omega arith)

-- after as many joins as points are open, each point is joined
pub joins_after-joined : (n : ℕ) (tiles : List Tile) (joins : List Join) (v : ℕ) → open_count (nearest_pairs tiles joins) ≡ n → v < length tiles →
    is_joined (joins_after n tiles joins) v ≡ true
unfolding joins_after
joins_after-joined zero tiles joins v count inside = elim (cases_Bool (is_joined joins v)) [
  | inl joined ↦ joined
  | inr out ↦
      let some = nearest-some tiles joins v out (omega arith) in
      absurd (no-open tiles joins v count inside (pair v some.0) some.1)
]
joins_after-joined (suc n) tiles joins v count inside =
    joined-cases n tiles joins v (soonest tiles (open_pairs tiles joins)) refl count inside
    (λ more fewer. joins_after-joined n tiles more v fewer inside)

pub joins_of-joined : (tiles : List Tile) (v : ℕ) → v < length tiles → is_joined (joins_of tiles) v ≡ true
joins_of-joined tiles v inside = joins_after-joined (length tiles - 1) tiles [] v (open_count-first tiles (omega arith)) inside
