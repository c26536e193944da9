-- The first of the points that wait is joined next, and the others wait on.
use Rattle.std.proofs.Common.{◌≡◌, ℕ, zero, suc, ◌+◌, ◌-◌, ◌<◌, ◌≤◌, ◌⊎◌, inl, inr, Bool, true, false, cond, nat_lt, Option, Some, None, IfSome, List, [], ◌∷◌, ◌++◌, length, map, take, drop, get_or, set, refl, sym, ap, subst, ◌∙◌, arith}
use Rattle.std.specs.List.{filter_map, flat_map, range_with_len, remove}
use Rattle.std.proofs.lemmas.Bool.{cases_eq, cases_lt, cases_Bool}
use Rattle.std.proofs.lemmas.Bool.Decides.{nat_tests}
use Rattle.std.proofs.lemmas.Option.{none-some}
use Rattle.std.proofs.lemmas.List.{length-map, get_or_default, get_or-map, get_or-set_same, get_or-set_other}
use Rattle.std.proofs.lemmas.Simd.{map-map}
use Rattle.std.proofs.lemmas.List.FromFn.{length-map-range_with_len, map-range_with_len_more}
use Rattle.steiner_topology.specs.declared.point.Join.{Join}
use Rattle.steiner_topology.specs.declared.point.Waiting.{Waiting}
use Rattle.steiner_topology.specs.Tile.{Tile, distance, tile_at}
use Rattle.steiner_topology.specs.Joins.{pair, span, by_number, is_before, sooner, soonest, is_joined, pairs_of, open_pairs, joins_after, joins_of, offered}
use Rattle.steiner_topology.specs.Waits.{first_pairs, waiting_in, waits, nearer, span_at, IsFirst}
use Rattle.steiner_topology.proofs.Order.{by_less, by_same, sooner-first, sooner-kept, sooner_assoc}
use Rattle.steiner_topology.proofs.JoinLemmas.{soonest-append, is_joined-same, IsOpen, next-open, own-point, nearest-some, nearest-more, nearest_pairs-first, pairs_of-joined, joins_after-more}

pub same-span : (points : List Waiting) (place : ℕ) (w : Waiting) → w ≡ get_or points place w → place < length points → w.span ≡ span_at points place
same-span points place w is below =
    ap (λ (x : Waiting). x.span) (is ∙ get_or_default points place w (waiting_in 0 (0, 0) 0 0) below)

pub length-part : (f : Waiting → Waiting) (points : List Waiting) (place : ℕ) → place ≤ length points →
    length (map f (take place points) ++ drop place points) ≡ length points
length-part f points zero below = refl
length-part f [] (suc place) below = absurd (omega arith)
length-part f (w ∷ points) (suc place) below = let e = length-part f points place (omega arith) in omega arith

pub first-none : (points : List Waiting) → IsFirst points 0 0
first-none points = record {
  inside = λ some. some;
  before = λ place below. absurd (omega arith);
  least = λ place below. absurd (omega arith);
}

first-one : (points : List Waiting) (count first : ℕ) → count ≡ 1 → first ≡ 0 → IsFirst points count first
first-one points count first one none = record {
  inside = λ some. omega arith;
  before = λ place below. absurd (omega arith);
  least = λ place below. let here : place ≡ first = omega arith in let e = ap (span_at points) here in omega arith;
}

pub span-set : (points : List Waiting) (place : ℕ) (w : Waiting) → place < length points → span_at (set points place w) place ≡ w.span
span-set points place w below = ap (λ (x : Waiting). x.span) (get_or-set_same points place w (waiting_in 0 (0, 0) 0 0) below)

pub span-kept : (points : List Waiting) (place i : ℕ) (w : Waiting) → i < place → span_at (set points place w) i ≡ span_at points i
span-kept points place i w before =
    ap (λ (x : Waiting). x.span) (get_or-set_other points place i w (waiting_in 0 (0, 0) 0 0) (λ is. absurd (omega arith)))

-- one place more is compared
pub first-less : (points : List Waiting) (place first : ℕ) (w : Waiting) → IsFirst points place first → place < length points →
    w.span < span_at points first → IsFirst (set points place w) (place + 1) place
first-less points place first w so_far below less =
    let new = set points place w in
    let here = span-set points place w below in
    let before : (i : ℕ) → i < place → span_at new place < span_at new i = λ i under.
    let least = so_far.least i under in
    let there = span-kept points place i w under in
    omega arith in
    record {
      inside = λ some. omega arith;
      before = before;
      least = λ i under. elim (cases_eq i place) [
        | inl is ↦ (let e = ap (span_at new) is in omega arith)
        | inr other ↦ (let e = before i (omega arith) in omega arith)
      ];
    }

first-kept : (points : List Waiting) (place first : ℕ) (w : Waiting) → IsFirst points place first → place < length points → first < place →
    span_at points first ≤ w.span → IsFirst (set points place w) (place + 1) first
first-kept points place first w so_far below inside more =
    let new = set points place w in
    let here = span-set points place w below in
    let old = span-kept points place first w inside in
    record {
      inside = λ some. omega arith;
      before = λ i under.
          let was = so_far.before i under in
          let there = span-kept points place i w (omega arith) in
          omega arith;
      least = λ i under. elim (cases_eq i place) [
        | inl is ↦ (let e = ap (span_at new) is in omega arith)
        | inr other ↦
            let was = so_far.least i (omega arith) in
            let there = span-kept points place i w (omega arith) in
            omega arith
      ];
    }

pub first-stays : (points : List Waiting) (place first : ℕ) (w : Waiting) → IsFirst points place first → first ≤ place → place < length points →
    w.span ≤ span_at points place → span_at points first ≤ w.span →
    IsFirst (set points place w) (place + 1) first × (span_at points first ≡ span_at (set points place w) first)
first-stays points place first w so_far low below shrinks more = elim (cases_lt first place) [
  | inl inside ↦ (first-kept points place first w so_far below inside more, sym (span-kept points place first w inside))
  | inr here ↦
      let inside = so_far.inside in
      let none : place ≡ 0 = elim (cases_lt 0 place) [
        | inl some ↦ (let h = inside some in absurd (omega arith))
        | inr past ↦ omega arith
      ] in
      let is : first ≡ place = omega arith in
      let same = ap (span_at (set points place w)) is in
      let old = ap (span_at points) is in
      let set_is = span-set points place w below in
      (first-one (set points place w) (place + 1) first (omega arith) (omega arith), omega arith)
]

-- an offer brings no point farther away
pub nearer-shrinks : (tile : Tile) (parent : ℕ) (w : Waiting) → (nearer tile parent w).span ≤ w.span
nearer-shrinks tile parent w =
    let d = distance w.tile tile in
    elim (cases_Bool (by_number d w.span (nat_lt parent w.parent))) [
      | inl before ↦
          let less : d ≤ w.span = no-longer d w.span (nat_lt parent w.parent) before in
          rw before less
      | inr after ↦ rw after (omega arith)
    ]
  where
    no-longer : (a b : ℕ) (rest : Bool) → by_number a b rest ≡ true → a ≤ b
    no-longer a b rest before = grind (arith, nat_tests)

-- the first pair of a point
abbrev own : List Tile → List Join → ℕ → Option Join
own tiles joins v = soonest tiles (pairs_of tiles joins v)

-- the first pairs of so many points from one on
abbrev firsts : List Tile → List Join → ℕ → ℕ → List Join
firsts tiles joins a n = filter_map (λ o. o) (map (λ v. own tiles joins v) (range_with_len a n))

-- a pair of a point, after one more point is offered as its parent
abbrev closer : List Tile → ℕ → Join → Join
closer tiles v p = cond (is_before tiles (pair p.point v) p) (pair p.point v) p

some-cases : (o : Option Join) → (o ≡ None) ⊎ ((p : Join) × (o ≡ Some p))
some-cases None = inl refl
some-cases (Some p) = inr (p, refl)

offered-closer : (tiles : List Tile) (v : ℕ) (p : Join) → offered tiles v (Some p) ≡ Some (closer tiles v p)
offered-closer tiles v p = elim (cases_Bool (is_before tiles (pair p.point v) p)) [
  | inl first ↦ rw first refl
  | inr later ↦ rw later refl
]

firsts-none : (tiles : List Tile) (joins : List Join) (a n : ℕ) → own tiles joins a ≡ None → firsts tiles joins a (suc n) ≡ firsts tiles joins (a + 1) n
firsts-none tiles joins a n is = rw is refl

firsts-some : (tiles : List Tile) (joins : List Join) (a n : ℕ) (p : Join) → own tiles joins a ≡ Some p →
    firsts tiles joins a (suc n) ≡ p ∷ firsts tiles joins (a + 1) n
firsts-some tiles joins a n p is = rw is refl

-- the points of pairs, each above the ones before it
data Rising : ℕ → List Join → Type 0 where
  no_more : (low : ℕ) → Rising low []
  one_more : (low : ℕ) (p : Join) (ps : List Join) → low ≤ p.point → Rising (p.point + 1) ps → Rising low (p ∷ ps)

lower : (low high : ℕ) (ps : List Join) → low ≤ high → Rising high ps → Rising low ps
lower low high [] fits rising = no_more low
lower low high (p ∷ ps) fits (one_more _ _ _ above rest) = one_more low p ps (omega arith) rest

rising-at : (low : ℕ) (ps : List Join) (at : ℕ) (d : Join) → Rising low ps → at < length ps → low ≤ (get_or ps at d).point
rising-at low [] at d rising below = absurd (omega arith)
rising-at low (p ∷ ps) zero d (one_more _ _ _ above rest) below = above
rising-at low (p ∷ ps) (suc at) d (one_more _ _ _ above rest) below = let e = rising-at (p.point + 1) ps at d rest (omega arith) in omega arith

own-is : (tiles : List Tile) (joins : List Join) (v : ℕ) (p : Join) → own tiles joins v ≡ Some p → p.point ≡ v
own-is tiles joins v p is =
    let Q : Option Join → Type 0 = λ o. IfSome o (λ p. p.point ≡ v) in
    subst Q is (own-point tiles joins v)

firsts-rising : (tiles : List Tile) (joins : List Join) (n a : ℕ) → Rising a (firsts tiles joins a n)
firsts-rising tiles joins zero a = no_more a
firsts-rising tiles joins (suc n) a =
    let rest = firsts-rising tiles joins n (a + 1) in
    elim (some-cases (own tiles joins a)) [
      | inl is ↦ subst (Rising a) (sym (firsts-none tiles joins a n is)) (lower a (a + 1) (firsts tiles joins (a + 1) n) (omega arith) rest)
      | inr (p, is) ↦
          let point = own-is tiles joins a p is in
          subst (Rising a) (sym (firsts-some tiles joins a n p is))
          (one_more a p (firsts tiles joins (a + 1) n) (omega arith) (subst (λ (v : ℕ). Rising (v + 1) (firsts tiles joins (a + 1) n)) (sym point) rest))
    ]

-- the first of the first pairs is the first of all
firsts-soonest : (tiles : List Tile) (joins : List Join) (n a : ℕ) →
    soonest tiles (firsts tiles joins a n) ≡ soonest tiles (flat_map (λ v. pairs_of tiles joins v) (range_with_len a n))
firsts-soonest tiles joins zero a = refl
firsts-soonest tiles joins (suc n) a =
    let rest = firsts-soonest tiles joins n (a + 1) in
    let ps = firsts tiles joins (a + 1) n in
    let all = flat_map (λ v. pairs_of tiles joins v) (range_with_len (a + 1) n) in
    let whole : soonest tiles (pairs_of tiles joins a ++ all) ≡ sooner tiles (own tiles joins a) (soonest tiles ps) =
    soonest-append tiles (pairs_of tiles joins a) all ∙ ap (sooner tiles (own tiles joins a)) (sym rest) in
    elim (some-cases (own tiles joins a)) [
      | inl is ↦ ap (soonest tiles) (firsts-none tiles joins a n is) ∙ sym (whole ∙ ap (λ (o : Option Join). sooner tiles o (soonest tiles ps)) is)
      | inr (p, is) ↦ ap (soonest tiles) (firsts-some tiles joins a n p is) ∙ sym (whole ∙ ap (λ (o : Option Join). sooner tiles o (soonest tiles ps)) is)
    ]

-- a pair that no other comes before
soonest-head : (tiles : List Tile) (p d : Join) (ps : List Join) → ((i : ℕ) → i < length ps → is_before tiles (get_or ps i d) p ≡ false) →
    sooner tiles (Some p) (soonest tiles ps) ≡ Some p
soonest-head tiles p d [] later = refl
soonest-head tiles p d (q ∷ ps) later =
    sym (sooner_assoc tiles (Some p) (Some q) (soonest tiles ps)) ∙
    ap (λ (o : Option Join). sooner tiles o (soonest tiles ps)) (sooner-kept tiles p q (later 0 (omega arith))) ∙
    soonest-head tiles p d ps (λ i below. later (suc i) (omega arith))

later-point : (a b x y : ℕ) (rest : Bool) → a ≤ x → b < y → by_number x a (by_number y b rest) ≡ false
later-point a b x y rest far above = grind (arith, nat_tests)

-- of pairs by rising points the first one of least distance comes first
soonest-at : (tiles : List Tile) (d : Join) (ps : List Join) (at low : ℕ) → Rising low ps → at < length ps →
    ((i : ℕ) → i < at → span tiles (get_or ps at d) < span tiles (get_or ps i d)) →
    ((i : ℕ) → i < length ps → span tiles (get_or ps at d) ≤ span tiles (get_or ps i d)) → soonest tiles ps ≡ Some (get_or ps at d)
soonest-at tiles d [] at low rising below before least = absurd (omega arith)
soonest-at tiles d (p ∷ ps) zero low (one_more _ _ _ above rest) below before least =
    soonest-head tiles p d ps (λ i under.
    let q = get_or ps i d in
    let far = least (suc i) (omega arith) in
    let over = rising-at (p.point + 1) ps i d rest under in
    later-point (span tiles p) p.point (span tiles q) q.point (nat_lt q.parent p.parent) far (omega arith))
soonest-at tiles d (p ∷ ps) (suc at) low (one_more _ _ _ above rest) below before least =
    let q = get_or ps at d in
    let less : span tiles q < span tiles p = before 0 (omega arith) in
    ap (sooner tiles (Some p)) (soonest-at tiles d ps at (p.point + 1) rest (omega arith)
    (λ i under. before (suc i) (omega arith)) (λ i under. least (suc i) (omega arith))) ∙
    sooner-first tiles p q (by_less (span tiles q) (span tiles p) (by_number q.point p.point (nat_lt q.parent p.parent)) less)

-- one more point is offered to the points after it
firsts-more : (tiles : List Tile) (joins : List Join) (p : Join) → IsOpen tiles joins p → (n a : ℕ) → p.point < a →
    firsts tiles (joins ++ p ∷ []) a n ≡ map (closer tiles p.point) (firsts tiles joins a n)
firsts-more tiles joins p opens zero a above = refl
firsts-more tiles joins p opens (suc n) a above =
    let rest = firsts-more tiles joins p opens n (a + 1) (omega arith) in
    let more = nearest-more tiles joins p a opens.inside (λ is. absurd (omega arith)) in
    let f = map (closer tiles p.point) in
    elim (some-cases (own tiles joins a)) [
      | inl is ↦
          firsts-none tiles (joins ++ p ∷ []) a n (more ∙ ap (offered tiles p.point) is) ∙ rest ∙ sym (ap f (firsts-none tiles joins a n is))
      | inr (q, is) ↦
          firsts-some tiles (joins ++ p ∷ []) a n (closer tiles p.point q) (more ∙ ap (offered tiles p.point) is ∙ offered-closer tiles p.point q) ∙
          ap (λ (ps : List Join). closer tiles p.point q ∷ ps) rest ∙ sym (ap f (firsts-some tiles joins a n q is))
    ]

-- the pair at a place is joined
abbrev IsJoinedAt : List Tile → List Join → Join → ℕ → ℕ → ℕ → Type 0
IsJoinedAt tiles joins p n a at = firsts tiles (joins ++ p ∷ []) a n ≡ map (closer tiles p.point) (remove (firsts tiles joins a n) at)

open-own : (tiles : List Tile) (joins : List Join) (p : Join) (a : ℕ) → IsOpen tiles joins p → own tiles joins a ≡ None → a ≡ p.point → ⊥
open-own tiles joins p a opens none is =
    let open_one : is_joined joins a ≡ false = ap (is_joined joins) is ∙ opens.not_joined in
    let some = nearest-some tiles joins a open_one (let h = opens.inside in omega arith) in
    none-some (pair a some.0) (sym none ∙ some.1)

joined-without : (tiles : List Tile) (joins : List Join) (p : Join) (n a at : ℕ) → IsOpen tiles joins p → own tiles joins a ≡ None →
    IsJoinedAt tiles joins p n (a + 1) at → IsJoinedAt tiles joins p (suc n) a at
joined-without tiles joins p n a at opens none rest =
    let more = nearest-more tiles joins p a opens.inside (λ is. open-own tiles joins p a opens none is) in
    firsts-none tiles (joins ++ p ∷ []) a n (more ∙ ap (offered tiles p.point) none) ∙ rest ∙
    sym (ap (λ (ps : List Join). map (closer tiles p.point) (remove ps at)) (firsts-none tiles joins a n none))

joined-here : (tiles : List Tile) (joins : List Join) (p : Join) (n a : ℕ) → IsOpen tiles joins p → own tiles joins a ≡ Some p →
    IsJoinedAt tiles joins p (suc n) a 0
joined-here tiles joins p n a opens some =
    let point = own-is tiles joins a p some in
    let gone : own tiles (joins ++ p ∷ []) a ≡ None =
    ap (soonest tiles) (pairs_of-joined tiles (joins ++ p ∷ []) a (ap (is_joined (joins ++ p ∷ [])) (sym point) ∙ is_joined-same joins p)) in
    firsts-none tiles (joins ++ p ∷ []) a n gone ∙
    firsts-more tiles joins p opens n (a + 1) (omega arith) ∙
    sym (ap (λ (ps : List Join). map (closer tiles p.point) (remove ps 0)) (firsts-some tiles joins a n p some))

joined-later : (tiles : List Tile) (joins : List Join) (p q : Join) (n a at : ℕ) → IsOpen tiles joins p → own tiles joins a ≡ Some q → a < p.point →
    IsJoinedAt tiles joins p n (a + 1) at → IsJoinedAt tiles joins p (suc n) a (suc at)
joined-later tiles joins p q n a at opens some above rest =
    let more = nearest-more tiles joins p a opens.inside (λ is. absurd (omega arith)) in
    firsts-some tiles (joins ++ p ∷ []) a n (closer tiles p.point q) (more ∙ ap (offered tiles p.point) some ∙ offered-closer tiles p.point q) ∙
    ap (λ (ps : List Join). closer tiles p.point q ∷ ps) rest ∙
    sym (ap (λ (ps : List Join). map (closer tiles p.point) (remove ps (suc at))) (firsts-some tiles joins a n q some))

joined-some : (tiles : List Tile) (joins : List Join) (p q d : Join) → IsOpen tiles joins p → (n a at : ℕ) → own tiles joins a ≡ Some q →
    at < length (q ∷ firsts tiles joins (a + 1) n) → get_or (q ∷ firsts tiles joins (a + 1) n) at d ≡ p →
    ((k : ℕ) → k < length (firsts tiles joins (a + 1) n) → get_or (firsts tiles joins (a + 1) n) k d ≡ p → IsJoinedAt tiles joins p n (a + 1) k) →
    IsJoinedAt tiles joins p (suc n) a at
joined-some tiles joins p q d opens n a zero some below is rest = joined-here tiles joins p n a opens (some ∙ ap (λ (x : Join). Some x) is)
joined-some tiles joins p q d opens n a (suc at) some below is rest =
    let under : at < length (firsts tiles joins (a + 1) n) = omega arith in
    let over = rising-at (a + 1) (firsts tiles joins (a + 1) n) at d (firsts-rising tiles joins n (a + 1)) under in
    let point = ap (λ (x : Join). x.point) is in
    joined-later tiles joins p q n a at opens some (omega arith) (rest at under is)

firsts-joined : (tiles : List Tile) (joins : List Join) (p d : Join) → IsOpen tiles joins p → (n a at : ℕ) → at < length (firsts tiles joins a n) →
    get_or (firsts tiles joins a n) at d ≡ p → IsJoinedAt tiles joins p n a at
firsts-joined tiles joins p d opens zero a at below is = absurd (omega arith)
firsts-joined tiles joins p d opens (suc n) a at below is =
    elim (some-cases (own tiles joins a)) [
      | inl none ↦
          let same = firsts-none tiles joins a n none in
          let size = ap length same in
          joined-without tiles joins p n a at opens none
          (firsts-joined tiles joins p d opens n (a + 1) at (omega arith) (sym (ap (λ (ps : List Join). get_or ps at d) same) ∙ is))
      | inr (q, some) ↦
          let same = firsts-some tiles joins a n q some in
          let size = ap length same in
          let here : get_or (q ∷ firsts tiles joins (a + 1) n) at d ≡ p = sym (ap (λ (ps : List Join). get_or ps at d) same) ∙ is in
          joined-some tiles joins p q d opens n a at some (omega arith) here (λ k. firsts-joined tiles joins p d opens n (a + 1) k)
    ]

-- the points that wait, after one more is offered
nearer-closer : (tiles : List Tile) (v : ℕ) (p : Join) → nearer (tile_at tiles v) v (waits tiles p) ≡ waits tiles (closer tiles v p)
nearer-closer tiles v p =
    let test : is_before tiles (pair p.point v) p ≡ by_number (distance (tile_at tiles p.point) (tile_at tiles v)) (span tiles p) (nat_lt v p.parent) =
    ap (by_number (distance (tile_at tiles p.point) (tile_at tiles v)) (span tiles p)) (by_same p.point p.point (nat_lt v p.parent) refl) in
    elim (cases_Bool (is_before tiles (pair p.point v) p)) [
      | inl first ↦ let e = sym test ∙ first in rw (e, first) refl
      | inr later ↦ let e = sym test ∙ later in rw (e, later) refl
    ]

map-nearer : (tiles : List Tile) (v : ℕ) (ps : List Join) →
    map (nearer (tile_at tiles v) v) (map (waits tiles) ps) ≡ map (waits tiles) (map (closer tiles v) ps)
map-nearer tiles v [] = refl
map-nearer tiles v (p ∷ ps) =
    ap (λ (w : Waiting). w ∷ map (nearer (tile_at tiles v) v) (map (waits tiles) ps)) (nearer-closer tiles v p) ∙
    ap (λ (ws : List Waiting). waits tiles (closer tiles v p) ∷ ws) (map-nearer tiles v ps)

remove-map : (tiles : List Tile) (ps : List Join) (at : ℕ) → remove (map (waits tiles) ps) at ≡ map (waits tiles) (remove ps at)
remove-map tiles [] zero = refl
remove-map tiles [] (suc at) = refl
remove-map tiles (p ∷ ps) zero = refl
remove-map tiles (p ∷ ps) (suc at) = ap (λ (ws : List Waiting). waits tiles p ∷ ws) (remove-map tiles ps at)

-- what waits, once a point has been joined and before it is offered
pub record IsWaiting (tiles : List Tile) (joins : List Join) (point : ℕ) (points : List Waiting) : Type 0 where
  pub inside : point < length tiles
  pub offered : map (nearer (tile_at tiles point) point) points ≡ map (waits tiles) (first_pairs tiles joins)
  pub rest : joins_after (length points) tiles joins ≡ joins_of tiles

length-remove : (points : List Waiting) (at : ℕ) → at < length points → length (remove points at) + 1 ≡ length points
length-remove [] at below = absurd (omega arith)
length-remove (w ∷ points) zero below = omega arith
length-remove (w ∷ points) (suc at) below = let e = length-remove points at (omega arith) in omega arith

-- the first of the points that wait is taken out and joined
pub turn : (tiles : List Tile) (joins longer : List Join) (point : ℕ) (points new left : List Waiting) (count first : ℕ) (next : Waiting) →
    IsWaiting tiles joins point points → new ≡ map (nearer (tile_at tiles point) point) points → count ≡ length new → IsFirst new count first →
    0 < length points → next ≡ get_or new first next → left ≡ remove new first → longer ≡ joins ++ pair next.point next.parent ∷ [] →
    IsWaiting tiles longer next.point left × (length left < length points)
turn tiles joins longer point points new left all first next waiting are whole is_first some is rest_is longer_is =
    let ps = first_pairs tiles joins in
    let e : Join = pair 0 0 in
    let shown : new ≡ map (waits tiles) ps = are ∙ waiting.offered in
    let size : length new ≡ length points = ap length are ∙ length-map points (nearer (tile_at tiles point) point) in
    let count : length new ≡ length ps = ap length shown ∙ length-map ps (waits tiles) in
    let below : first < length ps = (let h = is_first.inside (omega arith) in omega arith) in
    let p = get_or ps first e in
    let at : (i : ℕ) (x : Waiting) → i < length ps → get_or new i x ≡ waits tiles (get_or ps i e) = λ i x under.
    ap (λ (ws : List Waiting). get_or ws i x) shown ∙ get_or-map (waits tiles) ps i e x under in
    let here : next ≡ waits tiles p = is ∙ at first next below in
    let span_is : (i : ℕ) → i < length ps → span_at new i ≡ span tiles (get_or ps i e) = λ i under. ap (λ (x : Waiting). x.span) (at i (waiting_in 0 (0, 0) 0 0) under) in
    let before : (i : ℕ) → i < first → span tiles p < span tiles (get_or ps i e) = λ i under.
    (let h = is_first.before i under in let x = span_is i (omega arith) in let y = span_is first below in omega arith) in
    let least : (i : ℕ) → i < length ps → span tiles p ≤ span tiles (get_or ps i e) = λ i under.
    (let h = is_first.least i (omega arith) in let x = span_is i under in let y = span_is first below in omega arith) in
    let soon : soonest tiles (open_pairs tiles joins) ≡ Some p =
    sym (firsts-soonest tiles joins (length tiles) 0) ∙ soonest-at tiles e ps first 0 (firsts-rising tiles joins (length tiles) 0) below before least in
    let opens = next-open tiles joins p soon in
    let others = remove new first in
    let fewer = length-remove new first (omega arith) in
    let fewer_left = ap length rest_is in
    let pairs : map (nearer (tile_at tiles p.point) p.point) others ≡ map (waits tiles) (first_pairs tiles (joins ++ p ∷ [])) =
    ap (λ (ws : List Waiting). map (nearer (tile_at tiles p.point) p.point) (remove ws first)) shown ∙
    ap (map (nearer (tile_at tiles p.point) p.point)) (remove-map tiles ps first) ∙
    map-nearer tiles p.point (remove ps first) ∙
    sym (ap (map (waits tiles)) (firsts-joined tiles joins p e opens (length tiles) 0 first below refl)) in
    let more : suc (length others) ≡ length points = omega arith in
    let rest : joins_after (length others) tiles (joins ++ p ∷ []) ≡ joins_of tiles =
    sym (joins_after-more (length others) tiles joins p soon) ∙ ap (λ (n : ℕ). joins_after n tiles joins) more ∙ waiting.rest in
    let by_pair : IsWaiting tiles (joins ++ p ∷ []) p.point others = record { inside = opens.inside; offered = pairs; rest = rest } in
    let by_next : IsWaiting tiles (joins ++ pair next.point next.parent ∷ []) next.point others =
    subst (λ (w : Waiting). IsWaiting tiles (joins ++ pair w.point w.parent ∷ []) w.point others) (sym here) by_pair in (
      subst (λ (js : List Join). IsWaiting tiles js next.point left) (sym longer_is)
          (subst (λ (ws : List Waiting). IsWaiting tiles (joins ++ pair next.point next.parent ∷ []) next.point ws) (sym rest_is) by_next),
      omega arith,
    )

-- at first each point but point 0 waits
pairs_up : (n a : ℕ) → filter_map (λ o. o) (map (λ v. Some (pair v 0)) (range_with_len a n)) ≡ map (λ v. pair v 0) (range_with_len a n)
pairs_up zero a = refl
pairs_up (suc n) a = ap (λ (ps : List Join). pair a 0 ∷ ps) (pairs_up n (a + 1))

first_pairs-first : (tiles : List Tile) → 0 < length tiles → first_pairs tiles [] ≡ map (λ v. pair v 0) (range_with_len 1 (length tiles - 1))
first_pairs-first tiles some = ap (filter_map (λ o. o)) (nearest_pairs-first tiles some) ∙ pairs_up (length tiles - 1) 1

closer-same : (tiles : List Tile) (n a : ℕ) → map (closer tiles 0) (map (λ v. pair v 0) (range_with_len a n)) ≡ map (λ v. pair v 0) (range_with_len a n)
closer-same tiles zero a = refl
closer-same tiles (suc n) a =
    let s = span tiles (pair a 0) in
    let test : is_before tiles (pair a 0) (pair a 0) ≡ false = by_same s s (by_number a a (nat_lt 0 0)) refl ∙ by_same a a (nat_lt 0 0) refl in
    let head : closer tiles 0 (pair a 0) ≡ pair a 0 = rw test refl in
    ap (λ (p : Join). p ∷ map (closer tiles 0) (map (λ v. pair v 0) (range_with_len (a + 1) n))) head ∙
    ap (λ (ps : List Join). pair a 0 ∷ ps) (closer-same tiles n (a + 1))

pub waiting-push : (tiles : List Tile) (n j : ℕ) → 1 ≤ j → n ≡ j →
    map (λ v. waits tiles (pair v 0)) (range_with_len 1 (j - 1)) ++ waits tiles (pair n 0) ∷ [] ≡ map (λ v. waits tiles (pair v 0)) (range_with_len 1 (j + 1 - 1))
waiting-push tiles n j above is =
    let f : ℕ → Waiting = λ v. waits tiles (pair v 0) in
    let more : map f (range_with_len 1 (j - 1 + 1)) ≡ map f (range_with_len 1 (j - 1)) ++ f n ∷ [] = map-range_with_len_more f 1 (j - 1) n (omega arith) in
    let size : j - 1 + 1 ≡ j + 1 - 1 = omega arith in
    sym more ∙ ap (λ (m : ℕ). map f (range_with_len 1 m)) size

pub waiting-all : (tiles : List Tile) → 0 < length tiles →
    map (λ v. waits tiles (pair v 0)) (range_with_len 1 (length tiles - 1)) ≡ map (waits tiles) (first_pairs tiles [])
waiting-all tiles some =
    sym (map-map (waits tiles) (λ v. pair v 0) (range_with_len 1 (length tiles - 1))) ∙ sym (ap (map (waits tiles)) (first_pairs-first tiles some))

pub waiting-first : (tiles : List Tile) (joins : List Join) (points : List Waiting) → 0 < length tiles → joins ≡ [] →
    points ≡ map (waits tiles) (first_pairs tiles []) → IsWaiting tiles joins 0 points
waiting-first tiles joins points some none are =
    let J : List Join → Type 0 = λ js. IsWaiting tiles js 0 points in
    let ps = first_pairs tiles [] in
    let n = length tiles - 1 in
    let all = first_pairs-first tiles some in
    let size : length points ≡ n =
    ap length are ∙ length-map ps (waits tiles) ∙ ap length all ∙ length-map-range_with_len (λ v. pair v 0) 1 n in
    subst J (sym none) (record {
      inside = some;
      offered = ap (map (nearer (tile_at tiles 0) 0)) are ∙ map-nearer tiles 0 ps ∙
          ap (map (waits tiles)) (ap (map (closer tiles 0)) all ∙ closer-same tiles n 1 ∙ sym all);
      rest = ap (λ (m : ℕ). joins_after m tiles []) size;
    })

pub waiting-done : (tiles : List Tile) (joins : List Join) (point : ℕ) (points : List Waiting) → IsWaiting tiles joins point points → length points ≡ 0 →
    joins ≡ joins_of tiles
unfolding joins_after
waiting-done tiles joins point points waiting none = sym (ap (λ (n : ℕ). joins_after n tiles joins) none) ∙ waiting.rest
