-- The topology of three tiles is as short as any tree that joins them.
use Rattle.std.proofs.Common.{◌≡◌, ℕ, zero, suc, ◌+◌, ◌-◌, ◌<◌, ◌≤◌, ◌⊎◌, inl, inr, min, max, Bool, true, false, ◌||◌, ◌==◌, Option, Some, None, List, [], ◌∷◌, ◌++◌, length, fold, refl, sym, ap, subst, ◌∙◌, arith}
use Rattle.std.proofs.lemmas.Bool.{cases_eq, cases_Bool, true≢false}
use Rattle.std.proofs.lemmas.Bool.Decides.{nat_tests}
use Rattle.steiner_topology.specs.declared.point.Join.{Join}
use Rattle.steiner_topology.specs.declared.point.Point.{Point}
use Rattle.gr_base.specs.Grid.{gap}
use Rattle.steiner_topology.specs.Tile.{Tile, distance, middle, tile_at}
use Rattle.steiner_topology.specs.Joins.{pair, soonest, is_joined, open_pairs, joins_after, joins_of}
use Rattle.steiner_topology.specs.Topology.{loose_points, with_pair, is_neighbour, saving, handled, topology_of, wirelength}
use Rattle.steiner_topology.specs.Spanning.{Reaches, begin, Spans, IsTopology, IsLeast, total_span}
use Rattle.steiner_topology.proofs.MedianLemmas.{spread, half_round, meets-round, distance-sym}
use Rattle.steiner_topology.proofs.JoinLemmas.{IsOpen, next-open, next-none, joins_after-more}
use Rattle.steiner_topology.proofs.Order.{same_pair}
use Rattle.steiner_topology.proofs.TreeLemmas.{handled-tree}
use Rattle.steiner_topology.proofs.PrimLemmas.{prim_points-tree}
use Rattle.steiner_topology.proofs.SpanningLemmas.{without, exit, reaches-without, true_to, span-ends}

-- a box of tiles
record Box : Type 0 where
  west : ℕ
  east : ℕ
  south : ℕ
  north : ℕ

record IsIn (box : Box) (t : Tile) : Type 0 where
  west : box.west ≤ t.0
  east : t.0 ≤ box.east
  south : box.south ≤ t.1
  north : t.1 ≤ box.north

-- half the length round a box
abbrev half : Box → ℕ
half box = (box.east - box.west) + (box.north - box.south)

-- the box with one tile more
abbrev wider : Box → Tile → Box
wider box t = record { west = min box.west t.0; east = max box.east t.0; south = min box.south t.1; north = max box.north t.1 }

wider-old : (box : Box) (t u : Tile) → IsIn box u → IsIn (wider box t) u
wider-old box t u inside =
    let a = inside.west in let b = inside.east in let c = inside.south in let d = inside.north in
    record { west = omega arith; east = omega arith; south = omega arith; north = omega arith }

wider-new : (box : Box) (t : Tile) → IsIn (wider box t) t
wider-new box t = record { west = omega arith; east = omega arith; south = omega arith; north = omega arith }

wider_by : (low high x y : ℕ) → low ≤ x → x ≤ high → max high y - min low y ≤ high - low + gap y x
wider_by low high x y a b = omega arith

add_up : (a b c d x y : ℕ) → a ≤ c + x → b ≤ d + y → a + b ≤ c + d + (x + y)
add_up a b c d x y h k = omega arith

half-wider : (box : Box) (t u : Tile) → IsIn box u → half (wider box t) ≤ half box + distance t u
half-wider box t u inside =
    let x = wider_by box.west box.east u.0 t.0 inside.west inside.east in
    let y = wider_by box.south box.north u.1 t.1 inside.south inside.north in
    add_up (max box.east t.0 - min box.west t.0) (max box.north t.1 - min box.south t.1) (box.east - box.west) (box.north - box.south) (gap t.0 u.0) (gap t.1 u.1) x y

-- a box round three tiles
record Covers (tiles : List Tile) (a b c most : ℕ) : Type 0 where
  box : Box
  first : IsIn box (tile_at tiles a)
  second : IsIn box (tile_at tiles b)
  third : IsIn box (tile_at tiles c)
  small : half box ≤ most

covers-le : (tiles : List Tile) (a b c most more : ℕ) → most ≤ more → Covers tiles a b c most → Covers tiles a b c more
covers-le tiles a b c most more le covers =
    let small = covers.small in
    record { box = covers.box; first = covers.first; second = covers.second; third = covers.third; small = omega arith }

-- all sources lie in the box
abbrev Holds : List Tile → (ℕ → Bool) → Box → Type 0
Holds tiles from box = (v : ℕ) → from v ≡ true → IsIn box (tile_at tiles v)

-- what is owed for fewer edges
abbrev CoversFor : ℕ → Type 0
CoversFor n = (tiles : List Tile) (edges : List Join) (from : ℕ → Bool) (box : Box) (a b c : ℕ) → length edges ≡ n → Holds tiles from box →
    Reaches edges from a → Reaches edges from b → Reaches edges from c → Covers tiles a b c (half box + total_span tiles edges)

either-left : (p q : Bool) → p ≡ true → (p || q) ≡ true
either-left p q holds = grind (arith, nat_tests)

either-right : (p : Bool) (v : ℕ) → (p || (v == v)) ≡ true
either-right p v = grind (arith, nat_tests)

either : (p : Bool) (v w : ℕ) → (p || (v == w)) ≡ true → (p ≡ true) ⊎ (v ≡ w)
either p v w holds = elim (cases_eq v w) [ inl is ↦ inr is | inr other ↦ inl (grind (arith, nat_tests)) ]

-- a point outside of the sources is reached over an edge that leads out, which the box grows by
covers-out : (n : ℕ) → CoversFor n → (tiles : List Tile) (edges : List Join) (from : ℕ → Bool) (box : Box) (a b c v : ℕ) → length edges ≡ suc n → Holds tiles from box →
    Reaches edges from a → Reaches edges from b → Reaches edges from c → Reaches edges from v → from v ≡ false →
    Covers tiles a b c (half box + total_span tiles edges)
covers-out n fewer tiles edges from box a b c v size holds a_reached b_reached c_reached reached out =
    let way = exit edges from v reached out in
    let left = without edges way.edge way.listed in
    let rest = left.0 in
    let less = left.1 in
    let less_size = less.size in
    let further : ℕ → Bool = λ w. from w || (w == way.outer) in
    let more : (w : ℕ) → from w ≡ true → further w ≡ true = λ w in_from. either-left (from w) (w == way.outer) in_from in
    let inner : Reaches rest further way.inner = begin way.inner (true_to (further way.inner) (more way.inner way.inner_in)) in
    let outer : Reaches rest further way.outer = begin way.outer (true_to (further way.outer) (either-right (from way.outer) way.outer)) in
    let still : (w : ℕ) → Reaches edges from w → Reaches rest further w =
    reaches-without edges rest way.edge from further way.inner way.outer less.kept way.ends inner outer more in
    let t = tile_at tiles way.outer in
    let grown = wider box t in
    let all : Holds tiles further grown = λ w source. elim (either (from w) w way.outer source) [
      | inl was ↦ wider-old box t (tile_at tiles w) (holds w was)
      | inr is ↦ let I : ℕ → Type 0 = λ n. IsIn grown (tile_at tiles n) in subst I (sym is) (wider-new box t)
    ] in
    let found = fewer tiles rest further grown a b c (omega arith) all (still a a_reached) (still b b_reached) (still c c_reached) in
    let grows = half-wider box t (tile_at tiles way.inner) (holds way.inner way.inner_in) in
    let same = span-ends tiles way.edge way.inner way.outer way.ends in
    let total = less.total tiles in
    covers-le tiles a b c (half grown + total_span tiles rest) (half box + total_span tiles edges) (omega (arith, grows, same, total)) found

-- edges that reach three points from sources in a box are as long as the box has to grow
covers-all : (n : ℕ) → CoversFor n
covers-all zero tiles edges from box a b c size holds a_reached b_reached c_reached =
    let inside : (v : ℕ) → Reaches edges from v → from v ≡ true = λ v reached. elim (cases_Bool (from v)) [
      | inl is ↦ is
      | inr out ↦ let way = exit edges from v reached out in let below = way.listed.1 in absurd (omega arith)
    ] in
    record {
      box = box;
      first = holds a (inside a a_reached);
      second = holds b (inside b b_reached);
      third = holds c (inside c c_reached);
      small = omega arith;
    }
covers-all (suc n) tiles edges from box a b c size holds a_reached b_reached c_reached = elim (cases_Bool (from a)) [
  | inr out ↦ covers-out n (covers-all n) tiles edges from box a b c a size holds a_reached b_reached c_reached a_reached out
  | inl a_in ↦ elim (cases_Bool (from b)) [
    | inr out ↦ covers-out n (covers-all n) tiles edges from box a b c b size holds a_reached b_reached c_reached b_reached out
    | inl b_in ↦ elim (cases_Bool (from c)) [
      | inr out ↦ covers-out n (covers-all n) tiles edges from box a b c c size holds a_reached b_reached c_reached c_reached out
      | inl c_in ↦ record { box = box; first = holds a a_in; second = holds b b_in; third = holds c c_in; small = omega arith }
    ]
  ]
]

-- a box round three tiles is at least as wide and as high as they spread
spread-inside : (low high a b c : ℕ) → low ≤ a → low ≤ b → low ≤ c → a ≤ high → b ≤ high → c ≤ high → spread a b c ≤ high - low
spread-inside low high a b c la lb lc ha hb hc =
    let m : max a (max b c) ≤ high = omega arith in
    let n : low ≤ min a (min b c) = omega arith in
    omega arith

bounded : (x y w h none total : ℕ) → x ≤ w → y ≤ h → w + h ≤ none + total → none ≡ 0 → x + y ≤ total
bounded x y w h none total x_in y_in small nothing = omega arith

-- edges that join tiles are no shorter than half the length round any three of them
pub spans-round : (tiles : List Tile) (edges : List Join) (a b c : ℕ) → Spans tiles edges → a < length tiles → b < length tiles → c < length tiles →
    half_round (tile_at tiles a) (tile_at tiles b) (tile_at tiles c) ≤ total_span tiles edges
spans-round tiles edges a b c spans a_in b_in c_in =
    let t = tile_at tiles 0 in
    let box : Box = record { west = t.0; east = t.0; south = t.1; north = t.1 } in
    let self : IsIn box t = record { west = omega arith; east = omega arith; south = omega arith; north = omega arith } in
    let holds : Holds tiles (λ u. u == 0) box = λ v source.
    let I : ℕ → Type 0 = λ n. IsIn box (tile_at tiles n) in
    let is : v ≡ 0 = grind (arith, nat_tests) in
    subst I (sym is) self in
    let found = covers-all (length edges) tiles edges (λ u. u == 0) box a b c refl holds (spans.reached a a_in) (spans.reached b b_in) (spans.reached c c_in) in
    let p = found.first in
    let q = found.second in
    let r = found.third in
    let x = spread-inside found.box.west found.box.east (tile_at tiles a).0 (tile_at tiles b).0 (tile_at tiles c).0 p.west q.west r.west p.east q.east r.east in
    let y = spread-inside found.box.south found.box.north (tile_at tiles a).1 (tile_at tiles b).1 (tile_at tiles c).1 p.south q.south r.south p.north q.north r.north in
    let small = found.small in
    let nothing : half box ≡ 0 = omega arith in
    bounded (spread (tile_at tiles a).0 (tile_at tiles b).0 (tile_at tiles c).0) (spread (tile_at tiles a).1 (tile_at tiles b).1 (tile_at tiles c).1)
    (found.box.east - found.box.west) (found.box.north - found.box.south) (half box) (total_span tiles edges) x y small nothing

-- the order of three numbers doesn't matter to their spread
spread_first : (a b c : ℕ) → spread b a c ≡ spread a b c
spread_first a b c =
    let high : max b (max a c) ≡ max a (max b c) = omega arith in
    let low : min b (min a c) ≡ min a (min b c) = omega arith in
    ap (λ (n : ℕ). n - min b (min a c)) high ∙ ap (λ (n : ℕ). max a (max b c) - n) low

spread_last : (a b c : ℕ) → spread a c b ≡ spread a b c
spread_last a b c =
    let high : max a (max c b) ≡ max a (max b c) = omega arith in
    let low : min a (min c b) ≡ min a (min b c) = omega arith in
    ap (λ (n : ℕ). n - min a (min c b)) high ∙ ap (λ (n : ℕ). max a (max b c) - n) low

sums : (a b c d : ℕ) → a ≡ c → b ≡ d → a + b ≡ c + d
sums a b c d h k = omega arith

round_first : (a b c : Tile) → half_round b a c ≡ half_round a b c
round_first a b c = sums (spread b.0 a.0 c.0) (spread b.1 a.1 c.1) (spread a.0 b.0 c.0) (spread a.1 b.1 c.1) (spread_first a.0 b.0 c.0) (spread_first a.1 b.1 c.1)

round_last : (a b c : Tile) → half_round a c b ≡ half_round a b c
round_last a b c = sums (spread a.0 c.0 b.0) (spread a.1 c.1 b.1) (spread a.0 b.0 c.0) (spread a.1 b.1 c.1) (spread_last a.0 b.0 c.0) (spread_last a.1 b.1 c.1)

-- Prim's points by the joins
abbrev points_by : List Tile → List Join → List Point
points_by tiles joins = fold with_pair (loose_points tiles) joins

tree_by : (tiles : List Tile) (joins : List Join) → 0 < length tiles → joins_of tiles ≡ joins → IsTopology (points_by tiles joins)
tree_by tiles joins some are =
    let T : List Join → Type 0 = λ xs. IsTopology (points_by tiles xs) in
    let prim = prim_points-tree tiles some in
    subst T are prim.tree

topology_by : (tiles : List Tile) (joins : List Join) → joins_of tiles ≡ joins → topology_of tiles ≡ fold handled (points_by tiles joins) joins
unfolding topology_of
topology_by tiles joins are = ap (λ (xs : List Join). fold handled (points_by tiles xs) xs) are

no_way : (t : Tile) → distance t t ≡ 0
no_way t = omega arith

no_more : (a : ℕ) {b c : ℕ} → a ≤ b → b ≡ c → a ≤ c
no_more a ab bc = omega arith

-- what is left after the second join is handled
last_turned : (tiles : List Tile) (p q : Join) (bound : ℕ) → joins_of tiles ≡ p ∷ q ∷ [] →
    wirelength (handled (handled (points_by tiles (p ∷ q ∷ [])) p) q) ≤ bound → wirelength (topology_of tiles) ≤ bound
last_turned tiles p q bound are small =
    let W : ℕ → Type 0 = λ n. n ≤ bound in
    subst W (sym (ap wirelength (topology_by tiles (p ∷ q ∷ []) are))) small

-- two points that hang on one share what they can once the first is handled
turned : (points : List Point) (p : Join) (k : ℕ) (a b c : Tile) → IsTopology points → p.point < length points → 0 < p.point →
    k < length points → is_neighbour points p.point k ≡ true → saving points p.point k ≡ distance b (middle a b c) →
    wirelength points ≡ distance b b + distance a b + distance c b → wirelength (handled points p) ≤ half_round a b c
turned points p k a b c tree inside above near neighbour saved wires =
    let done = handled-tree points p tree inside above in
    let saves = done.saves k near neighbour in
    let round = meets-round a b c in
    let nothing = no_way b in
    omega (arith, wires, saves, saved, round, nothing)

-- to handle the second join too makes nothing longer
both_turned : (tiles : List Tile) (p q : Join) (bound : ℕ) → joins_of tiles ≡ p ∷ q ∷ [] → 0 < length tiles →
    p.point < length (points_by tiles (p ∷ q ∷ [])) → 0 < p.point →
    q.point < length (points_by tiles (p ∷ q ∷ [])) → 0 < q.point →
    wirelength (handled (points_by tiles (p ∷ q ∷ [])) p) ≤ bound → wirelength (topology_of tiles) ≤ bound
both_turned tiles p q bound are some p_in p_above q_in q_above small =
    let points = points_by tiles (p ∷ q ∷ []) in
    let first = handled-tree points p (tree_by tiles (p ∷ q ∷ []) some are) p_in p_above in
    let many = first.many in
    let second = handled-tree (handled points p) q first.tree (omega arith) q_above in
    let shorter = second.shorter in
    last_turned tiles p q bound are (omega arith)

swapped : (w z x y : ℕ) → w ≡ 0 + z + x + y → w ≡ z + y + x
swapped w z x y is = omega arith

straight : (w z x y : ℕ) → w ≡ 0 + z + x + y → w ≡ z + x + y
straight w z x y is = omega arith

swapped-sum : (w z x y : ℕ) → w ≡ 0 + z + x + y → w ≡ 0 + z + y + x
swapped-sum w z x y is = omega arith

chained : (w z x y z' y' : ℕ) → w ≡ 0 + z + x + y → z ≡ 0 → z' ≡ 0 → y ≡ y' → w ≡ z' + x + y'
chained w z x y z' y' is none none' same = omega arith

-- both hang on point 0
star : (t0 t1 t2 : Tile) → joins_of (t0 ∷ t1 ∷ t2 ∷ []) ≡ pair 1 0 ∷ pair 2 0 ∷ [] → wirelength (topology_of (t0 ∷ t1 ∷ t2 ∷ [])) ≤ half_round t0 t1 t2
star t0 t1 t2 are =
    let tiles : List Tile = t0 ∷ t1 ∷ t2 ∷ [] in
    let points = points_by tiles (pair 1 0 ∷ pair 2 0 ∷ []) in
    let tree = tree_by tiles (pair 1 0 ∷ pair 2 0 ∷ []) (omega arith) are in
    let wires = straight (wirelength points) (distance t0 t0) (distance t1 t0) (distance t2 t0) refl in
    let first = turned points (pair 1 0) 2 t1 t0 t2 tree (omega arith) (omega arith) (omega arith) refl refl wires in
    both_turned tiles (pair 1 0) (pair 2 0) (half_round t0 t1 t2) are (omega arith) (omega arith) (omega arith) (omega arith) (omega arith)
    (no_more (wirelength (handled points (pair 1 0))) first (round_first t0 t1 t2))

star_back : (t0 t1 t2 : Tile) → joins_of (t0 ∷ t1 ∷ t2 ∷ []) ≡ pair 2 0 ∷ pair 1 0 ∷ [] → wirelength (topology_of (t0 ∷ t1 ∷ t2 ∷ [])) ≤ half_round t0 t1 t2
star_back t0 t1 t2 are =
    let points = points_by (t0 ∷ t1 ∷ t2 ∷ []) (pair 2 0 ∷ pair 1 0 ∷ []) in
    let first = turned points (pair 2 0) 1 t2 t0 t1 (tree_by (t0 ∷ t1 ∷ t2 ∷ []) (pair 2 0 ∷ pair 1 0 ∷ []) (omega arith) are)
    (omega arith) (omega arith) (omega arith) refl refl (swapped (wirelength points) (distance t0 t0) (distance t1 t0) (distance t2 t0) refl) in
    both_turned (t0 ∷ t1 ∷ t2 ∷ []) (pair 2 0) (pair 1 0) (half_round t0 t1 t2) are (omega arith) (omega arith) (omega arith) (omega arith) (omega arith)
    (no_more (wirelength (handled points (pair 2 0))) first (round_first t0 t2 t1 ∙ round_last t0 t1 t2))

-- one hangs on the other
chain : (t0 t1 t2 : Tile) → joins_of (t0 ∷ t1 ∷ t2 ∷ []) ≡ pair 1 0 ∷ pair 2 1 ∷ [] → wirelength (topology_of (t0 ∷ t1 ∷ t2 ∷ [])) ≤ half_round t0 t1 t2
chain t0 t1 t2 are =
    let tiles : List Tile = t0 ∷ t1 ∷ t2 ∷ [] in
    let points = points_by tiles (pair 1 0 ∷ pair 2 1 ∷ []) in
    let tree = tree_by tiles (pair 1 0 ∷ pair 2 1 ∷ []) (omega arith) are in
    let wires = chained (wirelength points) (distance t0 t0) (distance t2 t1) (distance t1 t0) (distance t1 t1) (distance t0 t1)
    (swapped-sum (wirelength points) (distance t0 t0) (distance t1 t0) (distance t2 t1) refl) (no_way t0) (no_way t1) (distance-sym t1 t0) in
    let second = turned points (pair 2 1) 0 t2 t1 t0 tree (omega arith) (omega arith) (omega arith) refl refl wires in
    last_turned tiles (pair 1 0) (pair 2 1) (half_round t0 t1 t2) are
    (no_more (wirelength (handled points (pair 2 1))) second (round_last t2 t0 t1 ∙ round_first t0 t2 t1 ∙ round_last t0 t1 t2))

chain_back : (t0 t1 t2 : Tile) → joins_of (t0 ∷ t1 ∷ t2 ∷ []) ≡ pair 2 0 ∷ pair 1 2 ∷ [] → wirelength (topology_of (t0 ∷ t1 ∷ t2 ∷ [])) ≤ half_round t0 t1 t2
chain_back t0 t1 t2 are =
    let points = points_by (t0 ∷ t1 ∷ t2 ∷ []) (pair 2 0 ∷ pair 1 2 ∷ []) in
    let wires = chained (wirelength points) (distance t0 t0) (distance t1 t2) (distance t2 t0) (distance t2 t2) (distance t0 t2)
    refl (no_way t0) (no_way t2) (distance-sym t2 t0) in
    let second = turned points (pair 1 2) 0 t1 t2 t0 (tree_by (t0 ∷ t1 ∷ t2 ∷ []) (pair 2 0 ∷ pair 1 2 ∷ []) (omega arith) are)
    (omega arith) (omega arith) (omega arith) refl refl wires in
    last_turned (t0 ∷ t1 ∷ t2 ∷ []) (pair 2 0) (pair 1 2) (half_round t0 t1 t2) are
    (no_more (wirelength (handled points (pair 1 2))) second (round_last t1 t0 t2 ∙ round_first t0 t1 t2))

-- what the two joins can be
abbrev Are : (a b c d x y z w : ℕ) → Type 0
Are a b c d x y z w = (a ≡ x) × (b ≡ y) × (c ≡ z) × (d ≡ w)

shape_of : (a b c d : ℕ) → a < 3 → is_joined [] a ≡ false → is_joined [] b ≡ true → c < 3 → is_joined (pair a b ∷ []) c ≡ false → is_joined (pair a b ∷ []) d ≡ true →
    Are a b c d 1 0 2 0 ⊎ (Are a b c d 2 0 1 0 ⊎ (Are a b c d 1 0 2 1 ⊎ Are a b c d 2 0 1 2))
shape_of a b c d a_in a_out b_in c_in c_out d_in =
    let a_above : 0 < a = grind (arith, nat_tests) in
    let b_zero : b ≡ 0 = grind (arith, nat_tests) in
    let c_above : 0 < c = grind (arith, nat_tests) in
    let c_other : c ≡ a → ⊥ = λ is. grind (arith, nat_tests) in
    elim (cases_eq a 1) [
      | inl one ↦
          let two : c ≡ 2 = elim (cases_eq c 2) [ inl is ↦ is | inr no2 ↦ absurd (c_other (omega arith)) ] in
          elim (cases_eq d 0) [
            | inl zero_d ↦ inl (one, b_zero, two, zero_d)
            | inr other ↦ let is : d ≡ 1 = grind (arith, nat_tests) in inr (inr (inl (one, b_zero, two, is)))
          ]
      | inr other_a ↦
          let two : a ≡ 2 = omega arith in
          let one : c ≡ 1 = elim (cases_eq c 1) [ inl is ↦ is | inr no1 ↦ absurd (c_other (omega arith)) ] in
          elim (cases_eq d 0) [
            | inl zero_d ↦ inr (inl (two, b_zero, one, zero_d))
            | inr other ↦ let is : d ≡ 2 = grind (arith, nat_tests) in inr (inr (inr (two, b_zero, one, is)))
          ]
    ]

-- the two joins of three tiles
record Two (tiles : List Tile) : Type 0 where
  p : Join
  q : Join
  are : joins_of tiles ≡ p ∷ q ∷ []
  p_open : IsOpen tiles [] p
  q_open : IsOpen tiles (p ∷ []) q

not_all : (p : Join) → is_joined (p ∷ []) 1 ≡ true → is_joined (p ∷ []) 2 ≡ true → ⊥
not_all p one_in two_in = grind (arith, nat_tests)

second_of : (tiles : List Tile) (p : Join) (o : Option Join) → length tiles ≡ 3 → soonest tiles (open_pairs tiles []) ≡ Some p →
    soonest tiles (open_pairs tiles (p ∷ [])) ≡ o → Two tiles
unfolding joins_after
second_of tiles p None size first is =
    absurd (not_all p (next-none tiles (p ∷ []) 1 (omega arith) is) (next-none tiles (p ∷ []) 2 (omega arith) is))
second_of tiles p (Some q) size first is = record {
  p = p;
  q = q;
  are =
      ap (λ (n : ℕ). joins_after (n - 1) tiles []) size ∙ joins_after-more 1 tiles [] p first ∙ joins_after-more 0 tiles (p ∷ []) q is;
  p_open = next-open tiles [] p first;
  q_open = next-open tiles (p ∷ []) q is;
}

none_yet : is_joined [] 1 ≡ false
none_yet = refl

first_of : (tiles : List Tile) (o : Option Join) → length tiles ≡ 3 → soonest tiles (open_pairs tiles []) ≡ o → Two tiles
first_of tiles None size is = absurd (true≢false (sym (next-none tiles [] 1 (omega arith) is) ∙ none_yet))
first_of tiles (Some p) size is = second_of tiles p (soonest tiles (open_pairs tiles (p ∷ []))) size is refl

two : (t0 t1 t2 : Tile) → Two (t0 ∷ t1 ∷ t2 ∷ [])
unfolding joins_after
two t0 t1 t2 =
    let tiles : List Tile = t0 ∷ t1 ∷ t2 ∷ [] in
    first_of tiles (soonest tiles (open_pairs tiles [])) refl refl

pub topology_of-round : (t0 t1 t2 : Tile) → wirelength (topology_of (t0 ∷ t1 ∷ t2 ∷ [])) ≤ half_round t0 t1 t2
topology_of-round t0 t1 t2 =
    let tiles : List Tile = t0 ∷ t1 ∷ t2 ∷ [] in
    let found = two t0 t1 t2 in
    let p = found.p in
    let q = found.q in
    let p_point = found.p_open.inside in
    let p_out = found.p_open.not_joined in
    let p_in = found.p_open.parent_joined in
    let q_point = found.q_open.inside in
    let q_out = found.q_open.not_joined in
    let q_in = found.q_open.parent_joined in
    let shape = shape_of p.point p.parent q.point q.parent p_point p_out p_in q_point q_out q_in in
    let joined_as : (a b c d : ℕ) → (p.point ≡ a) × (p.parent ≡ b) × (q.point ≡ c) × (q.parent ≡ d) → joins_of tiles ≡ pair a b ∷ pair c d ∷ [] =
    λ a b c d is. found.are ∙ ap (λ (x : Join). x ∷ q ∷ []) (same_pair p (pair a b) is.0 is.1) ∙
    ap (λ (x : Join). pair a b ∷ x ∷ []) (same_pair q (pair c d) is.2 is.3) in
    elim shape [
      | inl is ↦ star t0 t1 t2 (joined_as 1 0 2 0 is)
      | inr (inl is) ↦ star_back t0 t1 t2 (joined_as 2 0 1 0 is)
      | inr (inr (inl is)) ↦ chain t0 t1 t2 (joined_as 1 0 2 1 is)
      | inr (inr (inr is)) ↦ chain_back t0 t1 t2 (joined_as 2 0 1 2 is)
    ]

least_of : (tiles : List Tile) → length tiles ≡ 3 → (further : List Tile) (edges : List Join) → Spans (tiles ++ further) edges →
    wirelength (topology_of tiles) ≤ total_span (tiles ++ further) edges
least_of [] three further edges spans = absurd (omega arith)
least_of (t0 ∷ []) three further edges spans = absurd (omega arith)
least_of (t0 ∷ t1 ∷ []) three further edges spans = absurd (omega arith)
least_of (t0 ∷ t1 ∷ t2 ∷ []) three further edges spans =
    let all : List Tile = t0 ∷ t1 ∷ t2 ∷ further in
    let most = topology_of-round t0 t1 t2 in
    let least = spans-round all edges 0 1 2 spans (omega arith) (omega arith) (omega arith) in
    omega (arith, most, least)
least_of (t0 ∷ t1 ∷ t2 ∷ t3 ∷ tiles) three further edges spans = absurd (omega arith)

pub topology_of-least : (tiles : List Tile) → length tiles ≡ 3 → IsLeast tiles (topology_of tiles)
topology_of-least tiles three further edges spans = least_of tiles three further edges spans
