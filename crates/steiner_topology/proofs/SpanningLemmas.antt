-- Prim's tree is a shortest spanning tree.
use Rattle.std.proofs.Common.{◌≡◌, ℕ, zero, suc, ◌+◌, ◌-◌, ◌<◌, ◌≤◌, ◌⊎◌, inl, inr, Bool, true, false, ◌==◌, Option, Some, None, IfSome, List, [], ◌∷◌, ◌++◌, length, get_or, All, Contains, IsTrue, refl, sym, ap, subst, ◌∙◌, arith}
use Rattle.std.proofs.lemmas.Bool.{cases_eq, cases_Bool, true≢false}
use Rattle.std.proofs.lemmas.Bool.Decides.{nat_tests}
use Rattle.std.proofs.lemmas.List.{length-append}
use Rattle.std.proofs.lemmas.List.Elements.{All-contains, Contains-append_left, Contains-append_right, Contains-append_cases, Contains-push, Contains-get_or}
use Rattle.std.proofs.lemmas.List.Sums.{sum_by-cons, sum_by-append, sum_by_push}
use Rattle.steiner_topology.specs.declared.point.Join.{Join}
use Rattle.steiner_topology.specs.Tile.{Tile, distance, tile_at}
use Rattle.steiner_topology.specs.Joins.{pair, span, soonest, is_joined, open_pairs, with_join, joins_after, joins_of, AreInside}
use Rattle.steiner_topology.specs.Spanning.{Reaches, begin, step, Spans, total_span}
use Rattle.steiner_topology.proofs.MedianLemmas.{distance-sym}
use Rattle.steiner_topology.proofs.JoinLemmas.{IsOpen, next-if, next-least, is_joined-same, is_joined-other, joined-more, joins_of-inside, joins_of-joined}

pub true_from : (b : Bool) → IsTrue b → b ≡ true
true_from b holds = grind (arith, nat_tests)

pub true_to : (b : Bool) → b ≡ true → IsTrue b
true_to b is = grind (arith, nat_tests)

-- the ends of an edge
abbrev pub HasEnds : Join → ℕ → ℕ → Type 0
HasEnds e u v = ((e.point ≡ u) × (e.parent ≡ v)) ⊎ ((e.point ≡ v) × (e.parent ≡ u))

swap_ends : (e : Join) (u v : ℕ) → HasEnds e u v → HasEnds e v u
swap_ends e u v (inl h) = inr h
swap_ends e u v (inr h) = inl h

-- the edges without one of them
pub record Without (edges : List Join) (e : Join) (rest : List Join) : Type 0 where
  pub kept : (f : Join) → Contains edges f → Contains rest f ⊎ (f ≡ e)
  pub size : length edges ≡ length rest + 1
  pub total : (tiles : List Tile) → total_span tiles edges ≡ total_span tiles rest + span tiles e
  pub back : (f : Join) → Contains rest f → Contains edges f

split_at : (xs : List Join) (k : ℕ) (x : Join) → k < length xs → get_or xs k x ≡ x →
    (a : List Join) × (b : List Join) × (xs ≡ a ++ x ∷ b)
split_at [] k x below is = absurd (omega arith)
split_at (y ∷ xs) zero x below is = ([], xs, ap (λ (z : Join). z ∷ xs) is)
split_at (y ∷ xs) (suc k) x below is =
    let rest = split_at xs k x (omega arith) is in
    (y ∷ rest.0, rest.1, ap (λ (zs : List Join). y ∷ zs) rest.2)

contains-cons : (x f : Join) (xs : List Join) → Contains (x ∷ xs) f → (x ≡ f) ⊎ Contains xs f
contains-cons x f xs (zero, below, is) = inl is
contains-cons x f xs (suc k, below, is) = inr (k, omega arith, is)

contains-middle : (a b : List Join) (x f : Join) → Contains (a ++ x ∷ b) f → Contains (a ++ b) f ⊎ (f ≡ x)
contains-middle a b x f has = elim (Contains-append_cases a (x ∷ b) f has) [
  | inl left ↦ inl (Contains-append_left a b f left)
  | inr right ↦ elim (contains-cons x f b right) [
    | inl is ↦ inr (sym is)
    | inr later ↦ inl (Contains-append_right a b f later)
  ]
]

contains-wider : (a b : List Join) (x f : Join) → Contains (a ++ b) f → Contains (a ++ x ∷ b) f
contains-wider a b x f has = elim (Contains-append_cases a b f has) [
  | inl left ↦ Contains-append_left a (x ∷ b) f left
  | inr right ↦ Contains-append_right a (x ∷ b) f (suc right.0, (let below = right.1 in omega arith), right.2)
]

pub without : (edges : List Join) (e : Join) → Contains edges e → (rest : List Join) × Without edges e rest
without edges e has =
    let parts = split_at edges has.0 e has.1 has.2 in
    let a = parts.0 in
    let b = parts.1 in
    let is = parts.2 in
    let W : List Join → Type 0 = λ xs. Without xs e (a ++ b) in (
      a ++ b,
      subst W (sym is) (record {
        kept = λ f has. contains-middle a b e f has;
        size = let p = length-append a (e ∷ b) in let q = length-append a b in omega arith;
        total = λ tiles.
            let p = sum_by-append (span tiles) a (e ∷ b) in
            let q = sum_by-append (span tiles) a b in
            let r = sum_by-cons (span tiles) e b in
            omega arith;
        back = λ f has. contains-wider a b e f has;
      }),
    )

pub all-without : (P : Join → Type 0) (edges rest : List Join) (e : Join) → Without edges e rest → All P edges → All P rest
all-without P edges rest e less all = λ k d below.
    All-contains P edges (get_or rest k d) all (less.back (get_or rest k d) (Contains-get_or rest k d below))

-- more sources and more edges reach no less
pub reaches-more : (edges more : List Join) (from further : ℕ → Bool) → ((f : Join) → Contains edges f → Contains more f) →
    ((v : ℕ) → IsTrue (from v) → Reaches more further v) → (v : ℕ) → Reaches edges from v → Reaches more further v
reaches-more edges more from further kept begins _ (begin v source) = begins v source
reaches-more edges more from further kept begins _ (step u v reached edge) =
    step u v (reaches-more edges more from further kept begins u reached)
    (record { edge = edge.edge; listed = kept edge.edge edge.listed; ends = edge.ends })

-- an edge on the way from the sources to a point, from which on the way lies outside of them
pub record Exit (edges : List Join) (from : ℕ → Bool) (v : ℕ) : Type 0 where
  pub edge : Join
  pub listed : Contains edges edge
  pub inner : ℕ
  pub outer : ℕ
  pub ends : HasEnds edge inner outer
  pub inner_in : from inner ≡ true
  pub outer_out : from outer ≡ false
  pub outer_reached : Reaches edges from outer
  pub back : (rest : List Join) → ((f : Join) → Contains edges f → Contains rest f ⊎ (f ≡ edge)) →
      (further : ℕ → Bool) → Reaches rest further v → Reaches rest further outer

-- an edge outside isn't the one that leads out
not_exit : (e f : Join) (from : ℕ → Bool) (u v inner outer : ℕ) → HasEnds e u v → from u ≡ false → from v ≡ false → HasEnds f inner outer → from inner ≡ true → e ≡ f → ⊥
not_exit e f from u v inner outer (inl h) u_out v_out (inl k) inner_in is =
    true≢false (sym inner_in ∙ ap from (sym k.0 ∙ ap (λ (x : Join). x.point) (sym is) ∙ h.0) ∙ u_out)
not_exit e f from u v inner outer (inl h) u_out v_out (inr k) inner_in is =
    true≢false (sym inner_in ∙ ap from (sym k.1 ∙ ap (λ (x : Join). x.parent) (sym is) ∙ h.1) ∙ v_out)
not_exit e f from u v inner outer (inr h) u_out v_out (inl k) inner_in is =
    true≢false (sym inner_in ∙ ap from (sym k.0 ∙ ap (λ (x : Join). x.point) (sym is) ∙ h.0) ∙ v_out)
not_exit e f from u v inner outer (inr h) u_out v_out (inr k) inner_in is =
    true≢false (sym inner_in ∙ ap from (sym k.1 ∙ ap (λ (x : Join). x.parent) (sym is) ∙ h.1) ∙ u_out)

pub exit : (edges : List Join) (from : ℕ → Bool) (v : ℕ) → Reaches edges from v → from v ≡ false → Exit edges from v
exit edges from _ (begin v source) out = absurd (true≢false (sym (true_from (from v) source) ∙ out))
exit edges from _ (step u v reached edge) out = elim (cases_Bool (from u)) [
  | inl inside ↦ record {
    edge = edge.edge;
    listed = edge.listed;
    inner = u;
    outer = v;
    ends = edge.ends;
    inner_in = inside;
    outer_out = out;
    outer_reached = step u v reached edge;
    back = λ rest kept further again. again;
  }
  | inr outside ↦
      let before = exit edges from u reached outside in
      record {
        edge = before.edge;
        listed = before.listed;
        inner = before.inner;
        outer = before.outer;
        ends = before.ends;
        inner_in = before.inner_in;
        outer_out = before.outer_out;
        outer_reached = before.outer_reached;
        back = λ rest kept further again.
            before.back rest kept further (elim (kept edge.edge edge.listed) [
              | inl still ↦ step v u again (record { edge = edge.edge; listed = still; ends = swap_ends edge.edge u v edge.ends })
              | inr is ↦ absurd (not_exit edge.edge before.edge from u v before.inner before.outer edge.ends outside out before.ends before.inner_in is)
            ]);
      }
]

one_of_ends : (e f : Join) (u v inner outer : ℕ) → HasEnds e u v → HasEnds f inner outer → e ≡ f → (v ≡ inner) ⊎ (v ≡ outer)
one_of_ends e f u v inner outer (inl h) (inl k) is = inr (sym h.1 ∙ ap (λ (x : Join). x.parent) is ∙ k.1)
one_of_ends e f u v inner outer (inl h) (inr k) is = inl (sym h.1 ∙ ap (λ (x : Join). x.parent) is ∙ k.1)
one_of_ends e f u v inner outer (inr h) (inl k) is = inl (sym h.0 ∙ ap (λ (x : Join). x.point) is ∙ k.0)
one_of_ends e f u v inner outer (inr h) (inr k) is = inr (sym h.0 ∙ ap (λ (x : Join). x.point) is ∙ k.0)

-- without an edge whose ends are reached otherwise, the same is reached
pub reaches-without : (edges rest : List Join) (e : Join) (from further : ℕ → Bool) (inner outer : ℕ) →
    ((f : Join) → Contains edges f → Contains rest f ⊎ (f ≡ e)) → HasEnds e inner outer → Reaches rest further inner → Reaches rest further outer →
    ((v : ℕ) → from v ≡ true → further v ≡ true) → (v : ℕ) → Reaches edges from v → Reaches rest further v
reaches-without edges rest e from further inner outer kept ends inner_reached outer_reached more _ (begin v source) =
    begin v (true_to (further v) (more v (true_from (from v) source)))
reaches-without edges rest e from further inner outer kept ends inner_reached outer_reached more _ (step u v reached edge) =
    let before = reaches-without edges rest e from further inner outer kept ends inner_reached outer_reached more u reached in
    let R : ℕ → Type 0 = λ n. Reaches rest further n in
    elim (kept edge.edge edge.listed) [
      | inl still ↦ step u v before (record { edge = edge.edge; listed = still; ends = edge.ends })
      | inr is ↦ elim (one_of_ends edge.edge e u v inner outer edge.ends ends is) [
        | inl at ↦ subst R (sym at) inner_reached
        | inr at ↦ subst R (sym at) outer_reached
      ]
    ]

-- the outer end of the exit, or the point itself, may take the edge's place
pub record Exchange (edges : List Join) (from further : ℕ → Bool) (v : ℕ) : Type 0 where
  pub way_out : Exit edges from v
  pub rest : List Join
  pub less : Without edges way_out.edge rest
  pub reached : (w : ℕ) → Reaches edges from w → Reaches rest further w

pub exchange : (edges : List Join) (from further : ℕ → Bool) (v : ℕ) → Reaches edges from v → from v ≡ false →
    ((w : ℕ) → from w ≡ true → further w ≡ true) → further v ≡ true → Exchange edges from further v
exchange edges from further v reached out more own =
    let way = exit edges from v reached out in
    let left = without edges way.edge way.listed in
    let rest = left.0 in
    let kept = left.1.kept in
    let inner_reached : Reaches rest further way.inner = begin way.inner (true_to (further way.inner) (more way.inner way.inner_in)) in
    let outer_reached : Reaches rest further way.outer = way.back rest kept further (begin v (true_to (further v) own)) in
    record {
      way_out = way;
      rest = rest;
      less = left.1;
      reached = λ w was. reaches-without edges rest way.edge from further way.inner way.outer kept way.ends inner_reached outer_reached more w was;
    }

-- the two ends of an edge make a pair as long as the edge
pub span-ends : (tiles : List Tile) (e : Join) (inner outer : ℕ) → HasEnds e inner outer → span tiles e ≡ span tiles (pair outer inner)
span-ends tiles e inner outer (inl h) =
    ap (λ (n : ℕ). distance (tile_at tiles n) (tile_at tiles e.parent)) h.0 ∙
    ap (λ (n : ℕ). distance (tile_at tiles inner) (tile_at tiles n)) h.1 ∙
    distance-sym (tile_at tiles inner) (tile_at tiles outer)
span-ends tiles e inner outer (inr h) =
    ap (λ (n : ℕ). distance (tile_at tiles n) (tile_at tiles e.parent)) h.0 ∙
    ap (λ (n : ℕ). distance (tile_at tiles outer) (tile_at tiles n)) h.1

ends-inside : (tiles : List Tile) (e : Join) (inner outer : ℕ) → HasEnds e inner outer → AreInside tiles e → (inner < length tiles) × (outer < length tiles)
ends-inside tiles e inner outer (inl h) inside = let p = h.0 in let q = h.1 in let a = inside.0 in let b = inside.1 in (omega arith, omega arith)
ends-inside tiles e inner outer (inr h) inside = let p = h.0 in let q = h.1 in let a = inside.0 in let b = inside.1 in (omega arith, omega arith)

-- edges that join the points that aren't joined yet to those that are
abbrev Joined_by : List Tile → List Join → List Join → Type 0
Joined_by tiles joins edges = (v : ℕ) → v < length tiles → Reaches edges (λ u. is_joined joins u) v

least-next : (n : ℕ) (tiles : List Tile) (joins edges : List Join) (o : Option Join) → soonest tiles (open_pairs tiles joins) ≡ o → IfSome o (IsOpen tiles joins) →
    All (AreInside tiles) edges → Joined_by tiles joins edges →
    ((more fewer : List Join) → All (AreInside tiles) fewer → Joined_by tiles more fewer →
    total_span tiles (joins_after n tiles more) ≤ total_span tiles more + total_span tiles fewer) →
    total_span tiles (joins_after n tiles (with_join joins o)) ≤ total_span tiles joins + total_span tiles edges
least-next n tiles joins edges None is opens inside reached later = later joins edges inside reached
least-next n tiles joins edges (Some p) is opens inside reached later =
    let more = joins ++ p ∷ [] in
    let change = exchange edges (λ u. is_joined joins u) (λ u. is_joined more u) p.point (reached p.point opens.inside) opens.not_joined
    (λ w joined. joined-more joins p w joined) (is_joined-same joins p) in
    let way = change.way_out in
    let ends = ends-inside tiles way.edge way.inner way.outer way.ends (All-contains (AreInside tiles) edges way.edge inside way.listed) in
    let least = next-least tiles joins p (pair way.outer way.inner) is
    (record { inside = ends.1; not_joined = way.outer_out; parent_inside = ends.0; parent_joined = way.inner_in }) in
    let same = span-ends tiles way.edge way.inner way.outer way.ends in
    let total = change.less.total tiles in
    let longer = sum_by_push (span tiles) joins p in
    let rest = later more change.rest (all-without (AreInside tiles) edges change.rest way.edge change.less inside) (λ v below. change.reached v (reached v below)) in
    omega (arith, least, same, total, longer, rest)

-- Prim's further joins are no longer than any edges that join all
pub joins_after-least : (n : ℕ) (tiles : List Tile) (joins edges : List Join) → All (AreInside tiles) edges → Joined_by tiles joins edges →
    total_span tiles (joins_after n tiles joins) ≤ total_span tiles joins + total_span tiles edges
unfolding joins_after
joins_after-least zero tiles joins edges inside reached = omega arith
joins_after-least (suc n) tiles joins edges inside reached =
    least-next n tiles joins edges (soonest tiles (open_pairs tiles joins)) refl (next-if tiles joins) inside reached
    (λ more fewer all joined. joins_after-least n tiles more fewer all joined)

zero_joined : (u : ℕ) → IsTrue (u == 0) → IsTrue (is_joined [] u)
zero_joined u source = grind (arith, nat_tests)

joined_zero : (u : ℕ) → is_joined [] u ≡ true → IsTrue (u == 0)
joined_zero u joined = grind (arith, nat_tests)

-- no edges that join all tiles are shorter than Prim's tree
pub joins_of-least : (tiles : List Tile) (edges : List Join) → Spans tiles edges → total_span tiles (joins_of tiles) ≤ total_span tiles edges
joins_of-least tiles edges spans =
    let least = joins_after-least (length tiles - 1) tiles [] edges spans.inside
    (λ v below. reaches-more edges edges (λ u. u == 0) (λ u. is_joined [] u) (λ f has. has)
    (λ u source. begin u (zero_joined u source)) v (spans.reached v below)) in
    omega arith

-- each joined point is reached over the joins
abbrev AreReached : List Join → Type 0
AreReached joins = (v : ℕ) → is_joined joins v ≡ true → Reaches joins (λ u. u == 0) v

reached-next : (tiles : List Tile) (joins : List Join) (o : Option Join) → IfSome o (IsOpen tiles joins) → AreReached joins → AreReached (with_join joins o)
reached-next tiles joins None opens reached = reached
reached-next tiles joins (Some p) opens reached = λ v joined.
    let more = joins ++ p ∷ [] in
    let still : (w : ℕ) → is_joined joins w ≡ true → Reaches more (λ u. u == 0) w = λ w was.
    reaches-more joins more (λ u. u == 0) (λ u. u == 0) (λ f has. Contains-append_left joins (p ∷ []) f has) (λ u source. begin u source) w (reached w was) in
    let R : ℕ → Type 0 = λ n. Reaches more (λ u. u == 0) n in
    elim (cases_eq v p.point) [
      | inl is ↦
          subst R (sym is) (step p.parent p.point (still p.parent opens.parent_joined)
          (record { edge = p; listed = Contains-push joins p; ends = inr (refl, refl) }))
      | inr other ↦ still v (sym (is_joined-other joins p v other) ∙ joined)
    ]

reached-after : (n : ℕ) (tiles : List Tile) (joins : List Join) → AreReached joins → AreReached (joins_after n tiles joins)
unfolding joins_after
reached-after zero tiles joins reached = reached
reached-after (suc n) tiles joins reached =
    let next = soonest tiles (open_pairs tiles joins) in
    reached-after n tiles (with_join joins next) (reached-next tiles joins next (next-if tiles joins) reached)

-- Prim's tree joins all tiles
pub joins_of-spans : (tiles : List Tile) → Spans tiles (joins_of tiles)
joins_of-spans tiles = record {
  inside = joins_of-inside tiles;
  reached = λ v below. reached-after (length tiles - 1) tiles [] (λ w joined. begin w (joined_zero w joined)) v (joins_of-joined tiles v below);
}
