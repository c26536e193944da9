-- Prim's tree as points is a tree.
use Rattle.std.proofs.Common.{◌≡◌, ℕ, zero, suc, ◌-◌, ◌<◌, inl, inr, true, false, Option, Some, None, IfSome, List, [], ◌∷◌, ◌++◌, length, fold, get_or, All, sum_by, refl, sym, ap, subst, ◌∙◌, arith}
use Rattle.std.proofs.lemmas.Bool.{cases_eq, true≢false}
use Rattle.std.proofs.lemmas.Bool.Decides.{nat_tests}
use Rattle.std.proofs.lemmas.List.FromFn.{get_or-map-range_with_len}
use Rattle.std.proofs.lemmas.List.Elements.{All-head, All-tail, All-set, All-nil, All-from_get_or}
use Rattle.std.proofs.lemmas.List.Sums.{sum_by-cons, sum_by_push, fold_push}
use Rattle.steiner_topology.specs.declared.point.Join.{Join}
use Rattle.steiner_topology.specs.declared.point.Point.{Point}
use Rattle.steiner_topology.specs.Tile.{Tile, distance, tile_at}
use Rattle.steiner_topology.specs.Joins.{span, soonest, is_joined, open_pairs, with_join, joins_after, joins_of}
use Rattle.steiner_topology.specs.Topology.{point, place_of, parent_of, hung, loose_points, with_pair, prim_points, wirelength}
use Rattle.steiner_topology.specs.Spanning.{LeadsUp, root, over, IsTopology, total_span}
use Rattle.steiner_topology.proofs.JoinLemmas.{IsOpen, next-if, joins_after-all, joins_of-joined, is_joined-same, is_joined-other, above}
use Rattle.steiner_topology.proofs.TopologyLemmas.{length-loose}
use Rattle.steiner_topology.proofs.TreeLemmas.{place_of-hung, parent_of-hung_same, parent_of-hung_other, length-hung, sum_by-same, wire_of, sum-hung, IsHandled}

-- the points while they are joined
record Joining (tiles : List Tile) (joins : List Join) (points : List Point) : Type 0 where
  size : length points ≡ length tiles
  places : (v : ℕ) → v < length tiles → place_of points v ≡ tile_at tiles v
  loose : (v : ℕ) → v < length tiles → is_joined joins v ≡ false → parent_of points v ≡ v
  top : parent_of points 0 ≡ 0
  inside : All (λ p. p.parent < length points) points
  leads : (v : ℕ) → v < length tiles → is_joined joins v ≡ true → LeadsUp points v
  wires : wirelength points ≡ total_span tiles joins

-- at first
loose_at : (tiles : List Tile) (v : ℕ) (d : Point) → v < length tiles → get_or (loose_points tiles) v d ≡ point (tile_at tiles v) v
loose_at tiles v d below = get_or-map-range_with_len (λ v. point (tile_at tiles v) v) 0 (length tiles) v v d below (omega arith)

sum_by-none : (f : Point → ℕ) (xs : List Point) → All (λ x. f x ≡ 0) xs → sum_by f xs ≡ 0
sum_by-none f [] none = refl
sum_by-none f (x ∷ xs) none =
    let here = All-head (λ y. f y ≡ 0) x xs none in
    let rest = sum_by-none f xs (All-tail (λ y. f y ≡ 0) x xs none) in
    let e = sum_by-cons f x xs in
    omega arith

no_way : (t : Tile) → distance t t ≡ 0
no_way t = omega arith

joining-first : (tiles : List Tile) → 0 < length tiles → Joining tiles [] (loose_points tiles)
joining-first tiles some =
    let points = loose_points tiles in
    let none : Point = point (0, 0) 0 in
    let size = length-loose tiles in
    let place : (v : ℕ) → v < length tiles → place_of points v ≡ tile_at tiles v = λ v below. ap (λ (p : Point). p.tile) (loose_at tiles v none below) in
    let parent : (v : ℕ) → v < length tiles → parent_of points v ≡ v = λ v below. ap (λ (p : Point). p.parent) (loose_at tiles v none below) in
    let inside : (v : ℕ) → v < length points → (get_or points v none).parent < length points = λ v below. let e = parent v (omega arith) in omega arith in
    let wires : (v : ℕ) → v < length points → wire_of (place_of points) (get_or points v none) ≡ 0 = λ v below.
    let low : v < length tiles = omega arith in
    ap (wire_of (place_of points)) (loose_at tiles v none low) ∙ ap (distance (tile_at tiles v)) (place v low) ∙ no_way (tile_at tiles v) in
    record {
      size = size;
      places = place;
      loose = λ v below out. parent v below;
      top = parent 0 some;
      inside = All-from_get_or (λ p. p.parent < length points) points none inside;
      leads = λ v below joined.
          let L : ℕ → Type 0 = λ n. LeadsUp points n in
          let is : v ≡ 0 = grind (arith, nat_tests) in
          subst L (sym is) root;
      wires = sum_by-none (wire_of (place_of points)) points (All-from_get_or (λ p. wire_of (place_of points) p ≡ 0) points none wires);
    }

-- hanging a loose point elsewhere keeps who leads to point 0
leads-hung : (points : List Point) (v b : ℕ) → v < length points → parent_of points v ≡ v → (u : ℕ) → LeadsUp points u → LeadsUp (hung points v b) u
leads-hung points v b below own _ root = root
leads-hung points v b below own _ (over u rest) =
    let L : ℕ → Type 0 = λ n. LeadsUp (hung points v b) n in
    let led : LeadsUp (hung points v b) (parent_of points u) = leads-hung points v b below own (parent_of points u) rest in
    elim (cases_eq u v) [
      | inl is ↦ subst L (ap (parent_of points) is ∙ own ∙ sym is) led
      | inr other ↦ over u (subst L (sym (parent_of-hung_other points v b u other)) led)
    ]

joining-more : (tiles : List Tile) (joins : List Join) (points : List Point) (p : Join) → IsOpen tiles joins p → Joining tiles joins points →
    Joining tiles (joins ++ p ∷ []) (with_pair points p)
joining-more tiles joins points p opens so_far =
    let j = p.point in
    let new = with_pair points p in
    let size = so_far.size in
    let inside = opens.inside in
    let parent_inside = opens.parent_inside in
    let j_in : j < length points = omega arith in
    let new_size : length new ≡ length points = length-hung points j p.parent in
    let own = so_far.loose j inside opens.not_joined in
    let j_above = above tiles joins p opens in
    let not_j : (v : ℕ) → is_joined (joins ++ p ∷ []) v ≡ false → v ≡ j → ⊥ =
    λ v out is. true≢false (sym (is_joined-same joins p) ∙ ap (λ (n : ℕ). is_joined (joins ++ p ∷ []) n) (sym is) ∙ out) in
    let wide : (q : Point) → q.parent < length points → q.parent < length new = λ q below. omega arith in
    let lead : (v : ℕ) → v < length tiles → is_joined joins v ≡ true → LeadsUp new v = λ v below joined.
    leads-hung points j p.parent j_in own v (so_far.leads v below joined) in
    let L : ℕ → Type 0 = λ n. LeadsUp new n in
    let places : (v : ℕ) → place_of new v ≡ place_of points v = λ v. place_of-hung points j p.parent v j_in in
    let same : (q : Point) → wire_of (place_of new) q ≡ wire_of (place_of points) q = λ q. ap (distance q.tile) (places q.parent) in
    let wires_same : wirelength new ≡ sum_by (wire_of (place_of points)) new =
    sum_by-same (wire_of (place_of new)) (wire_of (place_of points)) new (λ k d below. same (get_or new k d)) in
    let change = sum-hung (place_of points) points j p.parent j_in in
    let nothing : distance (place_of points j) (place_of points (parent_of points j)) ≡ 0 =
    ap (λ (v : ℕ). distance (place_of points j) (place_of points v)) own ∙ no_way (place_of points j) in
    let way : distance (place_of points j) (place_of points p.parent) ≡ span tiles p =
    ap (λ (t : Tile). distance t (place_of points p.parent)) (so_far.places j inside) ∙ ap (distance (tile_at tiles j)) (so_far.places p.parent parent_inside) in
    let total = sum_by_push (span tiles) joins p in
    let before = so_far.wires in
    record {
      size = new_size ∙ size;
      places = λ v below. places v ∙ so_far.places v below;
      loose = λ v below out.
          parent_of-hung_other points j p.parent v (not_j v out) ∙
          so_far.loose v below (sym (is_joined-other joins p v (not_j v out)) ∙ out);
      top = parent_of-hung_other points j p.parent 0 (λ is. absurd (omega arith)) ∙ so_far.top;
      inside =
          let P : Point → Type 0 = λ q. q.parent < length new in
          let was : All P points = λ k d below. wide (get_or points k d) (so_far.inside k d below) in
          All-set P points j (point (place_of points j) p.parent) (omega arith) was;
      leads = λ v below joined. elim (cases_eq v j) [
        | inl is ↦
            let on : LeadsUp new (parent_of new j) = subst L (sym (parent_of-hung_same points j p.parent j_in)) (lead p.parent parent_inside opens.parent_joined) in
            subst L (sym is) (over j on)
        | inr other ↦ lead v below (sym (is_joined-other joins p v other) ∙ joined)
      ];
      wires = omega (arith, wires_same, change, nothing, way, total, before);
    }

joining-next : (tiles : List Tile) (joins : List Join) (o : Option Join) → IfSome o (IsOpen tiles joins) →
    Joining tiles joins (fold with_pair (loose_points tiles) joins) →
    Joining tiles (with_join joins o) (fold with_pair (loose_points tiles) (with_join joins o))
joining-next tiles joins None opens so_far = so_far
joining-next tiles joins (Some p) opens so_far =
    let J : List Point → Type 0 = λ points. Joining tiles (joins ++ p ∷ []) points in
    subst J (sym (fold_push with_pair (loose_points tiles) joins p))
    (joining-more tiles joins (fold with_pair (loose_points tiles) joins) p opens so_far)

joining-after : (n : ℕ) (tiles : List Tile) (joins : List Join) → Joining tiles joins (fold with_pair (loose_points tiles) joins) →
    Joining tiles (joins_after n tiles joins) (fold with_pair (loose_points tiles) (joins_after n tiles joins))
unfolding joins_after
joining-after zero tiles joins so_far = so_far
joining-after (suc n) tiles joins so_far =
    let next = soonest tiles (open_pairs tiles joins) in
    joining-after n tiles (with_join joins next) (joining-next tiles joins next (next-if tiles joins) so_far)

-- Prim's tree as points
pub record IsPrimTree (tiles : List Tile) (points : List Point) : Type 0 where
  pub tree : IsTopology points
  pub size : length points ≡ length tiles
  pub places : (v : ℕ) → v < length tiles → place_of points v ≡ tile_at tiles v
  pub wires : wirelength points ≡ total_span tiles (joins_of tiles)

pub prim_points-tree : (tiles : List Tile) → 0 < length tiles → IsPrimTree tiles (prim_points tiles)
prim_points-tree tiles some =
    let done = joining-after (length tiles - 1) tiles [] (joining-first tiles some) in
    let size = done.size in
    record {
      tree = record {
        some = omega arith;
        top = done.top;
        parents = done.inside;
        leads = λ v below. done.leads v (omega arith) (joins_of-joined tiles v (omega arith));
      };
      size = size;
      places = done.places;
      wires = done.wires;
    }

-- each pair's point is a point, and not point 0
pub joins_of-handled : (tiles : List Tile) → All (IsHandled (length tiles)) (joins_of tiles)
joins_of-handled tiles =
    joins_after-all tiles (IsHandled (length tiles)) (λ joins p opens. (opens.inside, above tiles joins p opens)) (length tiles - 1) []
    (All-nil (IsHandled (length tiles)))
