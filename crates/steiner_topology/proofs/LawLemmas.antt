-- The laws of a whole topology, turn by turn.
use Rattle.std.proofs.Common.{◌≡◌, ℕ, ◌+◌, ◌*◌, ◌<◌, ◌≤◌, List, length, fold, get_or, take, All, sym, ap, subst, ◌∙◌, arith}
use Rattle.std.proofs.lemmas.List.{length-take, length-take-le, length-map, get_or-map, get_or-take, ext_get_or, take_all}
use Rattle.std.proofs.lemmas.List.Elements.{All-take, All-weaker, All-get_or}
use Rattle.std.proofs.lemmas.List.Sums.{fold_more}
use Rattle.steiner_topology.specs.declared.point.Join.{Join}
use Rattle.steiner_topology.specs.declared.point.Point.{Point}
use Rattle.steiner_topology.specs.Tile.{Tile}
use Rattle.steiner_topology.specs.Joins.{joins_of}
use Rattle.steiner_topology.specs.Topology.{point, tiles_of, prim_points, handled, topology_of, wirelength}
use Rattle.steiner_topology.specs.Spanning.{IsTopology, IsShortest, total_span}
use Rattle.steiner_topology.proofs.JoinLemmas.{length-joins_of}
use Rattle.steiner_topology.proofs.TreeLemmas.{Grown, fold-grown, IsHandled}
use Rattle.steiner_topology.proofs.PrimLemmas.{prim_points-tree, joins_of-handled}
use Rattle.steiner_topology.proofs.SpanningLemmas.{joins_of-least}

-- the points after some of the joins are handled
pub grown-after : (tiles : List Tile) (n : ℕ) → 0 < length tiles →
    Grown (prim_points tiles) (length (take n (joins_of tiles))) (fold handled (prim_points tiles) (take n (joins_of tiles)))
grown-after tiles n some =
    let prim = prim_points-tree tiles some in
    let size = prim.size in
    let same : (p : Join) → IsHandled (length tiles) p → IsHandled (length (prim_points tiles)) p = λ p is. (let below = is.0 in omega arith, is.1) in
    fold-grown (prim_points tiles) (take n (joins_of tiles)) prim.tree
    (All-take (IsHandled (length (prim_points tiles))) n (joins_of tiles)
    (All-weaker (IsHandled (length tiles)) (IsHandled (length (prim_points tiles))) same (joins_of tiles) (joins_of-handled tiles)))

-- what is known of the points between two turns
pub record Standing (tiles : List Tile) (points : List Point) : Type 0 where
  pub many : length tiles ≤ length points
  pub few : length points < 2 * length tiles
  pub tree : IsTopology points

pub standing : (tiles : List Tile) (points : List Point) (n : ℕ) → 0 < length tiles →
    points ≡ fold handled (prim_points tiles) (take n (joins_of tiles)) → Standing tiles points
standing tiles points n some is =
    let grown = grown-after tiles n some in
    let prim = prim_points-tree tiles some in
    let joins = length-joins_of tiles some in
    let taken : length (take n (joins_of tiles)) ≤ length (joins_of tiles) = let e = length-take n (joins_of tiles) in omega arith in
    let many = grown.many in
    let few = grown.few in
    let size = prim.size in
    let S : List Point → Type 0 = λ xs. Standing tiles xs in
    subst S (sym is) (record { many = omega arith; few = omega arith; tree = grown.tree })

pub join-inside : (tiles : List Tile) (joins : List Join) (n : ℕ) (d : Join) → joins ≡ joins_of tiles → n < length joins →
    (get_or joins n d).point < length tiles
join-inside tiles joins n d is below =
    let H : List Join → Type 0 = λ xs. All (IsHandled (length tiles)) xs in
    let all = All-get_or (IsHandled (length tiles)) joins n d below (subst H (sym is) (joins_of-handled tiles)) in
    all.0

-- all turns are done
pub handled-all : (tiles : List Tile) (points : List Point) (n : ℕ) → length (joins_of tiles) ≤ n →
    points ≡ fold handled (prim_points tiles) (take n (joins_of tiles)) → points ≡ topology_of tiles
unfolding topology_of
handled-all tiles points n done is =
    is ∙ ap (fold handled (prim_points tiles)) (take_all n (joins_of tiles) done)

-- one turn more
pub handled-more : (tiles : List Tile) (points : List Point) (joins : List Join) (n : ℕ) (d : Join) → joins ≡ joins_of tiles → n < length joins →
    points ≡ fold handled (prim_points tiles) (take n (joins_of tiles)) →
    handled points (get_or joins n d) ≡ fold handled (prim_points tiles) (take (n + 1) (joins_of tiles))
handled-more tiles points joins n d are below is =
    let size : n < length (joins_of tiles) = let e = ap length are in omega arith in
    ap (λ (xs : List Point). handled xs (get_or joins n d)) is ∙
    ap (λ (xs : List Join). handled (fold handled (prim_points tiles) (take n (joins_of tiles))) (get_or xs n d)) are ∙
    sym (fold_more handled (prim_points tiles) (joins_of tiles) n d size)

pub grown-all : (tiles : List Tile) → 0 < length tiles → Grown (prim_points tiles) (length (joins_of tiles)) (topology_of tiles)
unfolding topology_of
grown-all tiles some =
    let G : List Join → Type 0 = λ xs. Grown (prim_points tiles) (length xs) (fold handled (prim_points tiles) xs) in
    subst G (take_all (length (joins_of tiles)) (joins_of tiles) (omega arith)) (grown-after tiles (length (joins_of tiles)) some)

pub topology_of-tree : (tiles : List Tile) → 0 < length tiles → IsTopology (topology_of tiles)
topology_of-tree tiles some = let grown = grown-all tiles some in grown.tree

pub length-topology_of : (tiles : List Tile) → 0 < length tiles → length (topology_of tiles) < 2 * length tiles
length-topology_of tiles some =
    let few = grown-all tiles some in
    let size = prim_points-tree tiles some in
    let joins = length-joins_of tiles some in
    let a = few.few in
    let b = size.size in
    omega arith

pub topology_of-tiles : (tiles : List Tile) → 0 < length tiles → take (length tiles) (tiles_of (topology_of tiles)) ≡ tiles
topology_of-tiles tiles some =
    let grown = grown-all tiles some in
    let prim = prim_points-tree tiles some in
    let many = grown.many in
    let size = prim.size in
    let all = topology_of tiles in
    let k = length tiles in
    let none : Tile = (0, 0) in
    let wide : length (tiles_of all) ≡ length all = length-map all (λ (p : Point). p.tile) in
    let long : length (take k (tiles_of all)) ≡ k = length-take-le k (tiles_of all) (omega arith) in
    ext_get_or none (take k (tiles_of all)) tiles long (λ v below.
    let inside : v < k = omega arith in
    get_or-take k (tiles_of all) v none inside ∙
    get_or-map (λ (p : Point). p.tile) all v (point (0, 0) 0) none (omega arith) ∙
    grown.places v (omega arith) ∙ prim.places v inside)

pub topology_of-prim : (tiles : List Tile) → 0 < length tiles → wirelength (topology_of tiles) ≤ total_span tiles (joins_of tiles)
topology_of-prim tiles some =
    let grown = grown-all tiles some in
    let prim = prim_points-tree tiles some in
    let shorter = grown.shorter in
    let wires = prim.wires in
    omega arith

pub topology_of-shortest : (tiles : List Tile) → 0 < length tiles → IsShortest tiles (topology_of tiles)
topology_of-shortest tiles some edges spans =
    let prim = topology_of-prim tiles some in
    let least = joins_of-least tiles edges spans in
    omega arith

-- Prim's tree as points, before any of them is handled
pub prim-inside : (tiles : List Tile) (points : List Point) → 0 < length tiles → points ≡ prim_points tiles →
    (length points ≡ length tiles) × All (λ p. p.parent < length points) points
prim-inside tiles points some is =
    let prim = prim_points-tree tiles some in
    let P : List Point → Type 0 = λ xs. (length xs ≡ length tiles) × All (λ p. p.parent < length xs) xs in
    subst P (sym is) (prim.size, prim.tree.parents)
