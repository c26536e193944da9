-- The tiles of a topology lie in the grid.
use Rattle.std.proofs.Common.{◌≡◌, ℕ, ◌<◌, inl, inr, Bool, true, false, ◌==◌, Option, Some, None, List, [], ◌∷◌, length, fold, take, get_or, All, if◌then◌else◌, sym, subst, arith}
use Rattle.std.proofs.lemmas.Bool.{cases_lt}
use Rattle.std.proofs.lemmas.List.Elements.{All-nil, All-cons, All-append, All-map, All-get_or, All-set, All-take}
use Rattle.std.proofs.lemmas.List.{get_or_past}
use Rattle.gr_base.specs.declared.grid.Shape.{Shape}
use Rattle.gr_base.proofs.GridLemmas.{some_columns, some_rows}
use Rattle.steiner_topology.specs.declared.point.Join.{Join}
use Rattle.steiner_topology.specs.declared.point.Point.{Point}
use Rattle.steiner_topology.specs.Tile.{Tile, tile_at, median, middle}
use Rattle.steiner_topology.specs.Joins.{numbers, joins_of}
use Rattle.steiner_topology.specs.Topology.{point, place_of, parent_of, hung, loose_points, with_pair, prim_points, meeting, saving, best_neighbour, with_branch, branched, branched_if, handled, topology_of, tiles_of}
use Rattle.net_plan.specs.FlatTrees.{IsTileIn, AreTilesIn}
use Rattle.net_plan.proofs.RangeLemmas.{All-range}

abbrev IsIn : Shape → Point → Type 0
IsIn g p = IsTileIn g p.tile

-- the first tile of the grid
first-in : (g : Shape) → IsTileIn g (0, 0)
first-in g = record { column = some_columns g; row = some_rows g }

-- an element of a list, or the default past its end
either-in : {A : Type 0} (P : A → Type 0) (xs : List A) (k : ℕ) (d : A) → All P xs → P d → P (get_or xs k d)
either-in P xs k d all other =
    elim (cases_lt k (length xs)) [
      | inl below ↦ All-get_or P xs k d below all
      | inr past ↦ subst P (sym (get_or_past xs k d past)) other
    ]

place-in : (g : Shape) (points : List Point) (v : ℕ) → AreTilesIn g points → IsTileIn g (place_of points v)
place-in g points v all = either-in (IsIn g) points v (point (0, 0) 0) all (first-in g)

hung-in : (g : Shape) (points : List Point) (v parent : ℕ) → AreTilesIn g points → AreTilesIn g (hung points v parent)
hung-in g points v parent all = All-set (IsIn g) points v (point (place_of points v) parent) (place-in g points v all) all

median-below : (a b c n : ℕ) → a < n → b < n → c < n → median a b c < n
median-below a b c n x y z = omega arith

middle-in : (g : Shape) (a b c : Tile) → IsTileIn g a → IsTileIn g b → IsTileIn g c → IsTileIn g (middle a b c)
middle-in g a b c x y z = record {
  column = median-below a.0 b.0 c.0 g.columns x.column y.column z.column;
  row = median-below a.1 b.1 c.1 g.rows x.row y.row z.row;
}

loose-in : (g : Shape) (tiles : List Tile) → All (IsTileIn g) tiles → AreTilesIn g (loose_points tiles)
loose-in g tiles all =
    All-map (IsIn g) (λ v. point (tile_at tiles v) v) (numbers tiles)
    (All-range (λ v. IsTileIn g (tile_at tiles v)) (length tiles) 0 (λ v below. either-in (IsTileIn g) tiles v (0, 0) all (first-in g)))

fold-in : (g : Shape) (f : List Point → Join → List Point) → ((points : List Point) (p : Join) → AreTilesIn g points → AreTilesIn g (f points p)) →
    (joins : List Join) (points : List Point) → AreTilesIn g points → AreTilesIn g (fold f points joins)
fold-in g f keeps [] points all = all
fold-in g f keeps (p ∷ joins) points all = fold-in g f keeps joins (f points p) (keeps points p all)

with_branch-in : (g : Shape) (points : List Point) (tile : Tile) (upper lower j : ℕ) → AreTilesIn g points → IsTileIn g tile →
    AreTilesIn g (with_branch points tile upper lower j)
with_branch-in g points tile upper lower j all inside =
    All-append (IsIn g) (hung (hung points lower (length points)) j (length points)) (point tile upper ∷ [])
    (hung-in g (hung points lower (length points)) j (length points) (hung-in g points lower (length points) all))
    (All-cons (IsIn g) (point tile upper) [] inside (All-nil (IsIn g)))

meeting-in : (g : Shape) (points : List Point) (j q : ℕ) → AreTilesIn g points → IsTileIn g (meeting points j q)
meeting-in g points j q all =
    middle-in g (place_of points j) (place_of points (parent_of points j)) (place_of points q)
    (place-in g points j all) (place-in g points (parent_of points j) all) (place-in g points q all)

if-in : (g : Shape) (b : Bool) (xs ys : List Point) → AreTilesIn g xs → AreTilesIn g ys → AreTilesIn g (if b then xs else ys)
if-in g true xs ys of_xs of_ys = of_xs
if-in g false xs ys of_xs of_ys = of_ys

branched-in : (g : Shape) (points : List Point) (j q : ℕ) → AreTilesIn g points → AreTilesIn g (branched points j q)
branched-in g points j q all =
    let i = parent_of points j in
    let tile = meeting points j q in
    let inside = meeting-in g points j q all in
    if-in g (parent_of points i == q) (with_branch points tile q i j) (with_branch points tile i q j)
    (with_branch-in g points tile q i j all inside) (with_branch-in g points tile i q j all inside)

branched_if-in : (g : Shape) (points : List Point) (j : ℕ) (o : Option ℕ) → AreTilesIn g points → AreTilesIn g (branched_if points j o)
branched_if-in g points j None all = all
branched_if-in g points j (Some q) all = if-in g (saving points j q == 0) points (branched points j q) all (branched-in g points j q all)

-- the tiles of a topology lie where the tiles that it joins do
pub topology-in : (g : Shape) (tiles : List Tile) → All (IsTileIn g) tiles → AreTilesIn g (topology_of tiles)
unfolding topology_of
topology-in g tiles all =
    fold-in g handled (λ points p inside. branched_if-in g points p.point (best_neighbour points p.point) inside) (joins_of tiles) (prim_points tiles)
    (fold-in g with_pair (λ points p inside. hung-in g points p.point p.parent inside) (joins_of tiles) (loose_points tiles) (loose-in g tiles all))

-- what holds of the tile of each point holds of the tiles that come first
pub first-tiles : (P : Tile → Type 0) (points : List Point) (tiles : List Tile) → take (length tiles) (tiles_of points) ≡ tiles →
    All (λ (p : Point). P p.tile) points → All P tiles
first-tiles P points tiles first all =
    subst (All P) first (All-take P (length tiles) (tiles_of points) (All-map P (λ (p : Point). p.tile) points all))
