-- The points of a topology: Prim's tree, and the branches that are added to it.
use Rattle.std.specs.Prelude.{ℕ, Bool, not, ◌&&◌, ◌||◌, ◌==◌, nat_lt, if◌then◌else◌, Option, Some, None, List, [], ◌∷◌, ◌++◌, length, map, filter, fold, sum_by, slice_index_or, slice_set}
use Rattle.std.specs.List.{range_with_len}
use Rattle.steiner_topology.specs.declared.point.Join.{Join}
use Rattle.steiner_topology.specs.declared.point.Point.{Point}
use Rattle.steiner_topology.specs.Tile.{Tile, distance, middle, tile_at}
use Rattle.steiner_topology.specs.Joins.{numbers, joins_of}

abbrev pub point : Tile → ℕ → Point
point tile parent = record { tile = tile; parent = parent }

-- the tile and the parent of the point with this number
abbrev pub place_of : List Point → ℕ → Tile
place_of points v = (slice_index_or points v (point (0, 0) 0)).tile

abbrev pub parent_of : List Point → ℕ → ℕ
parent_of points v = (slice_index_or points v (point (0, 0) 0)).parent

-- the tiles of all points
abbrev pub tiles_of : List Point → List Tile
tiles_of points = map (λ p. p.tile) points

-- the point with this number has another parent
abbrev pub hung : List Point → ℕ → ℕ → List Point
hung points v parent = slice_set points v (point (place_of points v) parent)

-- the tiles as points that aren't joined: each is its own parent
abbrev pub loose_points : List Tile → List Point
loose_points tiles = map (λ v. point (tile_at tiles v) v) (numbers tiles)

-- the points with a pair joined
abbrev pub with_pair : List Point → Join → List Point
with_pair points p = hung points p.point p.parent

-- Prim's tree as points with parents
abbrev pub prim_points : List Tile → List Point
prim_points tiles = fold with_pair (loose_points tiles) (joins_of tiles)

-- one point is the other's parent
abbrev pub are_joined : List Point → ℕ → ℕ → Bool
are_joined points u v = not (u == v) && (parent_of points u == v || parent_of points v == u)

-- a neighbour of j's parent, and not j
abbrev pub is_neighbour : List Point → ℕ → ℕ → Bool
is_neighbour points j q = not (q == j) && are_joined points (parent_of points j) q

-- the other neighbours of j's parent
abbrev pub neighbours : List Point → ℕ → List ℕ
neighbours points j = filter (λ q. is_neighbour points j q) (range_with_len 0 (length points))

-- the tile where the ways from j and from q to j's parent can meet
abbrev pub meeting : List Point → ℕ → ℕ → Tile
meeting points j q = middle (place_of points j) (place_of points (parent_of points j)) (place_of points q)

-- what j and q save by a point where their ways meet: it is as far as this from j's parent
abbrev pub saving : List Point → ℕ → ℕ → ℕ
saving points j q = distance (place_of points (parent_of points j)) (meeting points j q)

-- the better one of what is kept so far and the next: the next, if it saves more
abbrev pub better : List Point → ℕ → Option ℕ → ℕ → Option ℕ
better points j None q = Some q
better points j (Some kept) q = if nat_lt (saving points j kept) (saving points j q) then Some q else Some kept

-- the first neighbour that saves most
abbrev pub best_neighbour : List Point → ℕ → Option ℕ
best_neighbour points j = fold (better points j) None (neighbours points j)

-- a new point at this tile, which hangs on `upper`, and on which `lower` and j hang
abbrev pub with_branch : List Point → Tile → ℕ → ℕ → ℕ → List Point
with_branch points tile upper lower j =
    hung (hung points lower (length points)) j (length points) ++ point tile upper ∷ []

-- a new point where j and q meet: below q, if q is the parent of j's parent i, and else below i
abbrev pub branched : List Point → ℕ → ℕ → List Point
branched points j q =
    let i = parent_of points j in
    if parent_of points i == q
    then with_branch points (meeting points j q) q i j
    else with_branch points (meeting points j q) i q j

-- a branch with this neighbour, if there is one and it saves something
abbrev pub branched_if : List Point → ℕ → Option ℕ → List Point
branched_if points j None = points
branched_if points j (Some q) = if saving points j q == 0 then points else branched points j q

-- the points after j is handled
abbrev pub handled : List Point → Join → List Point
handled points p = branched_if points p.point (best_neighbour points p.point)

-- the topology: Prim's tree, with a branch for each point that can share a way, in the order of joining
unfoldable pub topology_of : List Tile → List Point
topology_of tiles = fold handled (prim_points tiles) (joins_of tiles)

-- the sum of the distances from the points to their parents
abbrev pub wirelength : List Point → ℕ
wirelength points = sum_by (λ p. distance p.tile (place_of points p.parent)) points
