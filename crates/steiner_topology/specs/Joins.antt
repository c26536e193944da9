-- Prim's tree: which pair of points is joined next.
use Rattle.std.specs.Prelude.{ℕ, zero, suc, ◌-◌, ◌<◌, Bool, ◌||◌, ◌==◌, nat_lt, if◌then◌else◌, Option, Some, None, List, [], ◌∷◌, ◌++◌, length, map, filter, flat_map}
use Rattle.std.specs.List.{list_any, range_with_len}
use Rattle.steiner_topology.specs.declared.point.Join.{Join}
use Rattle.steiner_topology.specs.Tile.{Tile, distance, tile_at}

-- a point, and the point that it is joined to
abbrev pub pair : ℕ → ℕ → Join
pair point parent = record { point = point; parent = parent }

-- the numbers of the points
abbrev pub numbers : List Tile → List ℕ
numbers tiles = range_with_len 0 (length tiles)

-- the distance between the points of a pair
abbrev pub span : List Tile → Join → ℕ
span tiles p = distance (tile_at tiles p.point) (tile_at tiles p.parent)

-- compares two numbers, and where they are equal goes by the rest
abbrev pub by_number : ℕ → ℕ → Bool → Bool
by_number a b rest = if a == b then rest else nat_lt a b

-- the first of two pairs comes first: by distance, then by point, then by parent
abbrev pub is_before : List Tile → Join → Join → Bool
is_before tiles p q =
    by_number (span tiles p) (span tiles q) (by_number p.point q.point (nat_lt p.parent q.parent))

-- of two pairs, if there are two, the one that comes first
abbrev pub sooner : List Tile → Option Join → Option Join → Option Join
sooner tiles None q = q
sooner tiles (Some p) None = Some p
sooner tiles (Some p) (Some q) = if is_before tiles q p then Some q else Some p

-- the pair that comes before all others
abbrev pub soonest : List Tile → List Join → Option Join
soonest tiles [] = None
soonest tiles (p ∷ pairs) = sooner tiles (Some p) (soonest tiles pairs)

-- a point is joined if it is point 0, or was joined by one of these pairs
abbrev pub is_joined : List Join → ℕ → Bool
is_joined joins v = v == 0 || list_any (λ p. p.point == v) joins

-- the point with each of the joined points, if it isn't joined itself
abbrev pub pairs_of : List Tile → List Join → ℕ → List Join
pairs_of tiles joins v =
    if is_joined joins v then [] else map (λ i. pair v i) (filter (λ i. is_joined joins i) (numbers tiles))

-- each pair of a point that isn't joined and one that is
abbrev pub open_pairs : List Tile → List Join → List Join
open_pairs tiles joins = flat_map (λ v. pairs_of tiles joins v) (numbers tiles)

-- the joins so far, and the next one, if there is one
abbrev pub with_join : List Join → Option Join → List Join
with_join joins None = joins
with_join joins (Some p) = joins ++ p ∷ []

-- joins so many points more, by the pair that comes first each time
unfoldable pub joins_after : ℕ → List Tile → List Join → List Join
joins_after zero tiles joins = joins
joins_after (suc n) tiles joins =
    joins_after n tiles (with_join joins (soonest tiles (open_pairs tiles joins)))

-- Prim's tree: the points from 1 on in the order of joining, each with its parent
abbrev pub joins_of : List Tile → List Join
joins_of tiles = joins_after (length tiles - 1) tiles []

-- the points of a pair are points of the tiles
abbrev pub AreInside : List Tile → Join → Type 0
AreInside tiles p = (p.point < length tiles) × (p.parent < length tiles)

-- for each point the pair of its own that comes first, if it isn't joined
abbrev pub nearest_pairs : List Tile → List Join → List (Option Join)
nearest_pairs tiles joins = map (λ v. soonest tiles (pairs_of tiles joins v)) (numbers tiles)

-- a point's pair, after one more point is offered as its parent
abbrev pub offered : List Tile → ℕ → Option Join → Option Join
offered tiles parent None = None
offered tiles parent (Some p) = sooner tiles (Some p) (Some (pair p.point parent))
