-- The points that wait to be joined, each in the pair of its own that comes first.
use Rattle.std.specs.Prelude.{ℕ, ◌<◌, ◌≤◌, nat_lt, if◌then◌else◌, List, filter_map, slice_index_or}
use Rattle.steiner_topology.specs.declared.point.Join.{Join}
use Rattle.steiner_topology.specs.declared.point.Waiting.{Waiting}
use Rattle.steiner_topology.specs.Tile.{Tile, distance, tile_at}
use Rattle.steiner_topology.specs.Joins.{span, by_number, nearest_pairs}

-- the first pair of each point that isn't joined, in the order of the points
abbrev pub first_pairs : List Tile → List Join → List Join
first_pairs tiles joins = filter_map (λ o. o) (nearest_pairs tiles joins)

abbrev pub waiting_in : ℕ → Tile → ℕ → ℕ → Waiting
waiting_in span tile point parent = record { span = span; tile = tile; point = point; parent = parent }

-- a point that waits in a pair
abbrev pub waits : List Tile → Join → Waiting
waits tiles p = waiting_in (span tiles p) (tile_at tiles p.point) p.point p.parent

-- a point that waits, after one more point is offered as its parent
abbrev pub nearer : Tile → ℕ → Waiting → Waiting
nearer tile parent w =
    if by_number (distance w.tile tile) w.span (nat_lt parent w.parent)
    then waiting_in (distance w.tile tile) w.tile w.point parent
    else w

abbrev pub span_at : List Waiting → ℕ → ℕ
span_at points place = (slice_index_or points place (waiting_in 0 (0, 0) 0 0)).span

-- the first place of the least distance, among the first so many places
pub record IsFirst (points : List Waiting) (count first : ℕ) : Type 0 where
  pub inside : 0 < count → first < count
  pub before : (place : ℕ) → place < first → span_at points first < span_at points place
  pub least : (place : ℕ) → place < count → span_at points first ≤ span_at points place
