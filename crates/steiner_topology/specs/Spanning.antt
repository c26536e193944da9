-- Trees between tiles: what spans them, what a topology is, and how short it is.
use Rattle.std.specs.Prelude.{◌≡◌, ℕ, ◌<◌, ◌≤◌, ◌⊎◌, Bool, ◌==◌, IsTrue, List, ◌++◌, length, All, Contains, sum_by}
use Rattle.steiner_topology.specs.declared.point.Join.{Join}
use Rattle.steiner_topology.specs.declared.point.Point.{Point}
use Rattle.steiner_topology.specs.Tile.{Tile}
use Rattle.steiner_topology.specs.Joins.{span}
use Rattle.steiner_topology.specs.Topology.{parent_of, wirelength}

-- one of these edges has these two ends
pub record HasEdge (edges : List Join) (u v : ℕ) : Type 0 where
  pub edge : Join
  pub listed : Contains edges edge
  pub ends : ((edge.point ≡ u) × (edge.parent ≡ v)) ⊎ ((edge.point ≡ v) × (edge.parent ≡ u))

-- edges lead from one of the sources to this point
pub data Reaches (edges : List Join) (is_source : ℕ → Bool) : ℕ → Type 0 where
  begin : (v : ℕ) → IsTrue (is_source v) → Reaches edges is_source v
  step : (u v : ℕ) → Reaches edges is_source u → HasEdge edges u v → Reaches edges is_source v

-- the edges join all of the tiles, as those of a spanning tree do
pub record Spans (tiles : List Tile) (edges : List Join) : Type 0 where
  pub inside : All (λ e. (e.point < length tiles) × (e.parent < length tiles)) edges
  pub reached : (v : ℕ) → v < length tiles → Reaches edges (λ u. u == 0) v

-- edges that join all of the tiles, and no more than a tree needs
pub record IsSpanningTree (tiles : List Tile) (edges : List Join) : Type 0 where
  pub spans : Spans tiles edges
  pub few : length edges < length tiles

-- the length of all edges together
abbrev pub total_span : List Tile → List Join → ℕ
total_span tiles edges = sum_by (span tiles) edges

-- the points' wires are no longer than any edges that join the tiles
abbrev pub IsShortest : List Tile → List Point → Type 0
IsShortest tiles points = (edges : List Join) → Spans tiles edges → wirelength points ≤ total_span tiles edges

-- nor longer than any edges that join the tiles with the help of further points
abbrev pub IsLeast : List Tile → List Point → Type 0
IsLeast tiles points = (further : List Tile) → IsShortest (tiles ++ further) points

-- over its parents the point leads to point 0
pub data LeadsUp (points : List Point) : ℕ → Type 0 where
  root : LeadsUp points 0
  over : (v : ℕ) → LeadsUp points (parent_of points v) → LeadsUp points v

-- the points make a tree: point 0 is its own parent, parents are points, and each point leads to point 0
pub record IsTopology (points : List Point) : Type 0 where
  pub some : 0 < length points
  pub top : parent_of points 0 ≡ 0
  pub parents : All (λ p. p.parent < length points) points
  pub leads : (v : ℕ) → v < length points → LeadsUp points v
