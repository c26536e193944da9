-- Walls: sets of tiles, the wire edges that lead out of them, and what nets need of those.
use Rattle.std.specs.Prelude.{◌≡◌, ℕ, ◌+◌, ◌*◌, ◌-ℤ◌, ◌+ℤ◌, ℤ, pos, Bool, true, false, not, ◌&&◌, nat_le, max, min, List, [], ◌∷◌, All, map, sum_by, unwrap_or, slice_get, IsTrue, if◌then◌else◌}
use Rattle.std.specs.List.{list_any, reduce}
use Rattle.gr_base.specs.Capacities.{capacity, width_in, widths_of, need_along}
use Rattle.gr_base.specs.Designs.{DesignView, is_routed, pins_at, layers_of}
use Rattle.gr_base.specs.EdgeSets.{Edges, IsJoined}
use Rattle.gr_base.specs.Grid.{place_at, high_of, has_edge}
use Rattle.gr_base.specs.Sums.{wire_edges, sum_routed}
use Rattle.gr_base.specs.declared.frame.Layer.{Layer}
use Rattle.gr_base.specs.declared.grid.Cell.{Cell}
use Rattle.gr_base.specs.declared.grid.Edge.{Edge}
use Rattle.gr_base.specs.declared.grid.Shape.{Shape}

-- a wall is a set of tiles, by the test of a tile's column and row
abbrev pub Tiles : Type 0
Tiles = ℕ → ℕ → Bool

-- the straight cuts behind a column and behind a row, which have the columns and rows up to it inside
abbrev pub column_cut : ℕ → Tiles
column_cut last x y = nat_le x last

abbrev pub row_cut : ℕ → Tiles
row_cut last x y = nat_le y last

-- the box from a tile to a tile, both inside
abbrev pub box_wall : ℕ → ℕ → ℕ → ℕ → Tiles
box_wall x0 y0 x1 y1 x y = nat_le x0 x && nat_le x x1 && nat_le y0 y && nat_le y y1

-- the tile of a place lies inside, and so does a cell's
abbrev pub has_place : Tiles → Cell → Bool
has_place wall place = wall place.x place.y

abbrev pub encloses : Shape → Tiles → ℕ → Bool
encloses g wall cell = has_place wall (place_at g cell)

-- one of the two is true, and the other isn't
abbrev pub differ : Bool → Bool → Bool
differ true b = not b
differ false b = b

-- an edge leads through where one end is inside and the other isn't
abbrev pub leads_through : Shape → (ℕ → Bool) → Edge → Bool
leads_through g inside e = differ (inside e.low) (inside (high_of g e))

abbrev pub crosses : Shape → Tiles → Edge → Bool
crosses g wall e = leads_through g (encloses g wall) e

-- some of these cells are inside, and some aren't
abbrev pub is_parted : (ℕ → Bool) → List ℕ → Bool
is_parted inside cells = list_any inside cells && list_any (λ cell. not (inside cell)) cells

-- what a wire of a width takes on a layer: its width, which is at least the layer's, and the layer's spacing
abbrev pub taken_on : ℕ → Layer → ℕ
taken_on width layer = max width layer.width + layer.spacing

-- the least that a net takes of a wire edge, over the layers of the grid
abbrev pub least_on : ℕ → List Layer → ℕ
least_on width layers = unwrap_or (reduce min (map (taken_on width) layers)) 0

abbrev pub least_need : DesignView → ℕ → ℕ
least_need d net = least_on (width_in (widths_of d) net) (layers_of d.frame)

-- what a net needs of the edges of a wall that parts its pins
abbrev pub need_across : DesignView → Tiles → ℕ → ℕ
need_across d wall net = if is_parted (encloses d.frame.shape wall) (pins_at d net) then least_need d net else 0

-- what the routed nets need of a wall's edges
abbrev pub needs : DesignView → Tiles → ℕ
needs d wall = sum_routed d (need_across d wall)

-- what the wire edges of a wall hold, on every layer: their capacities, whether they are usable or not
abbrev pub holds : DesignView → Tiles → ℕ
holds d wall = sum_by (λ e. if crosses d.frame.shape wall e then capacity d e else 0) (wire_edges d.frame.shape)

-- by how much the nets need more than the wall holds, below 0 where they need less
abbrev pub excess : DesignView → Tiles → ℤ
excess d wall = pos (needs d wall) -ℤ pos (holds d wall)

abbrev pub total_excess : DesignView → List Tiles → ℤ
total_excess d [] = pos 0
total_excess d (wall ∷ walls) = excess d wall +ℤ total_excess d walls

-- two walls have a wire edge in common
abbrev pub share_edge : Shape → Tiles → Tiles → Bool
share_edge g wall other = list_any (λ e. crosses g wall e && crosses g other e) (wire_edges g)

-- no two of these walls have an edge in common
abbrev pub ShareNoEdge : Shape → List Tiles → Type 0
ShareNoEdge g [] = Unit {0}
ShareNoEdge g (wall ∷ walls) = All (λ other. share_edge g wall other ≡ false) walls × ShareNoEdge g walls

-- each routed net has a set of the grid's edges that joins its pins
pub record JoinNets (d : DesignView) (sets : ℕ → Edges) : Type 0 where
  pub inside : (net : ℕ) → IsTrue (is_routed d net) → (e : Edge) → IsTrue (sets net e) → IsTrue (has_edge d.frame.shape e)
  pub joined : (net : ℕ) → IsTrue (is_routed d net) → IsJoined d.frame.shape (sets net) (pins_at d net)
