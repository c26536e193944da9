-- The routed nets as walls see them: what each needs of an edge at least, and the tiles of its pins.
use Rattle.std.specs.Prelude.{◌≡◌, ℕ, List, [], ◌∷◌, length, map, filter, take, drop, sum_by}
use Rattle.std.specs.List.{range_with_len}
use Rattle.gr_base.specs.Designs.{DesignView, is_routed, pins_at}
use Rattle.gr_base.specs.Grid.{place_at}
use Rattle.gr_base.specs.declared.grid.Shape.{Shape}
use Rattle.wall_laws.specs.Walls.{least_need}
use Rattle.cut_bounds.specs.declared.axis.Tile.{Tile}
use Rattle.cut_bounds.specs.declared.net_tiles.NetNeed.{NetNeed}
use Rattle.cut_bounds.specs.declared.net_tiles.NetTiles.{NetTiles}

-- a net with what it needs of an edge at least, and with the tiles of its pins
pub record Placed : Type 0 where
  pub need : ℕ
  pub tiles : List Tile

-- the tile of a cell
abbrev pub tile_in : Shape → ℕ → Tile
tile_in g cell = record { x = (place_at g cell).x; y = (place_at g cell).y }

abbrev pub placed_net : DesignView → ℕ → Placed
placed_net d net = record { need = least_need d net; tiles = map (tile_in d.frame.shape) (pins_at d net) }

-- the routed nets of a design, in its order
abbrev pub placed_nets : DesignView → List Placed
placed_nets d = map (placed_net d) (filter (is_routed d) (range_with_len 0 (length d.nets)))

-- nets whose tiles stand one after another
abbrev pub placed_by : List NetNeed → List Tile → List Placed
placed_by [] tiles = []
placed_by (net_need ∷ net_needs) tiles =
    record { need = net_need.need; tiles = take net_need.pins tiles } ∷ placed_by net_needs (drop net_need.pins tiles)

-- how many pins nets have together
abbrev pub pins_counted : List NetNeed → ℕ
pins_counted net_needs = sum_by (λ (net_need : NetNeed). net_need.pins) net_needs

abbrev pub placed_in : NetTiles → List Placed
placed_in nets = placed_by nets.net_needs.items nets.tiles.items

-- there is a tile for each pin
abbrev pub AreWhole : NetTiles → Type 0
AreWhole nets = pins_counted nets.net_needs.items ≡ length nets.tiles.items
