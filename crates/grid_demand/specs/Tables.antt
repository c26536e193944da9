-- The tables of a capacity.
use Rattle.std.specs.Prelude.{◌≡◌, ℕ, ◌*◌, ◌≤◌, Bool, List, All, length, map, slice_get, slice_index}
use Rattle.std.specs.List.{range_with_len}
use Rattle.gr_base.specs.Capacities.{stated, capacity, usable_along, need_along, width_in, widths_of}
use Rattle.gr_base.specs.Designs.{DesignView, IsLayer}
use Rattle.gr_base.specs.Grid.{cells_of, edge_at, place_at}
use Rattle.gr_base.specs.Limits.{most_capacity, most_width}
use Rattle.gr_base.specs.Sums.{wire_number, wires_from_cells}
use Rattle.gr_base.specs.declared.frame.Frame.{Frame}
use Rattle.gr_base.specs.declared.frame.Layer.{Layer}
use Rattle.gr_base.specs.declared.grid.Edge.{Edge}
use Rattle.gr_base.specs.declared.grid.Shape.{Shape}
use Rattle.gr_base.specs.declared.grid.Way.{Way}

-- what a design says of capacity: its grid and layers, the widths of its nets, and the capacities of wire edges by number
pub record CapacityView : Type 0 where
  pub shape : Shape
  pub layers : List Layer
  pub widths : List ℕ
  pub capacities : List ℕ

-- what the layers state for the wire edges, and the capacities of the wire edges, by number
abbrev pub stated_table : Frame → List ℕ
stated_table frame = map (stated frame) (wires_from_cells frame.shape)

-- what the layers state for the wire edges from the first cells that go a way
abbrev pub stated_along_way : Frame → Way → ℕ → List ℕ
stated_along_way frame way cells = map (λ cell. stated frame (edge_at cell way)) (range_with_len 0 cells)

abbrev pub capacity_table : DesignView → List ℕ
capacity_table d = map (capacity d) (wires_from_cells d.frame.shape)

-- the capacity of a design
abbrev pub capacity_of : DesignView → CapacityView
capacity_of d = record {
  shape = d.frame.shape;
  layers = d.frame.layers;
  widths = widths_of d;
  capacities = capacity_table d;
}

-- the capacity of a wire edge, whether an edge is usable, and what a net takes of it
abbrev pub capacity_at : CapacityView → Edge → ℕ
capacity_at c e = slice_index c.capacities (wire_number e)

abbrev pub usable_at : CapacityView → Edge → Bool
usable_at c e = usable_along e.way (slice_get c.layers (place_at c.shape e.low).layer)

abbrev pub need_at : CapacityView → ℕ → Edge → ℕ
need_at c net e = need_along e.way (width_in c.widths net) (slice_get c.layers (place_at c.shape e.low).layer)

-- the tables are whole, and their numbers in range
pub record IsCapacity (c : CapacityView) : Type 0 where
  pub layers : length c.layers ≡ 16
  pub in_range : All IsLayer c.layers
  pub widths : All (λ width. width ≤ most_width) c.widths
  pub wires : length c.capacities ≡ 2 * cells_of c.shape
  pub capacities : All (λ capacity. capacity ≤ most_capacity) c.capacities

-- the layer of each cell
abbrev pub cell_layers : Shape → List ℕ
cell_layers g = map (λ cell. (place_at g cell).layer) (range_with_len 0 (cells_of g))
