-- What the fields of a capacity keep.
use Rattle.std.specs.Prelude.{◌≡◌}
use Rattle.grid_demand.specs.Planes.{by_number}
use Rattle.grid_demand.specs.Tables.{CapacityView, IsCapacity, cell_layers}
use Rattle.grid_demand.specs.declared.capacity.Capacity.TheInside.{Inside}

-- what the fields say
abbrev pub seen : Inside → CapacityView
seen c = record {
  shape = c.shape;
  layers = c.layers;
  widths = c.widths.items;
  capacities = by_number 0 c.capacities.items;
}

-- the tables are whole, and each cell's layer stands beside it
pub record Keeps (c : Inside) : Type 0 where
  pub tables : IsCapacity (seen c)
  pub cells : c.cell_layers.items ≡ cell_layers c.shape
