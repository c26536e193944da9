-- What the wire edges between neighbouring tiles hold on all layers together.
use Rattle.std.specs.Prelude.{◌≡◌, ℕ, ◌+◌, ◌*◌, Bool, List, length, sum_by, slice_index, slice_set, if◌then◌else◌}
use Rattle.std.specs.List.{range_with_len}
use Rattle.gr_base.specs.Capacities.{capacity}
use Rattle.gr_base.specs.Designs.{DesignView}
use Rattle.gr_base.specs.Grid.{has_edge}
use Rattle.gr_base.specs.Sums.{wire_edges}
use Rattle.gr_base.specs.declared.grid.Edge.{Edge}
use Rattle.gr_base.specs.declared.grid.Shape.{Shape}
use Rattle.gr_base.specs.declared.grid.Way.{Way}
use Rattle.gr_base.specs.declared.grid.Way.TheVariants.{East, North}
use Rattle.grid_demand.specs.Tables.{CapacityView, capacity_at}
use Rattle.wall_laws.specs.Spans.{tile_number}
use Rattle.cut_bounds.specs.declared.tile_wires.TileWires.{TileWires}

-- a sum over the numbers below a number
abbrev pub sum_below : ℕ → (ℕ → ℕ) → ℕ
sum_below n f = sum_by f (range_with_len 0 n)

abbrev pub tiles_of : Shape → ℕ
tiles_of g = g.columns * g.rows

-- a number, where a test holds
abbrev pub where_so : Bool → ℕ → ℕ
where_so so n = if so then n else 0

-- what the wires that lead from a tile hold, of those that pass a test
abbrev pub passing_at : (Way → ℕ → Bool) → TileWires → ℕ → ℕ
passing_at passes wires tile =
    where_so (passes East tile) (slice_index wires.east.items tile) +
    where_so (passes North tile) (slice_index wires.north.items tile)

-- what both wires that lead from a tile hold
abbrev pub held_by : TileWires → ℕ → ℕ
held_by wires tile = slice_index wires.east.items tile + slice_index wires.north.items tile

-- by tile, what the wire edges hold on all layers together: so it is for any that pass a test by tile and way
pub record AreTileWires (d : DesignView) (wires : TileWires) : Type 0 where
  pub east : length wires.east.items ≡ tiles_of d.frame.shape
  pub north : length wires.north.items ≡ tiles_of d.frame.shape
  pub passing : (passes : Way → ℕ → Bool) →
      sum_below (tiles_of d.frame.shape) (passing_at passes wires)
      ≡ sum_by (λ e. where_so (passes e.way (tile_number d.frame.shape e.low)) (capacity d e))
      (wire_edges d.frame.shape)

-- what an edge holds, where it is one of the grid's
abbrev pub edge_holds : CapacityView → Edge → ℕ
edge_holds c e = where_so (has_edge c.shape e) (capacity_at c e)

-- a list of numbers of which one has gained some
abbrev pub gained : List ℕ → ℕ → ℕ → List ℕ
gained numbers at more = slice_set numbers at (slice_index numbers at + more)
