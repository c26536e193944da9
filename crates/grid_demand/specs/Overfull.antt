-- Which wire edges have more demand than capacity.
use Rattle.std.specs.Prelude.{◌≡◌, ℕ, ◌*◌, ◌<◌, Bool, false, nat_lt, List, map, length, slice_index, slice_index_or}
use Rattle.std.specs.List.{filter, range_with_len}
use Rattle.gr_base.specs.Grid.{cells_of}
use Rattle.gr_base.specs.Sums.{wire_number, total_overflow}
use Rattle.gr_base.specs.declared.grid.Edge.{Edge}
use Rattle.grid_demand.specs.LoadSums.{LoadsView, demand_at}
use Rattle.grid_demand.specs.Planes.{edge_placed}
use Rattle.grid_demand.specs.Tables.{CapacityView, capacity_at}

-- which wire edges have more demand than capacity, by number, and the sum of their overflow
pub record OverfullView : Type 0 where
  pub table : List Bool
  pub total : ℕ

-- a table by number says so of a wire edge
abbrev pub is_told : List Bool → Edge → Bool
is_told table e = slice_index_or table (wire_number e) false

-- the places in planes of the wire edges of which it says so, and those edges
abbrev pub told_places : List Bool → List ℕ
told_places table =
    filter (λ place. is_told table (edge_placed (length table) place)) (range_with_len 0 (length table))

abbrev pub told_edges : List Bool → List Edge
told_edges table = map (edge_placed (length table)) (told_places table)

-- the table and the sum are those of loads
pub record AreOverfull (c : CapacityView) (l : LoadsView) (over : OverfullView) : Type 0 where
  pub long : length over.table ≡ 2 * cells_of l.shape
  pub each : (n : ℕ) → n < 2 * cells_of l.shape →
      slice_index_or over.table n false ≡ nat_lt (slice_index c.capacities n) (slice_index l.demands n)
  pub total : over.total ≡ total_overflow l.shape (demand_at l) (capacity_at c)
