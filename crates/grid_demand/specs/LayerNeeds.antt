-- What a net takes of the wire edges of a layer.
use Rattle.std.specs.Prelude.{◌≡◌, ℕ, ◌*◌, ◌<◌, ◌≤◌, IsTrue, slice_get}
use Rattle.gr_base.specs.Capacities.{need_along}
use Rattle.gr_base.specs.Grid.{is_wire, place_at}
use Rattle.gr_base.specs.Limits.{most_width}
use Rattle.gr_base.specs.declared.grid.Edge.{Edge}
use Rattle.grid_demand.specs.Tables.{CapacityView}
use Rattle.grid_demand.specs.declared.capacity.LayerNeed.{LayerNeed}

-- a net of a width takes that of each wire edge whose low end is one of the cells
pub record IsLayerNeed (c : CapacityView) (width : ℕ) (n : LayerNeed) : Type 0 where
  pub each : (e : Edge) → IsTrue (is_wire e) → n.from ≤ e.low → e.low < n.to →
      n.need ≡ need_along e.way width (slice_get c.layers (place_at c.shape e.low).layer)
  pub most : n.need ≤ 2 * most_width
