-- Capacity, usable edges, and what nets need of edges.
use Rattle.std.specs.Prelude.{ℕ, ◌+◌, ◌==◌, Bool, true, not, max, List, map, reverse, find, slice_get, Option, Some, None, option_map, unwrap_or}
use Rattle.gr_base.specs.Designs.{DesignView}
use Rattle.gr_base.specs.EdgeSets.{is_edge}
use Rattle.gr_base.specs.Grid.{place_at}
use Rattle.gr_base.specs.declared.frame.Adjustment.{Adjustment}
use Rattle.gr_base.specs.declared.frame.Frame.{Frame}
use Rattle.gr_base.specs.declared.frame.Layer.{Layer}
use Rattle.gr_base.specs.declared.frame.Net.{Net}
use Rattle.gr_base.specs.declared.grid.Edge.{Edge}
use Rattle.gr_base.specs.declared.grid.Way.{Way}
use Rattle.gr_base.specs.declared.grid.Way.TheVariants.{East, North, Up}

-- the layer of an edge's low end
abbrev pub layer_at : Frame → Edge → Option Layer
layer_at frame e = slice_get frame.layers (place_at frame.shape e.low).layer

-- the capacity that a layer states for a way: the horizontal one for East, the vertical one for North
abbrev pub stated_along : Way → Option Layer → ℕ
stated_along way None = 0
stated_along East (Some layer) = layer.horizontal
stated_along North (Some layer) = layer.vertical
stated_along Up (Some layer) = 0

-- the capacity that an edge's layer states for it
abbrev pub stated : Frame → Edge → ℕ
stated frame e = stated_along e.way (layer_at frame e)

-- the capacity in the last adjustment of an edge
abbrev pub last_adjusted : List Adjustment → Edge → Option ℕ
last_adjusted adjustments e =
    option_map (λ (adjustment : Adjustment). adjustment.capacity)
    (find (λ (adjustment : Adjustment). is_edge e adjustment.edge) (reverse adjustments))

-- the capacity of a wire edge: the one in its last adjustment, else its layer's
abbrev pub capacity_by : Frame → List Adjustment → Edge → ℕ
capacity_by frame adjustments e = unwrap_or (last_adjusted adjustments e) (stated frame e)

abbrev pub capacity : DesignView → Edge → ℕ
capacity d e = capacity_by d.frame d.adjustments e

-- a way is usable on a layer where the layer states a capacity for it; every layer goes up
abbrev pub usable_along : Way → Option Layer → Bool
usable_along Up layer = true
usable_along way layer = not (stated_along way layer == 0)

-- an edge may be used, whatever its adjustments say
abbrev pub usable : DesignView → Edge → Bool
usable d e = usable_along e.way (layer_at d.frame e)

-- what a wire takes on a layer: its width, which is at least the layer's, and the layer's spacing; a via takes nothing
abbrev pub need_along : Way → ℕ → Option Layer → ℕ
need_along Up width layer = 0
need_along way width None = 0
need_along way width (Some layer) = max width layer.width + layer.spacing

-- the width of a net's wires, by the nets' widths
abbrev pub width_in : List ℕ → ℕ → ℕ
width_in widths net = unwrap_or (slice_get widths net) 0

abbrev pub widths_of : DesignView → List ℕ
widths_of d = map (λ (net : Net). net.width) d.nets

-- what a net takes of an edge, in units of width
abbrev pub need : DesignView → ℕ → Edge → ℕ
need d net e = need_along e.way (width_in (widths_of d) net) (layer_at d.frame e)
