-- What no edge sets that join the routed nets can be below.
use Rattle.std.specs.Prelude.{ℕ, ◌≤◌, ◌≤ℤ◌, pos, List}
use Rattle.gr_base.specs.Designs.{DesignView, IsDesign}
use Rattle.gr_base.specs.EdgeSets.{Edges}
use Rattle.gr_base.specs.Sums.{total_over, wirelength}
use Rattle.wall_laws.specs.Walls.{Tiles, total_excess, ShareNoEdge, JoinNets}
use Rattle.wall_laws.specs.Spans.{least_wirelength, least_usable_wirelength, AreUsable}

-- total overflow is at least the excess of any walls of which no two share an edge
abbrev pub OverflowLaw : Type 0
OverflowLaw =
    (d : DesignView) → IsDesign d → (walls : List Tiles) → ShareNoEdge d.frame.shape walls →
    (sets : ℕ → Edges) → JoinNets d sets → total_excess d walls ≤ℤ pos (total_over d sets)

-- wirelength is at least what the pins' boxes, tiles and layers ask for
abbrev pub WirelengthLaw : Type 0
WirelengthLaw =
    (d : DesignView) → IsDesign d → (via_cost : ℕ) → (sets : ℕ → Edges) → JoinNets d sets →
    least_wirelength d via_cost ≤ wirelength d via_cost sets

-- along usable edges it is at least that with the vias that unusable ways force
abbrev pub UsableWirelengthLaw : Type 0
UsableWirelengthLaw =
    (d : DesignView) → IsDesign d → (via_cost : ℕ) → (sets : ℕ → Edges) → JoinNets d sets → AreUsable d sets →
    least_usable_wirelength d via_cost ≤ wirelength d via_cost sets

-- no edge sets that join the routed nets are below these figures
pub record AreBounds (d : DesignView) (via_cost over length usable_length : ℕ) : Type 0 where
  pub overflow : (sets : ℕ → Edges) → JoinNets d sets → over ≤ total_over d sets
  pub any_way : (sets : ℕ → Edges) → JoinNets d sets → length ≤ wirelength d via_cost sets
  pub along_usable : (sets : ℕ → Edges) → JoinNets d sets → AreUsable d sets → usable_length ≤ wirelength d via_cost sets
