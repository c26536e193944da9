-- How much wire and how many vias the pins of a net ask for.
use Rattle.std.specs.Prelude.{ℕ, ◌+◌, ◌-◌, ◌*◌, ◌%◌, ◌==◌, Bool, not, ◌&&◌, nat_le, max, min, List, [], ◌∷◌, length, map, filter, take, sum_by, Some, unwrap_or, IsTrue, if◌then◌else◌}
use Rattle.std.specs.List.{list_all, range_with_len, reduce}
use Rattle.gr_base.specs.Capacities.{usable, usable_along}
use Rattle.gr_base.specs.Designs.{DesignView, is_routed, pins_at}
use Rattle.gr_base.specs.EdgeSets.{Edges}
use Rattle.gr_base.specs.Grid.{place_at}
use Rattle.gr_base.specs.Sums.{sum_routed}
use Rattle.gr_base.specs.Trees.{is_among}
use Rattle.gr_base.specs.declared.frame.Frame.{Frame}
use Rattle.gr_base.specs.declared.frame.Layer.{Layer}
use Rattle.gr_base.specs.declared.grid.Edge.{Edge}
use Rattle.gr_base.specs.declared.grid.Shape.{Shape}
use Rattle.gr_base.specs.declared.grid.Way.{Way}
use Rattle.gr_base.specs.declared.grid.Way.TheVariants.{East, North}
use Rattle.wall_laws.specs.Walls.{is_parted}

-- the least and the greatest of some numbers, or 0, and how far they are apart
abbrev pub least_of : List ℕ → ℕ
least_of numbers = unwrap_or (reduce min numbers) 0

abbrev pub most_of : List ℕ → ℕ
most_of numbers = unwrap_or (reduce max numbers) 0

abbrev pub spread : List ℕ → ℕ
spread numbers = most_of numbers - least_of numbers

-- how many different numbers there are: each counts where it stands last
abbrev pub different : List ℕ → ℕ
different [] = 0
different (number ∷ numbers) = (if is_among numbers number then 0 else 1) + different numbers

-- the column, the row, the layer and the tile's number of a cell
abbrev pub column_of : Shape → ℕ → ℕ
column_of g cell = (place_at g cell).x

abbrev pub row_of : Shape → ℕ → ℕ
row_of g cell = (place_at g cell).y

abbrev pub layer_of : Shape → ℕ → ℕ
layer_of g cell = (place_at g cell).layer

abbrev pub tile_number : Shape → ℕ → ℕ
tile_number g cell = cell % (g.columns * g.rows)

-- the wire edges that pins ask for: half the perimeter of their box, or one less than their tiles, whichever is more
abbrev pub least_wires : Shape → List ℕ → ℕ
least_wires g pins =
    max (spread (map (column_of g) pins) + spread (map (row_of g) pins)) (different (map (tile_number g) pins) - 1)

-- the via edges that they ask for, where wires may run any way
abbrev pub least_vias : Shape → List ℕ → ℕ
least_vias g pins = spread (map (layer_of g) pins)

-- what a net's wirelength is at least
abbrev pub least_length : DesignView → ℕ → ℕ → ℕ
least_length d via_cost net =
    least_wires d.frame.shape (pins_at d net) + via_cost * least_vias d.frame.shape (pins_at d net)

-- what the wirelength of all routed nets is at least
abbrev pub least_wirelength : DesignView → ℕ → ℕ
least_wirelength d via_cost = sum_routed d (least_length d via_cost)

-- the first layers, up to this one, all are unusable that way
abbrev pub is_blocked : Frame → Way → ℕ → Bool
is_blocked frame way layer = list_all (λ (l : Layer). not (usable_along way (Some l))) (take (layer + 1) frame.layers)

-- the cell is at this layer or below
abbrev pub is_low : Shape → ℕ → ℕ → Bool
is_low g layer cell = nat_le (layer_of g cell) layer

-- the vias that pins force which lie in so many lines that no low wire leads out of:
-- one a line, but none where all pins lie in one of them
abbrev pub forced_by : Bool → ℕ → ℕ
forced_by all lines = if all && lines == 1 then 0 else lines

-- the via edges above a layer that the pins at it and below force, where low wires can't leave their line of tiles
abbrev pub forced : Frame → Way → (ℕ → ℕ) → List ℕ → ℕ → ℕ
forced frame way line pins layer =
    if is_blocked frame way layer
    then forced_by (list_all (is_low frame.shape layer) pins) (different (map line (filter (is_low frame.shape layer) pins)))
    else 0

-- the via edges above a layer that pins ask for, along usable edges
abbrev pub vias_above : Frame → List ℕ → ℕ → ℕ
vias_above frame pins layer =
    max (if is_parted (is_low frame.shape layer) pins then 1 else 0)
    (max (forced frame North (row_of frame.shape) pins layer) (forced frame East (column_of frame.shape) pins layer))

abbrev pub least_usable_vias : Frame → List ℕ → ℕ
least_usable_vias frame pins = sum_by (vias_above frame pins) (range_with_len 0 (frame.shape.layers - 1))

-- what a net's wirelength along usable edges is at least
abbrev pub least_usable_length : DesignView → ℕ → ℕ → ℕ
least_usable_length d via_cost net =
    least_wires d.frame.shape (pins_at d net) + via_cost * least_usable_vias d.frame (pins_at d net)

abbrev pub least_usable_wirelength : DesignView → ℕ → ℕ
least_usable_wirelength d via_cost = sum_routed d (least_usable_length d via_cost)

-- the sets of the routed nets have usable edges alone
abbrev pub AreUsable : DesignView → (ℕ → Edges) → Type 0
AreUsable d sets = (net : ℕ) → IsTrue (is_routed d net) → (e : Edge) → IsTrue (sets net e) → IsTrue (usable d e)
