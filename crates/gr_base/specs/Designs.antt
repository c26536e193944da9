-- Designs, and where the tiles of a chip lie.
use Rattle.std.specs.Prelude.{◌≡◌, ℕ, ◌+◌, ◌-◌, ◌*◌, ◌/◌, ◌<◌, ◌≤◌, ℤ, pos, negsuc, ◌+ℤ◌, ◌-ℤ◌, ◌≤ℤ◌, Bool, false, ◌&&◌, ◌==◌, nat_lt, nat_le, min, List, [], ◌∷◌, ◌++◌, length, slice_get, sum_by, take, All, Any, Option, Some, None, if◌then◌else◌, option_and_then, IsTrue}
use Rattle.gr_base.specs.Limits.{most_nets, most_pins, most_adjustments, most_id, most_capacity, most_width, most_tile, most_lower, most_routed_pins}
use Rattle.gr_base.specs.Names.{is_token}
use Rattle.gr_base.specs.Grid.{cells_of, has_edge, is_wire, place_at}
use Rattle.gr_base.specs.declared.frame.Layer.{Layer}
use Rattle.gr_base.specs.declared.frame.Frame.{Frame}
use Rattle.gr_base.specs.declared.frame.Net.{Net}
use Rattle.gr_base.specs.declared.frame.Adjustment.{Adjustment}
use Rattle.gr_base.specs.declared.frame.Point.{Point}
use Rattle.gr_base.specs.declared.grid.Shape.{Shape}

-- what a design says: its frame, its nets in order, and its adjustments in order
pub record DesignView : Type 0 where
  pub frame : Frame
  pub nets : List Net
  pub adjustments : List Adjustment

-- the numbers of a layer are in range
pub record IsLayer (layer : Layer) : Type 0 where
  pub vertical : layer.vertical ≤ most_capacity
  pub horizontal : layer.horizontal ≤ most_capacity
  pub width : layer.width ≤ most_width
  pub spacing : layer.spacing ≤ most_width
  pub via : layer.via ≤ most_width

-- the layers that the grid has, of those that the frame names
abbrev pub layers_of : Frame → List Layer
layers_of frame = take frame.shape.layers frame.layers

-- the numbers of a frame are in range, and wires can run along each way in which the grid is wider than one tile
pub record IsFrame (frame : Frame) : Type 0 where
  pub count : length frame.layers ≡ 16
  pub layers : All IsLayer frame.layers
  pub horizontal : 1 < frame.shape.columns → Any (λ layer. 0 < layer.horizontal) (layers_of frame)
  pub vertical : 1 < frame.shape.rows → Any (λ layer. 0 < layer.vertical) (layers_of frame)
  pub left : (negsuc (most_lower - 1) ≤ℤ frame.lower_x) × (frame.lower_x ≤ℤ pos most_lower)
  pub bottom : (negsuc (most_lower - 1) ≤ℤ frame.lower_y) × (frame.lower_y ≤ℤ pos most_lower)
  pub wide : (0 < frame.tile_width) × (frame.tile_width ≤ most_tile)
  pub high : (0 < frame.tile_height) × (frame.tile_height ≤ most_tile)

-- a net has a name that is a token, numbers in range, and at least one pin, each on a cell
pub record IsNet (g : Shape) (net : Net) : Type 0 where
  pub name : IsTrue (is_token net.name)
  pub id : net.id ≤ most_id
  pub width : net.width ≤ most_width
  pub driver : 0 < length net.pins
  pub pins : All (λ pin. pin < cells_of g) net.pins

-- an adjustment names a wire edge of the grid
pub record IsAdjustment (g : Shape) (adjustment : Adjustment) : Type 0 where
  pub edge : IsTrue (has_edge g adjustment.edge)
  pub wire : IsTrue (is_wire adjustment.edge)
  pub capacity : adjustment.capacity ≤ most_capacity

-- the design with one more net, and with one more adjustment
abbrev pub with_net : Net → DesignView → DesignView
with_net net d = record { frame = d.frame; nets = d.nets ++ net ∷ []; adjustments = d.adjustments }

abbrev pub with_adjustment : Adjustment → DesignView → DesignView
with_adjustment adjustment d = record { frame = d.frame; nets = d.nets; adjustments = d.adjustments ++ adjustment ∷ [] }

-- the number of the first net with this id, where the first of the list has the number given
abbrev pub net_from : ℕ → ℕ → List Net → Option ℕ
net_from number id [] = None
net_from number id (net ∷ nets) = if id == net.id then Some number else net_from (number + 1) id nets

-- the number of the net with this id
abbrev pub net_with_id : DesignView → ℕ → Option ℕ
net_with_id d id = net_from 0 id d.nets

-- how many pins the nets have together
abbrev pub pins_of : List Net → ℕ
pins_of nets = sum_by (λ net. length net.pins) nets

-- each part is in range, and no two nets have one id
pub record IsDesign (d : DesignView) : Type 0 where
  pub frame : IsFrame d.frame
  pub nets : All (IsNet d.frame.shape) d.nets
  pub ids : (number : ℕ) → (net : Net) → slice_get d.nets number ≡ Some net → net_with_id d net.id ≡ Some number
  pub adjustments : All (IsAdjustment d.frame.shape) d.adjustments
  pub few_nets : length d.nets ≤ most_nets
  pub few_pins : pins_of d.nets ≤ most_pins
  pub few_adjustments : length d.adjustments ≤ most_adjustments

-- a net of 1 to 1,000 pins is routed
abbrev pub is_routed_net : Option Net → Bool
is_routed_net None = false
is_routed_net (Some net) = nat_lt 0 (length net.pins) && nat_le (length net.pins) most_routed_pins

abbrev pub is_routed : DesignView → ℕ → Bool
is_routed d number = is_routed_net (slice_get d.nets number)

-- each of these nets is routed
abbrev pub AreRouted : DesignView → List ℕ → Type 0
AreRouted d nets = All (λ net. IsTrue (is_routed d net)) nets

-- the cells of a net's pins, in order; none where there is no such net
abbrev pub pins_in : Option Net → List ℕ
pins_in None = []
pins_in (Some net) = net.pins

abbrev pub pins_at : DesignView → ℕ → List ℕ
pins_at d number = pins_in (slice_get d.nets number)

-- how far a coordinate lies above the lower border, if it does
abbrev pub above : ℤ → Option ℕ
above (pos n) = Some n
above (negsuc n) = None

-- the tile at an offset from the lower border, of a number of tiles of one size; the upper border is the last tile's
abbrev pub tile_within : ℕ → ℕ → ℕ → Option ℕ
tile_within size count offset = if nat_le offset (count * size) then Some (min (offset / size) (count - 1)) else None

-- the tile of a coordinate, or None outside the chip
abbrev pub tile_of : ℤ → ℕ → ℕ → ℤ → Option ℕ
tile_of lower size count at = option_and_then (tile_within size count) (above (at -ℤ lower))

-- the middle of a tile, with the half rounded down
abbrev pub middle : ℤ → ℕ → ℕ → ℤ
middle lower size tile = lower +ℤ pos (tile * size + size / 2)

-- the centre of a cell
abbrev pub centre_of : Frame → ℕ → Point
centre_of frame cell =
    let place = place_at frame.shape cell in
    record {
      x = middle frame.lower_x frame.tile_width place.x;
      y = middle frame.lower_y frame.tile_height place.y;
      layer = place.layer + 1;
    }
