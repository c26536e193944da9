-- The numbers of a segment's ends, in the order in which they are checked.
use Rattle.std.specs.Prelude.{ℕ, ◌-◌, Bool, List, ◌&&◌, nat_lt, nat_le, ℤ, pos, negsuc, nat_abs, Option, Some, None, option_map, option_and_then, is_some, Ok, Err, if◌then◌else◌}
use Rattle.gr_base.specs.declared.frame.Frame.{Frame}
use Rattle.gr_base.specs.declared.grid.Cell.{Cell}
use Rattle.gr_base.specs.declared.grid.Shape.{Shape}
use Rattle.gr_base.specs.Limits.{most_id, most_coordinate}
use Rattle.gr_base.specs.Grid.{number_of}
use Rattle.gr_base.specs.Designs.{tile_of}
use Rattle.gr_text.specs.Numbers.{whole_value, number_in}
use Rattle.solution_text.specs.declared.run.Run.{Run}
use Rattle.solution_text.specs.declared.fault.SolutionFault.TheVariants.{Outside, Slanted}
use Rattle.solution_text.specs.Grammar.{Checked, ◌>>=◌, given, is_straight}
use Rattle.route_reader.specs.declared.segment.Written.{Written}
use Rattle.route_reader.specs.declared.spot.Spot.{Spot}

-- each number of a point is whole
abbrev pub are_whole : Written → Bool
are_whole point =
    is_some (whole_value point.x.now) && is_some (whole_value point.y.now) && is_some (whole_value point.layer.now)

-- a coordinate in range
abbrev pub coordinate : List ℕ → Option ℤ
coordinate text = number_in (negsuc (most_coordinate - 1)) (pos most_coordinate) text

-- the numbers of a point, if they are in range
abbrev pub spot_in : Written → Option Spot
spot_in point =
    option_and_then (λ x.
    option_and_then (λ y.
    option_map (λ layer. record { x = x; y = y; layer = nat_abs layer })
    (number_in (pos 0) (pos most_id) point.layer.now))
    (coordinate point.y.now))
    (coordinate point.x.now)

-- the layer of a number; layers are written from 1 on
abbrev pub layer_in : ℕ → ℕ → Option ℕ
layer_in layers n = if nat_lt 0 n && nat_le n layers then Some (n - 1) else None

-- the place of a spot
abbrev pub place_of : Frame → Spot → Option Cell
place_of frame spot =
    option_and_then (λ x.
    option_and_then (λ y.
    option_map (λ layer. record { x = x; y = y; layer = layer })
    (layer_in frame.shape.layers spot.layer))
    (tile_of frame.lower_y frame.tile_height frame.shape.rows spot.y))
    (tile_of frame.lower_x frame.tile_width frame.shape.columns spot.x)

-- the run between two places
abbrev pub run_of_places : Shape → Cell → Cell → Checked Run
run_of_places g a b = if is_straight a b then Ok (record { from = number_of g a; to = number_of g b }) else Err Slanted

-- the run between two spots in range
abbrev pub run_of_spots : Frame → Spot → Spot → Checked Run
run_of_spots frame a b = do
  from ← given (place_of frame a) Outside
  to ← given (place_of frame b) Outside
  run_of_places frame.shape from to
