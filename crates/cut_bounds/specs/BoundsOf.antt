-- The bounds of a design.
use Rattle.std.specs.Prelude.{ℕ, Bool, true, false, List, ◌++◌, count_by, filter, sum_by}
use Rattle.gr_base.specs.Designs.{DesignView}
use Rattle.wall_laws.specs.Spans.{least_wirelength, least_usable_wirelength}
use Rattle.cut_bounds.specs.Bounds.{BoundsView}
use Rattle.cut_bounds.specs.Candidates.{straight_cuts}
use Rattle.cut_bounds.specs.Fullest.{fullest_of}
use Rattle.cut_bounds.specs.Taken.{excess_of, taken_walls}
use Rattle.cut_bounds.specs.declared.wall.MeasuredWall.{MeasuredWall}
use Rattle.cut_bounds.specs.declared.wall.Wall.{Wall}
use Rattle.cut_bounds.specs.declared.wall.Wall.TheVariants.{Column, Row, Box}

-- the kinds of walls
abbrev pub is_column_wall : Wall → Bool
is_column_wall (Column x) = true
is_column_wall (Row y) = false
is_column_wall (Box b) = false

abbrev pub is_row_wall : Wall → Bool
is_row_wall (Column x) = false
is_row_wall (Row y) = true
is_row_wall (Box b) = false

abbrev pub is_box_wall : Wall → Bool
is_box_wall (Column x) = false
is_box_wall (Row y) = false
is_box_wall (Box b) = true

abbrev pub is_column : MeasuredWall → Bool
is_column m = is_column_wall m.wall

abbrev pub is_row : MeasuredWall → Bool
is_row m = is_row_wall m.wall

abbrev pub is_box : MeasuredWall → Bool
is_box m = is_box_wall m.wall

-- the walls of which the fullest are told: all straight cuts, and the boxes that are taken
abbrev pub told_of : (straight taken : List MeasuredWall) → List MeasuredWall
told_of straight taken = straight ++ filter is_box taken

-- the bounds that some walls show which are taken, where these are the straight cuts and these the least wirelengths
abbrev pub bounds_by : (wirelength usable : ℕ) → (straight taken : List MeasuredWall) → BoundsView
bounds_by wirelength usable straight taken = record {
  overflow = sum_by excess_of taken;
  wirelength = wirelength;
  usable_wirelength = usable;
  columns = count_by is_column taken;
  rows = count_by is_row taken;
  boxes = count_by is_box taken;
  fullest = fullest_of (told_of straight taken);
}

abbrev pub bounds_of : DesignView → (via_cost : ℕ) → BoundsView
bounds_of d via_cost =
    bounds_by (least_wirelength d via_cost) (least_usable_wirelength d via_cost) (straight_cuts d) (taken_walls d)
