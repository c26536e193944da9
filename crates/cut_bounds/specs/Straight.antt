-- The straight cuts along an axis.
use Rattle.std.specs.Prelude.{ℕ, ◌-◌, List, map}
use Rattle.std.specs.List.{range_with_len}
use Rattle.gr_base.specs.Designs.{DesignView}
use Rattle.cut_bounds.specs.Cuts.{lines_of}
use Rattle.cut_bounds.specs.Measured.{measured}
use Rattle.cut_bounds.specs.declared.axis.Axis.{Axis}
use Rattle.cut_bounds.specs.declared.axis.Axis.TheVariants.{Columns, Rows}
use Rattle.cut_bounds.specs.declared.wall.MeasuredWall.{MeasuredWall}
use Rattle.cut_bounds.specs.declared.wall.Wall.{Wall}
use Rattle.cut_bounds.specs.declared.wall.Wall.TheVariants.{Column, Row}

-- the cut behind a column or a row
abbrev pub wall_behind : Axis → ℕ → Wall
wall_behind Columns line = Column line
wall_behind Rows line = Row line

-- the cuts behind the first lines
abbrev pub first_cuts : DesignView → Axis → ℕ → List MeasuredWall
first_cuts d axis count = map (measured d) (map (wall_behind axis) (range_with_len 0 count))

-- the cuts behind each line but the last
abbrev pub cuts_along : DesignView → Axis → List MeasuredWall
cuts_along d axis = first_cuts d axis (lines_of d.frame.shape axis - 1)
