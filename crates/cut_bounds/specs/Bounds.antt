-- The bounds of a design, and their text.
use Rattle.std.specs.Prelude.{ℕ, List, ◌++◌, codes}
use Rattle.std.specs.Fmt.{decimal}
use Rattle.std.specs.List.{flat_map}
use Rattle.gr_text.specs.Lines.{number_line}
use Rattle.cut_bounds.specs.declared.wall.MeasuredWall.{MeasuredWall}
use Rattle.cut_bounds.specs.declared.wall.Wall.{Wall}
use Rattle.cut_bounds.specs.declared.wall.Wall.TheVariants.{Column, Row, Box}

pub record BoundsView : Type 0 where
  -- what total overflow, wirelength, and wirelength along usable edges are at least
  pub overflow : ℕ
  pub wirelength : ℕ
  pub usable_wirelength : ℕ
  -- how many straight cuts and boxes are taken
  pub columns : ℕ
  pub rows : ℕ
  pub boxes : ℕ
  -- the fullest walls
  pub fullest : List MeasuredWall

-- a wall by its word and its numbers
abbrev pub wall_text : Wall → List ℕ
wall_text (Column x) = codes "column " ++ decimal x
wall_text (Row y) = codes "row " ++ decimal y
wall_text (Box b) =
    codes "box " ++ decimal b.x0 ++ codes " " ++ decimal b.y0 ++ codes " " ++ decimal b.x1 ++ codes " " ++ decimal b.y1

abbrev pub wall_line : MeasuredWall → List ℕ
wall_line m = wall_text m.wall ++ codes " needs " ++ decimal m.needs ++ codes " holds " ++ decimal m.holds ++ codes "\n"

-- how many walls of each kind are taken
abbrev pub taken_text : BoundsView → List ℕ
taken_text b =
    number_line (codes "column cuts") b.columns ++
    number_line (codes "row cuts") b.rows ++
    number_line (codes "boxes") b.boxes

-- the figures, further lines, and the fullest walls, a line each
abbrev pub bounds_text : BoundsView → (further : List ℕ) → List ℕ
bounds_text b further =
    number_line (codes "overflow at least") b.overflow ++
    number_line (codes "wirelength at least") b.wirelength ++
    number_line (codes "usable wirelength at least") b.usable_wirelength ++
    further ++
    taken_text b ++
    flat_map wall_line b.fullest
