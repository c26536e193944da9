-- Walls with what nets need of them and what they hold, and their order by a test.
use Rattle.std.specs.Prelude.{Bool, nat_lt, List, [], ◌∷◌, fold, if◌then◌else◌}
use Rattle.gr_base.specs.Designs.{DesignView}
use Rattle.wall_laws.specs.Walls.{Tiles, box_wall, column_cut, holds, needs, row_cut}
use Rattle.cut_bounds.specs.declared.wall.MeasuredWall.{MeasuredWall}
use Rattle.cut_bounds.specs.declared.wall.Wall.{Wall}
use Rattle.cut_bounds.specs.declared.wall.Wall.TheVariants.{Column, Row, Box}

-- the tiles inside a wall
abbrev pub tiles_in : Wall → Tiles
tiles_in (Column x) = column_cut x
tiles_in (Row y) = row_cut y
tiles_in (Box b) = box_wall b.x0 b.y0 b.x1 b.y1

-- a wall with what the nets of a design need of it and what it holds
abbrev pub measured : DesignView → Wall → MeasuredWall
measured d wall = record { wall = wall; needs = needs d (tiles_in wall); holds = holds d (tiles_in wall) }

-- the nets need more than the wall holds
abbrev pub is_overfull : MeasuredWall → Bool
is_overfull m = nat_lt m.holds m.needs

-- a list with one element more, behind those that it doesn't beat, and a list in the order of a test: those of which
-- none beats the other stay as they stand
abbrev pub ranked_with : {X : Type 0} → (X → X → Bool) → X → List X → List X
ranked_with beats x [] = x ∷ []
ranked_with beats x (y ∷ ys) = if beats x y then x ∷ y ∷ ys else y ∷ ranked_with beats x ys

abbrev pub ranked : {X : Type 0} → (X → X → Bool) → List X → List X
ranked beats xs = fold (λ so_far x. ranked_with beats x so_far) [] xs
