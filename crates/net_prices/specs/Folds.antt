-- A grid whose layers are taken as one.
use Rattle.std.specs.Prelude.{◌≡◌, ℕ, Bool, true, false}
use Rattle.gr_base.specs.Grid.{number_of, place_at}
use Rattle.gr_base.specs.declared.grid.Shape.{Shape}

-- the cell of the first layer under a cell: its number is the one that the cell has where all layers are one
abbrev pub tile_of : Shape → ℕ → ℕ
tile_of g cell = number_of g (record { x = (place_at g cell).x; y = (place_at g cell).y; layer = 0 })

-- where a cell stands, with the layers as one or as they are
abbrev pub folded : (flat : Bool) → Shape → ℕ → ℕ
folded true g cell = tile_of g cell
folded false g cell = cell

-- a grid with its layers as one, or as they are
pub record IsFoldOf (flat : Bool) (g small : Shape) : Type 0 where
  pub columns : small.columns ≡ g.columns
  pub rows : small.rows ≡ g.rows
  pub one : flat ≡ true → small.layers ≡ 1
  pub same : flat ≡ false → small ≡ g
