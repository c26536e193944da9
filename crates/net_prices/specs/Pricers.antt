-- Pricers of nets.
use Rattle.std.specs.Prelude.{ℕ, Bool, List}
use Rattle.gr_base.specs.declared.grid.Shape.{Shape}
use Rattle.net_prices.specs.declared.fold.Fold.{Fold}

-- the grid, whether its layers are taken as one, the grid that is made of them, and what each arc of that one costs
pub record PricerView : Type 0 where
  pub shape : Shape
  pub flat : Bool
  pub small : Shape
  pub table : List ℕ

-- a table of what arcs cost
abbrev pub priced_by : Fold → List ℕ → PricerView
priced_by fold table = record { shape = fold.shape; flat = fold.flat; small = fold.small; table = table }
