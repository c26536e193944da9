-- What a panel's tracks are seen as.
use Rattle.std.specs.Prelude.{ℕ, List}

-- the track of each piece, in the order of the pieces, how many tracks there are, and a tile that as many pieces cover
pub record PanelView : Type 0 where
  pub numbers : List ℕ
  pub tracks : ℕ
  pub point : ℕ
