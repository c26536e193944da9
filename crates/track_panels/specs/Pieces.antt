-- The pieces of a panel, and the tiles that they cover.
use Rattle.std.specs.Prelude.{ℕ, ◌<◌, ◌≤◌, ◌^◌, Bool, ◌&&◌, nat_le, List, length, All, count_by}
use Rattle.std.specs.List.{AllPairs}
use Rattle.gr_base.specs.Limits.{most_cells}
use Rattle.track_panels.specs.declared.piece.Piece.{Piece}

-- the piece covers the tile: its ends and all tiles between
abbrev pub covers : ℕ → Piece → Bool
covers tile piece = nat_le piece.low tile && nat_le tile piece.high

-- two pieces have a common tile
abbrev pub meet : Piece → Piece → Bool
meet a b = nat_le a.low b.high && nat_le b.low a.high

-- how many of the pieces cover the tile
abbrev pub covering : ℕ → List Piece → ℕ
covering tile pieces = count_by (covers tile) pieces

-- the pieces lie on a chip, and go by rising low ends
pub record AreInOrder (pieces : List Piece) : Type 0 where
  pub long : All (λ piece. piece.low < piece.high) pieces
  pub within : All (λ piece. piece.high < most_cells) pieces
  pub rising : AllPairs (λ a b. a.low ≤ b.low) pieces

-- the pieces of a panel
pub record ArePieces (pieces : List Piece) : Type 0 where
  pub some : 0 < length pieces
  pub few : length pieces < 2 ^ 31
  pub order : AreInOrder pieces
