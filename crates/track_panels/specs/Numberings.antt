-- Numberings: a track for each piece of a panel, in the order of the pieces.
use Rattle.std.specs.Prelude.{◌≡◌, ◌↔◌, ℕ, ◌<◌, ◌≤◌, ◌==◌, ◌||◌, Bool, not, nat_lt, List, [], ◌∷◌, ◌++◌, length, All, Contains, Some, slice_get, take, IsTrue}
use Rattle.std.specs.List.{AllPairs, list_all, position_or_len, range_with_len, zip}
use Rattle.std.specs.Set.{distinct_count}
use Rattle.gr_base.specs.Limits.{most_cells}
use Rattle.track_panels.specs.declared.piece.Piece.{Piece}
use Rattle.track_panels.specs.Panels.{PanelView}
use Rattle.track_panels.specs.Pieces.{AreInOrder, covering, meet}

-- pieces with their tracks
abbrev pub Placed : Type 0
Placed = List (Piece × ℕ)

-- two pieces with a common tile have different tracks
abbrev pub IsValid : Placed → Type 0
IsValid placed = AllPairs (λ a b. IsTrue (meet a.0 b.0) → (a.1 ≡ b.1 → ⊥)) placed

-- the pieces on the track all end below the tile
abbrev pub IsClear : (tile track : ℕ) → Placed → Type 0
IsClear tile track placed = All (λ p. p.1 ≡ track → p.0.high < tile) placed

abbrev pub is_clear : (tile track : ℕ) → Placed → Bool
is_clear tile track placed = list_all (λ p. not (p.1 == track) || nat_lt p.0.high tile) placed

-- the least track on which they do; so many pieces have no more tracks
abbrev pub least_clear : (tile : ℕ) → Placed → ℕ
least_clear tile placed = position_or_len (λ track. is_clear tile track placed) (range_with_len 0 (length placed))

-- the tracks of the next pieces: each has the least track whose pieces so far all end below its low end
abbrev pub tracks_from : Placed → List Piece → List ℕ
tracks_from placed [] = []
tracks_from placed (piece ∷ pieces) =
    least_clear piece.low placed ∷ tracks_from (placed ++ (piece, least_clear piece.low placed) ∷ []) pieces

-- the left-edge numbering
unfoldable pub left_edge : List Piece → List ℕ
left_edge pieces = tracks_from [] pieces

-- the track is the least on which these pieces all end below the tile
pub record IsLeastClear (tile track : ℕ) (placed : Placed) : Type 0 where
  pub clear : IsClear tile track placed
  pub least : (other : ℕ) → other < track → IsClear tile other placed → ⊥

-- each piece has the least track whose pieces before it all end below its low end
abbrev pub IsLeftEdge : Placed → Type 0
IsLeftEdge placed = (place : ℕ) → (p : Piece × ℕ) → slice_get placed place ≡ Some p →
    IsLeastClear p.0.low p.1 (take place placed)

-- how many different tracks are used
abbrev pub tracks_used : List ℕ → ℕ
tracks_used numbers = distinct_count (λ a b. a == b) numbers

-- how many tracks the left-edge numbering uses, and the least tile that as many pieces cover
unfoldable pub tracks_of : List Piece → ℕ
tracks_of pieces = tracks_used (left_edge pieces)

unfoldable pub point_of : List Piece → ℕ
point_of pieces = position_or_len (λ tile. covering tile pieces == tracks_of pieces) (range_with_len 0 most_cells)

-- no valid numbering of these pieces uses fewer different tracks
abbrev pub IsFewest : List Piece → List ℕ → Type 0
IsFewest pieces numbers = (others : List ℕ) → length others ≡ length pieces → IsValid (zip pieces others) →
    tracks_used numbers ≤ tracks_used others

-- the left-edge numbering of pieces in their order is valid, and no valid numbering of them uses fewer tracks
abbrev pub LeftEdgeIsFewest : Type 0
LeftEdgeIsFewest = (pieces : List Piece) → AreInOrder pieces →
    IsValid (zip pieces (left_edge pieces)) × IsFewest pieces (left_edge pieces)

-- the tile is the least that so many pieces cover, and no tile is covered by more
pub record IsFullest (count tile : ℕ) (pieces : List Piece) : Type 0 where
  pub covered : covering tile pieces ≡ count
  pub least : (other : ℕ) → other < tile → covering other pieces < count
  pub most : (other : ℕ) → covering other pieces ≤ count

-- the left-edge numbering of the pieces. It is valid, its tracks are just those below their number, as many pieces
-- cover the point, and no valid numbering uses fewer
pub record IsPanel (pieces : List Piece) (panel : PanelView) : Type 0 where
  pub numbers : panel.numbers ≡ left_edge pieces
  pub tracks : panel.tracks ≡ tracks_of pieces
  pub point : panel.point ≡ point_of pieces
  pub each : length panel.numbers ≡ length pieces
  pub least : IsLeftEdge (zip pieces panel.numbers)
  pub valid : IsValid (zip pieces panel.numbers)
  pub used : (track : ℕ) → Contains panel.numbers track ↔ track < panel.tracks
  pub fullest : IsFullest panel.tracks panel.point pieces
  pub fewest : IsFewest pieces panel.numbers
