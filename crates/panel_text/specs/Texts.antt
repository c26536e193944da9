-- The text of the panels of a solution.
use Rattle.std.specs.Prelude.{ℕ, ◌+◌, Bool, true, false, List, [], ◌∷◌, ◌++◌, count_by, sum_by, Option, Some, None, slice_get, codes}
use Rattle.std.specs.Fmt.{decimal}
use Rattle.std.specs.List.{flat_map, zip}
use Rattle.gr_base.specs.declared.frame.Net.{Net}
use Rattle.gr_base.specs.declared.grid.Way.{Way}
use Rattle.gr_base.specs.declared.grid.Way.TheVariants.{East, North, Up}
use Rattle.gr_base.specs.Designs.{DesignView}
use Rattle.gr_base.specs.EdgeSets.{Edges}
use Rattle.solution_text.specs.Runs.{LieIn}
use Rattle.track_panels.specs.declared.piece.Piece.{Piece}
use Rattle.track_panels.specs.Numberings.{IsFewest, IsValid, left_edge, tracks_of, point_of}
use Rattle.panel_text.specs.declared.place.PanelPlace.{PanelPlace}
use Rattle.panel_text.specs.PanelPieces.{pieces_of}
use Rattle.panel_text.specs.Places.{IsPlace, places_of}

-- runs in rows are horizontal, and runs in columns vertical
abbrev pub letter : Way → List ℕ
letter East = codes "h"
letter North = codes "v"
letter Up = []

-- the line of a panel: its layer from 1, its row or column from 0, how many tracks it has, and the tile that shows it
abbrev pub panel_line : PanelPlace → (tracks point : ℕ) → List ℕ
panel_line place tracks point =
    codes "panel " ++ letter place.way ++ codes " " ++ decimal (place.layer + 1) ++ codes " " ++ decimal place.line
    ++ codes " tracks " ++ decimal tracks ++ codes " at " ++ decimal point ++ codes "\n"

abbrev pub id_of : Option Net → ℕ
id_of None = 0
id_of (Some net) = net.id

-- the line of a piece with its track: the net's id, the tiles of its ends from 0, and the track from 1
abbrev pub piece_line : DesignView → Piece × ℕ → List ℕ
piece_line d p =
    decimal (id_of (slice_get d.nets p.0.net)) ++ codes " " ++ decimal p.0.low ++ codes " " ++ decimal p.0.high
    ++ codes " " ++ decimal (p.1 + 1) ++ codes "\n"

-- the lines of a panel with pieces, and none of one without
abbrev pub lines_of : DesignView → PanelPlace → List Piece → List ℕ
lines_of d place [] = []
lines_of d place (piece ∷ pieces) =
    panel_line place (tracks_of (piece ∷ pieces)) (point_of (piece ∷ pieces))
    ++ flat_map (piece_line d) (zip (piece ∷ pieces) (left_edge (piece ∷ pieces)))

abbrev pub panel_lines : DesignView → (ℕ → Edges) → PanelPlace → List ℕ
panel_lines d sets place = lines_of d place (pieces_of d sets place)

abbrev pub has_some : List Piece → Bool
has_some [] = false
has_some (piece ∷ pieces) = true

-- in each panel of sets of a grid's edges this numbering gives pieces with a common tile different tracks, and no numbering
-- that does so uses fewer
abbrev pub PanelsUseFewest : Type 0
PanelsUseFewest =
    (d : DesignView) → (sets : ℕ → Edges) → ((net : ℕ) → LieIn d.frame.shape (sets net)) →
    (place : PanelPlace) → IsPlace d.frame.shape place →
    IsValid (zip (pieces_of d sets place) (left_edge (pieces_of d sets place)))
    × IsFewest (pieces_of d sets place) (left_edge (pieces_of d sets place))

-- how many panels have a piece, and how many tracks the panels have together
abbrev pub panels_used : DesignView → (ℕ → Edges) → List PanelPlace → ℕ
panels_used d sets places = count_by (λ place. has_some (pieces_of d sets place)) places

abbrev pub tracks_in : DesignView → (ℕ → Edges) → List PanelPlace → ℕ
tracks_in d sets places = sum_by (λ place. tracks_of (pieces_of d sets place)) places

-- the panels of the nets' edges: their number, the sum of their tracks, and the lines of each
abbrev pub panels_text : DesignView → (ℕ → Edges) → List ℕ
panels_text d sets =
    codes "panels " ++ decimal (panels_used d sets (places_of d.frame.shape)) ++ codes "\n"
    ++ codes "tracks " ++ decimal (tracks_in d sets (places_of d.frame.shape)) ++ codes "\n"
    ++ flat_map (panel_lines d sets) (places_of d.frame.shape)
