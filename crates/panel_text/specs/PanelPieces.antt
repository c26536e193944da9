-- The pieces of a panel: the maximal straight runs of routed nets that lie in it.
use Rattle.std.specs.Prelude.{ℕ, ◌-◌, ◌&&◌, List, map, length}
use Rattle.std.specs.List.{filter, flat_map, range_with_len}
use Rattle.gr_base.specs.declared.grid.Shape.{Shape}
use Rattle.gr_base.specs.declared.grid.Way.{Way}
use Rattle.gr_base.specs.Designs.{DesignView, is_routed}
use Rattle.gr_base.specs.EdgeSets.{Edges}
use Rattle.gr_base.specs.Grid.{place_at}
use Rattle.solution_text.specs.Runs.{begins, run_from}
use Rattle.track_panels.specs.declared.piece.Piece.{Piece}
use Rattle.panel_text.specs.declared.place.PanelPlace.{PanelPlace}
use Rattle.panel_text.specs.Places.{cell_in, tile_of_cell, tiles_along}

-- the routed nets, from a number on, of which a maximal run that way begins in the cell, each with the cell in which it
-- ends
abbrev pub starts_from : DesignView → (ℕ → Edges) → Way → (first cell : ℕ) → List (ℕ × ℕ)
starts_from d sets way first cell =
    map (λ net. (net, (run_from d.frame.shape (sets net) way cell).to))
    (filter (λ net. is_routed d net && begins d.frame.shape (sets net) way cell)
    (range_with_len first (length d.nets - first)))

-- the piece of a run that begins at a tile
abbrev pub piece_at : Shape → Way → (tile : ℕ) → ℕ × ℕ → Piece
piece_at g way tile start = record { net = start.0; low = tile; high = tile_of_cell way (place_at g start.1) }

-- the pieces of a panel by its tiles, where these runs begin in each cell
abbrev pub pieces_along : Shape → PanelPlace → (starts : ℕ → List (ℕ × ℕ)) → List Piece
pieces_along g place starts =
    flat_map (λ tile. map (piece_at g place.way tile) (starts (cell_in g place tile)))
    (range_with_len 0 (tiles_along g place.way))

-- the pieces of a panel, by their low ends and then by net
abbrev pub pieces_of : DesignView → (ℕ → Edges) → PanelPlace → List Piece
pieces_of d sets place = pieces_along d.frame.shape place (starts_from d sets place.way 0)
