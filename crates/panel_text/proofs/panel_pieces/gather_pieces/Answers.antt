use Rattle.std.proofs.Common.{◌≡◌, ℕ, ◌++◌, List, map, sym, ap, ◌∙◌, arith}
use Rattle.std.specs.List.{flat_map, range_with_len}
use Rattle.track_panels.specs.declared.piece.Piece.{Piece}
use Rattle.panel_text.specs.PanelPieces.{piece_at}
use Rattle.panel_text.specs.Places.{cell_in, tiles_along}
use Rattle.panel_text.proofs.TextLemmas.{flat-more}
use Rattle.panel_text.proofs.panel_pieces.gather_pieces.Goals as goal

pub loop-tile-preserved : goal.loop-tile-preserved
loop-tile-preserved c chains have =
    let f : ℕ → List Piece = λ tile. map (piece_at c.args.shape c.args.place.way tile) (chains (cell_in c.args.shape c.args.place tile)) in
    c.in_ok-push_pieces.ensures chains have
    ∙ ap (λ (cell : ℕ). c.loop-tile.pieces.items ++ map (piece_at c.args.shape c.args.place.way c.loop-tile.tile) (chains cell)) c.cell-cell.ensures.number
    ∙ ap (λ (ps : List Piece). ps ++ f c.loop-tile.tile) (c.loop-tile.invariant chains have)
    ∙ sym (flat-more f c.loop-tile.tile)

pub returns : goal.returns
returns c chains have =
    let f : ℕ → List Piece = λ tile. map (piece_at c.args.shape c.args.place.way tile) (chains (cell_in c.args.shape c.args.place tile)) in
    let all : c.loop-tile.tile ≡ tiles_along c.args.shape c.args.place.way = omega (arith, c.loop-tile.auto.tile-end, c.loop-tile-test.false, c.tiles-tile-end.ensures) in
    c.loop-tile.invariant chains have ∙ ap (λ (n : ℕ). flat_map f (range_with_len 0 n)) all
