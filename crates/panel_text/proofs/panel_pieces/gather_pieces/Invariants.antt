use Rattle.std.proofs.Common.{◌≡◌, ℕ, List, map}
use Rattle.std.specs.List.{flat_map, range_with_len}
use Rattle.panel_text.specs.Chains.{HaveChains}
use Rattle.panel_text.specs.PanelPieces.{piece_at}
use Rattle.panel_text.specs.Places.{cell_in}
use Rattle.panel_text.proofs.panel_pieces.gather_pieces.Given as goal

abbrev pub invariant-loop-tile : goal.invariant-loop-tile
invariant-loop-tile l = (chains : ℕ → List (ℕ × ℕ)) → HaveChains chains l.starts →
    l.pieces.items ≡ flat_map (λ tile. map (piece_at l.shape l.place.way tile) (chains (cell_in l.shape l.place tile))) (range_with_len 0 l.tile)
