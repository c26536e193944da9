use Rattle.std.proofs.Common.{ℕ, ◌++◌, List, map, length}
use Rattle.panel_text.specs.Chains.{HaveChains, IsBelow}
use Rattle.panel_text.specs.PanelPieces.{piece_at}
use Rattle.panel_text.proofs.ChainLemmas.{IsLeft, past}
use Rattle.panel_text.proofs.starts.Starts.push_pieces.Given as goal

abbrev pub invariant-loop-at : goal.invariant-loop-at
invariant-loop-at l = record {
  below : IsBelow (length l.self.runs.items) l.at;
  left : (chains : ℕ → List (ℕ × ℕ)) → HaveChains chains l.self →
      IsLeft l.self.runs.items l.at (piece_at l.shape l.way l.tile) l.pieces.items
      (l.initial.pieces.items ++ map (piece_at l.shape l.way l.tile) (chains l.cell));
}

abbrev pub decreases-loop-at : goal.decreases-loop-at
decreases-loop-at l = past l.at
