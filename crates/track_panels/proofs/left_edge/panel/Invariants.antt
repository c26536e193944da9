use Rattle.std.proofs.Common.{◌≡◌, ℕ, ◌≤◌, ◌<◌, take, length, slice_index_or}
use Rattle.std.specs.List.{zip}
use Rattle.track_panels.specs.declared.piece.Piece.{Piece}
use Rattle.track_panels.specs.OpenTracks.{Stands}
use Rattle.track_panels.proofs.left_edge.panel.Given as goal

abbrev pub invariant-loop-piece : goal.invariant-loop-piece
invariant-loop-piece l = record {
  long : length l.numbers.items ≡ l.piece-index;
  room : l.piece-index ≤ length l.pieces;
  tile : ℕ;
  up : (k : ℕ) → (d : Piece) → l.piece-index ≤ k → k < length l.pieces → tile ≤ (slice_index_or l.pieces k d).low;
  stands : Stands (zip (take l.piece-index l.pieces) l.numbers.items) tile l.tracks;
}
