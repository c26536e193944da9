use Rattle.std.proofs.Common.{◌≡◌, ℕ, ◌<◌, length, get_or}
use Rattle.gr_base.specs.declared.frame.Layer.{Layer}
use Rattle.ispd_reader.specs.Header.{layer_at}
use Rattle.ispd_reader.proofs.header.stacked.Given as goal

abbrev pub invariant-loop-at : goal.invariant-loop-at
invariant-loop-at l = record {
  count : length l.layers ≡ 16;
  done : (k : ℕ) (d : Layer) → k < l.at → get_or l.layers k d ≡ layer_at l.vertical l.horizontal l.width l.spacing l.via k;
}
