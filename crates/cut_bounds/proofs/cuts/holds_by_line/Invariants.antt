use Rattle.std.proofs.Common.{◌≡◌, length}
use Rattle.cut_bounds.specs.Cuts.{along, lines_of, tile_at, wires_along}
use Rattle.cut_bounds.proofs.SumLemmas.{GatherTo}
use Rattle.cut_bounds.proofs.cuts.holds_by_line.Given as goal

abbrev pub invariant-loop-more : goal.invariant-loop-more
invariant-loop-more l = record {
  tile : l.tile ≡ tile_at l.columns l.more-index;
  long : length l.holds.items ≡ lines_of l.fn.shape l.axis;
  holds : GatherTo (λ t. along l.axis (tile_at l.columns t)) (wires_along l.axis l.wires) l.holds.items l.more-index;
}
