use Rattle.std.proofs.Common.{◌≡◌, ◌*◌, ◌≤◌, sum_by}
use Rattle.std.specs.List.{range_with_len}
use Rattle.wall_laws.specs.Spans.{vias_above}
use Rattle.span_bounds.proofs.net_spans.least_usable_vias.Given as goal

abbrev pub invariant-loop-layer : goal.invariant-loop-layer
invariant-loop-layer l = record {
  vias : l.vias ≡ sum_by (vias_above l.frame l.pins) (range_with_len 0 l.layer);
  most : l.vias ≤ 1000 * l.layer;
}
