use Rattle.std.proofs.Common.{◌≡◌, ◌*◌, ◌≤◌, ◌^◌, filter, sum_by}
use Rattle.std.specs.List.{range_with_len}
use Rattle.gr_base.specs.Designs.{is_routed}
use Rattle.wall_laws.specs.Spans.{least_length, least_usable_length}
use Rattle.span_bounds.proofs.sums.wire_bounds.Given as goal

abbrev pub invariant-loop-net : goal.invariant-loop-net
invariant-loop-net l = record {
  wirelength : l.bounds.wirelength ≡ sum_by (least_length l.design l.via_cost) (filter (is_routed l.design) (range_with_len 0 l.net));
  usable : l.bounds.usable ≡ sum_by (least_usable_length l.design l.via_cost) (filter (is_routed l.design) (range_with_len 0 l.net));
  fits : l.bounds.wirelength ≤ 2 ^ 64 * l.net;
  usable_fits : l.bounds.usable ≤ 2 ^ 64 * l.net;
}
