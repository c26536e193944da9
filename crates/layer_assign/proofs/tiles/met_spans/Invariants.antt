use Rattle.std.proofs.Common.{◌≡◌, ℕ, ◌<◌, ◌≤◌, length, get_or}
use Rattle.layer_assign.specs.Spans.{growing, span_by}
use Rattle.layer_assign.specs.Assignments.{ends_at}
use Rattle.layer_assign.proofs.Problems.{pin_span}
use Rattle.layer_assign.proofs.tiles.met_spans.Given as goal

abbrev pub invariant-loop-node : goal.invariant-loop-node
invariant-loop-node l = record {
  later : 0 < l.node;
  most : l.node ≤ length l.fn.flat.nodes;
  count : length l.spans.items ≡ length l.fn.flat.nodes;
  spans : (node : ℕ) → node < length l.fn.flat.nodes →
      growing l.spans.items node ≡ span_by (ends_at l.fn.flat) (pin_span l.fn.shape l.fn.flat l.fn.pins) (λ k. get_or l.fn.layers k 0) node l.node;
}
