use Rattle.std.proofs.Common.{◌≡◌, ℕ, map}
use Rattle.std.specs.List.{range_with_len}
use Rattle.layer_assign.specs.Spans.{climb, span_at}
use Rattle.layer_assign.proofs.climbs.climb_row.Given as goal

abbrev pub invariant-loop : goal.invariant-loop
invariant-loop l = record {
  span : l.span ≡ span_at l.fn.shape.layers l.counter;
  costs : l.costs.items ≡ map (λ (place : ℕ). climb (span_at l.fn.shape.layers place)) (range_with_len 0 l.counter);
}
