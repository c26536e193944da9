use Rattle.std.proofs.Common.{◌≡◌, ◌+◌, ◌-◌, ◌*◌, ◌≤◌, take, sum_by}
use Rattle.layer_assign.specs.declared.span.Span.{Span}
use Rattle.layer_assign.proofs.raised.cells_in.Given as goal

abbrev pub invariant-loop-span : goal.invariant-loop-span
invariant-loop-span l = record {
  so_far : l.cells ≡ sum_by (λ (span : Span). span.high + 1 - span.low) (take l.span-index l.spans);
  most : l.cells ≤ 16 * l.span-index;
}
