use Rattle.std.proofs.Common.{◌≡◌, ℕ, ◌<◌, Option}
use Rattle.layer_assign.specs.declared.span.Span.{Span}
use Rattle.layer_assign.specs.Spans.{climb, IsWithin}
use Rattle.layer_assign.specs.Choices.{entry}
use Rattle.layer_assign.specs.Tables.{HasRows}
use Rattle.layer_assign.proofs.climbs.climbs.Given as goal

abbrev pub invariant-loop : goal.invariant-loop
invariant-loop l = record {
  some : 0 < l.counter;
  rows : HasRows l.fn.shape.layers l.counter l.costs.items;
  climbs : (node : ℕ) → (s : Option Span) → node < l.counter → IsWithin l.fn.shape.layers s → entry l.fn.shape.layers l.costs.items node s ≡ climb s;
}
