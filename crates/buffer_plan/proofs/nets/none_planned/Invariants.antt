use Rattle.std.specs.Prelude.{◌≡◌, length, All}
use Rattle.std.specs.Result.{IsErr}
use Rattle.buffer_plan.proofs.nets.none_planned.Given as goal

abbrev pub invariant-loop : goal.invariant-loop
invariant-loop l = record {
  long : length l.planned.items ≡ l.counter;
  none : All IsErr l.planned.items;
}
