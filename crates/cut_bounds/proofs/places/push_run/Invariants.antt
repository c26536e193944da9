use Rattle.std.proofs.Common.{◌≡◌, ◌+◌, ◌*◌, ◌++◌}
use Rattle.cut_bounds.specs.Places.{run_of}
use Rattle.cut_bounds.proofs.places.push_run.Given as goal

abbrev pub invariant-loop : goal.invariant-loop
invariant-loop l = record {
  place : l.place ≡ l.first + l.counter * l.step;
  places : l.places.items ≡ l.initial.places.items ++ run_of l.first l.step l.counter;
}
