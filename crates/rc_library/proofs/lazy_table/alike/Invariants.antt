use Rattle.std.proofs.Common.{◌≡◌, replicate}
use Rattle.rc_library.proofs.lazy_table.alike.Given as goal

abbrev pub invariant-loop : goal.invariant-loop
invariant-loop g l = l.values.items ≡ replicate l.counter l.value
