use Rattle.std.proofs.Common.{◌≡◌, length}
use Rattle.route_writer.proofs.blocks.blocks.Given as goal

abbrev pub invariant-loop : goal.invariant-loop
invariant-loop l = length l.blocks.items ≡ l.counter
