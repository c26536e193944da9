use Rattle.std.proofs.Common.{◌≡◌, length}
use Rattle.text_commands.proofs.placing.no_blocks.Given as goal

abbrev pub invariant-loop : goal.invariant-loop
invariant-loop l = length l.blocks.items ≡ l.counter
