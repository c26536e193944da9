use Rattle.std.proofs.Common.{◌≡◌}
use Rattle.std.specs.List.{filter, range_with_len}
use Rattle.book_state.specs.Books.{is_victim}
use Rattle.book_state.proofs.replica.Replica.victims.Given as goal

abbrev pub invariant-loop-net : goal.invariant-loop-net
invariant-loop-net l = l.nets ≡ filter (is_victim l.capacity l.history) (range_with_len 0 l.net)
