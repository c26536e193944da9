use Rattle.std.proofs.Common.{◌≡◌, ◌++◌, take}
use Rattle.book_state.proofs.extents.add_each.Given as goal

abbrev pub invariant-loop-net : goal.invariant-loop-net
invariant-loop-net l = l.all ≡ l.fn.all ++ take l.net-index l.nets
