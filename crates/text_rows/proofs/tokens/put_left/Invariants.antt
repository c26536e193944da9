use Rattle.std.proofs.Common.{IsTrue}
use Rattle.gr_io.specs.declared.shelf.Slot.TheVariants.{Design}
use Rattle.text_rows.proofs.tokens.put_left.Given as goal

abbrev pub invariant-loop-piece : goal.invariant-loop-piece
invariant-loop-piece g l = IsTrue (g.S.Shelf.reached l.shelf Design)
