use Rattle.book_rows.specs.Rows.{IsAlong}
use Rattle.book_rows.proofs.designs.along.Given as goal

-- the tree of the cells up to here
abbrev pub invariant-loop-cell : goal.invariant-loop-cell
invariant-loop-cell l = IsAlong l.fn.shape l.cell l.tree
