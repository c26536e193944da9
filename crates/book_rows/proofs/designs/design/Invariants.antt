use Rattle.book_rows.specs.Rows.{HasNets}
use Rattle.book_rows.proofs.designs.design.Given as goal

-- the nets up to here
abbrev pub invariant-loop-id : goal.invariant-loop-id
invariant-loop-id l = HasNets l.row.tiles l.id l.design
