use Rattle.std.specs.Vec.Iter.{into_iter_len, into_iter_items}
use Rattle.work_share.proofs.HandMaking.{IsMaking}
use Rattle.work_share.proofs.dealing.hands.Given as goal

-- the hands before the number are made
abbrev pub invariant-loop-own : goal.invariant-loop-own
invariant-loop-own l = IsMaking l.nets l.fn.owners.items l.fn.rows.items l.number (into_iter_items l.owners) (into_iter_items l.rows) l.hands.items

abbrev pub decreases-loop-own : goal.decreases-loop-own
decreases-loop-own l = into_iter_len l.owners
