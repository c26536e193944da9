use Rattle.book_rows.proofs.Calling.{call-again}
use Rattle.book_rows.proofs.replay.is_replayed.Goals as goal

pub call-requires : goal.call-requires
call-requires c = call-again _ _ _ _ _ c.requires c.entry-entry.ensures.entry c.loop-at.invariant.0 c.loop-at.invariant.1
