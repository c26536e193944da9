use Rattle.std.proofs.Common.{◌≡◌, length}
use Rattle.work_share.specs.Views.{AreHandsOf}
use Rattle.share_rows.proofs.rows.takes.Given as goal

abbrev pub invariant-loop : goal.invariant-loop
invariant-loop g l = AreHandsOf l.share l.hands.items × (length l.hands.items ≡ length l.fn.hands.items)
