use Rattle.std.proofs.Common.{◌≡◌}
use Rattle.work_share.specs.Views.{IsHandOf}
use Rattle.share_rows.proofs.crowd.drain.Given as goal

abbrev pub invariant-loop : goal.invariant-loop
invariant-loop l = IsHandOf l.share l.hand × (l.hand.number ≡ l.fn.hand.number)
