use Rattle.std.proofs.Common.{◌≡◌, ◌+◌, ◌≤◌, ◌⊎◌}
use Rattle.crossbeam_deque.specs.Handles.{view, taken, IsPassOf, SamePass, stealer_deque}
use Rattle.work_share.specs.Accounts.{WasEmpty}
use Rattle.work_share.proofs.deque.steal.Given as goal

-- the pass is as it was, and saw a net leave at each try, if the deque wasn't empty
abbrev pub invariant-loop : goal.invariant-loop
invariant-loop l =
    IsPassOf (stealer_deque l.thief) l.pass × SamePass l.fn.pass l.pass × (view l.pass ≡ view l.fn.pass)
    × (WasEmpty (view l.fn.pass) ⊎ (taken l.fn.pass + l.counter ≤ taken l.pass))
