use Rattle.std.specs.Prelude.{◌≡◌, ◌+◌, ◌≤◌, ◌++◌, map, vec_len}
use Rattle.std.specs.Vec.{vec_capacity}
use Rattle.std.specs.Vec.Iter.{into_iter_len, into_iter_items}
use Rattle.ripup_workers.proofs.members.members_of.Given as goal

-- the workers and the hands so far are the members', with those that remain they are all, and there is room
abbrev pub invariant-loop-worker : goal.invariant-loop-worker
invariant-loop-worker g l = record {
  workers : map (λ m. m.worker) l.members.items ++ into_iter_items l.rest ≡ l.fn.workers.items;
  hands : map (λ m. m.hand) l.members.items ++ into_iter_items l.hands ≡ l.fn.hands.items;
  left : into_iter_len l.hands ≡ into_iter_len l.rest;
  room : into_iter_len l.rest + vec_len l.members ≤ vec_capacity l.members;
}

abbrev pub decreases-loop-worker : goal.decreases-loop-worker
decreases-loop-worker g l = into_iter_len l.rest
