use Rattle.std.specs.Prelude.{◌≡◌, ◌+◌, ◌≤◌, ◌++◌, map, vec_len, All, Ok}
use Rattle.std.specs.Vec.{vec_capacity}
use Rattle.std.specs.Vec.Iter.{into_iter_len, into_iter_items}
use Rattle.ripup_workers.proofs.members.parted.Given as goal

-- the parts so far and those of the members that remain are all, no memory was wanting, and there is room
abbrev pub invariant-loop-member : goal.invariant-loop-member
invariant-loop-member g l = record {
  workers : l.workers.items ++ map (λ m. m.worker) (into_iter_items l.rest) ≡ map (λ m. m.worker) l.fn.members.items;
  hands : l.hands.items ++ map (λ m. m.hand) (into_iter_items l.rest) ≡ map (λ m. m.hand) l.fn.members.items;
  done : All (λ m. m.done ≡ Ok tt) (into_iter_items l.rest) → All (λ m. m.done ≡ Ok tt) l.fn.members.items;
  worker_room : into_iter_len l.rest + vec_len l.workers ≤ vec_capacity l.workers;
  hand_room : into_iter_len l.rest + vec_len l.hands ≤ vec_capacity l.hands;
}

abbrev pub decreases-loop-member : goal.decreases-loop-member
decreases-loop-member g l = into_iter_len l.rest
