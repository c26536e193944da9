use Rattle.std.proofs.Common.{◌≡◌, Ok, arith}
use Rattle.ripup_workers.proofs.JoiningAttempts.{parts-next, all-next}
use Rattle.ripup_workers.proofs.members.parted.Goals as goal

pub loop-member-preserved : goal.loop-member-preserved
loop-member-preserved g c =
    let before = c.in-Some.ensures.items in
    let left = c.in-Some.ensures.cases.1 in
    let worker_room = c.loop-member.invariant.worker_room in
    let hand_room = c.loop-member.invariant.hand_room in
    let worker_len = c.push_reserved.ensures.len in
    let worker_same = c.push_reserved.ensures.capacity in
    let hand_len = c.push_reserved-in-Some.ensures.len in
    let hand_same = c.push_reserved-in-Some.ensures.capacity in
    record {
      workers = parts-next (λ m. m.worker) _ c.in-Some.member _ _ _ _ c.loop-member.invariant.workers before c.push_reserved.ensures.items;
      hands = parts-next (λ m. m.hand) _ c.in-Some.member _ _ _ _ c.loop-member.invariant.hands before c.push_reserved-in-Some.ensures.items;
      done = λ all. c.loop-member.invariant.done (all-next (λ m. m.done ≡ Ok tt) c.in-Some.member _ _ before c.in_ok-done.was all);
      worker_room = omega (arith, left, worker_room, worker_len, worker_same);
      hand_room = omega (arith, left, hand_room, hand_len, hand_same);
    }
