use Rattle.std.proofs.Common.{◌≡◌, All, map, take}
use Rattle.crossbeam_deque.specs.Handles.{stealer_deque, stealer_flavor, worker_deque}
use Rattle.work_share.proofs.dealing.thieves.Given as goal

-- the deques before the place have their thieves
abbrev pub invariant-loop-place : goal.invariant-loop-place
invariant-loop-place l =
    (map stealer_deque l.thieves.items ≡ take l.place (map worker_deque l.owners.items)) × All (λ thief. stealer_flavor thief ≡ 0) l.thieves.items
