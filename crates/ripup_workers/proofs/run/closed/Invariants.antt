use Rattle.std.specs.Prelude.{◌≡◌, ◌+◌, ◌≤◌, ◌∷◌, ◌++◌, map, vec_len}
use Rattle.std.specs.Vec.{vec_capacity}
use Rattle.std.specs.Vec.Iter.{into_iter_len, into_iter_items}
use Rattle.ripup_workers.proofs.run.closed.Given as goal

-- the passes so far and those of the workers that remain are all, and there is room
abbrev pub invariant-loop-worker : goal.invariant-loop-worker
invariant-loop-worker g l = record {
  passes : l.passes.items ++ map (λ w. w.pass) (into_iter_items l.rest) ≡ l.fn.coordinator.pass ∷ map (λ w. w.pass) l.fn.workers.items;
  room : into_iter_len l.rest + vec_len l.passes ≤ vec_capacity l.passes;
}

abbrev pub decreases-loop-worker : goal.decreases-loop-worker
decreases-loop-worker g l = into_iter_len l.rest
