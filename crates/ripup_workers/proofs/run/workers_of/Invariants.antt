use Rattle.std.specs.Prelude.{◌≡◌, ◌+◌, ◌≤◌, ◌++◌, [], map, vec_len, All}
use Rattle.std.specs.Vec.{vec_capacity}
use Rattle.std.specs.Vec.Iter.{into_iter_len, into_iter_items}
use Rattle.ripup_workers.proofs.run.workers_of.Given as goal

-- the passes so far and those that remain are all, those that remain have seen nothing, and there is room
abbrev pub invariant-loop-pass : goal.invariant-loop-pass
invariant-loop-pass g l = record {
  workers : map (λ w. w.pass) l.workers.items ++ into_iter_items l.rest ≡ l.fn.passes.items;
  nothing : All (λ p. p.seen ≡ []) (into_iter_items l.rest);
  room : into_iter_len l.rest + vec_len l.workers ≤ vec_capacity l.workers;
}

abbrev pub decreases-loop-pass : goal.decreases-loop-pass
decreases-loop-pass g l = into_iter_len l.rest
