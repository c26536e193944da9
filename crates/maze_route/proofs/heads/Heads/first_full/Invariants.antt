use Rattle.std.proofs.Common.{◌≡◌, ℕ, ◌*◌, ◌<◌, None}
use Rattle.maze_route.specs.Buckets.{head_at}
use Rattle.maze_route.proofs.heads.Heads.first_full.Given as goal

abbrev pub invariant-loop-word : goal.invariant-loop-word
invariant-loop-word l = (bucket : ℕ) → bucket < 64 * l.word → head_at l.self bucket ≡ None
