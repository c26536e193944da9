-- The first places of buckets, as they are stored.
use Rattle.std.specs.Prelude.{◌≡◌, ℕ, ◌/◌, ◌%◌, ◌<◌, List, length, get_or, Option, is_some, if◌then◌else◌}
use Rattle.std.specs.Int.{bit_at}
use Rattle.maze_route.specs.Buckets.{head_at}

-- a bit is set for each bucket that has a place, and for no other, 64 to a word
pub record AreMarked (places : List (Option ℕ)) (full : List ℕ) : Type 0 where
  pub size : length places ≡ 1078
  pub words : length full ≡ 17
  pub marked : (bucket : ℕ) → bucket < 1088 →
      bit_at (get_or full (bucket / 64) 0) (bucket % 64) ≡ (if is_some (head_at places bucket) then 1 else 0)
