-- The orders of the heaps of tracks, whose greatest comes first.
use Rattle.std.specs.Prelude.{ℕ}
use Rattle.std.specs.Ordering.{nat_cmp, ordering_then}
use Rattle.std.specs.declared.cmp.Ordering.{Ordering}
use Rattle.std.specs.declared.cmp.Reverse.{Reverse}

-- the least track comes first
abbrev pub by_track : Reverse ℕ → Reverse ℕ → Ordering
by_track a b = nat_cmp b.0 a.0

-- the track that ends first comes first
abbrev pub by_end : Reverse (ℕ × ℕ) → Reverse (ℕ × ℕ) → Ordering
by_end a b = ordering_then (nat_cmp b.0.0 a.0.0) (nat_cmp b.0.1 a.0.1)
