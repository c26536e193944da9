-- Factors by which small numbers are divided.
use Rattle.std.specs.Prelude.{ℕ, ◌+◌, ◌*◌, ◌<◌, ◌≤◌}
use Rattle.gr_base.specs.Limits.{most_cells}

-- what products are divided by
abbrev pub whole_factor : ℕ
whole_factor = 70368744177664

-- the factor is that number divided by another, and rounded up
pub record IsFactor (by factor : ℕ) : Type 0 where
  pub some : 0 < by
  pub few : by ≤ most_cells
  pub least : whole_factor ≤ factor * by
  pub most : factor * by < whole_factor + by
