-- Levels of cells.
use Rattle.std.specs.Prelude.{ℕ}
use Rattle.net_prices.specs.Arcs.{level_at}
use Rattle.net_prices.specs.declared.levels.Levels.{Levels}

-- the level of a cell
abbrev pub level_of : Levels → ℕ → ℕ
level_of levels cell = level_at levels.labels.now levels.bound cell
