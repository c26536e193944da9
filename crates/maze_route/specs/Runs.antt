-- Prices of edges that lie side by side, as lists hold them.
use Rattle.std.specs.Prelude.{◌≡◌, ℕ, ◌+◌, ◌<◌, ◌≤◌, ◌==◌, Bool, List, length, Option, Some, None, slice_get, if◌then◌else◌, IsTrue}
use Rattle.cost_rules.specs.Prices.{layer_of}
use Rattle.gr_base.specs.Grid.{has_edge, edge_at, is_wire_way}
use Rattle.gr_base.specs.declared.grid.Edge.{Edge}
use Rattle.gr_base.specs.declared.grid.Shape.{Shape}
use Rattle.gr_base.specs.declared.grid.Way.{Way}

-- what stands for no price
abbrev pub no_price : ℕ
no_price = 4294967295

abbrev pub price_from : Option ℕ → Option ℕ
price_from None = None
price_from (Some held) = if held == no_price then None else Some held

-- the price that is held for a cell
abbrev pub price_at : List ℕ → ℕ → Option ℕ
price_at prices cell = price_from (slice_get prices cell)

-- so many wire edges of a grid from this one on, side by side on a layer that goes their way
pub record AreSideBySide (g : Shape) (ways : ℕ → Way → Bool) (from : Edge) (count : ℕ) : Type 0 where
  pub wire : IsTrue (is_wire_way from.way)
  pub goes : IsTrue (ways (layer_of g from) from.way)
  pub edges : (place : ℕ) → place < count → IsTrue (has_edge g (edge_at (from.low + place) from.way))
  pub level : (place : ℕ) → place < count → layer_of g (edge_at (from.low + place) from.way) ≡ layer_of g from

-- the edges from this one on, side by side, have their prices from a place on, and all else stands
pub record IsRun (price : Edge → Option ℕ) (from : Edge) (first count : ℕ) (before after : List ℕ) : Type 0 where
  pub size : length after ≡ length before
  pub each : (place : ℕ) → place < count → price_at after (first + place) ≡ price (edge_at (from.low + place) from.way)
  pub below : (n : ℕ) → n < first → price_at after n ≡ price_at before n
  pub above : (n : ℕ) → first + count ≤ n → price_at after n ≡ price_at before n
