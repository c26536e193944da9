-- Numbers of wire edges that lie side by side.
use Rattle.std.specs.Prelude.{◌≡◌, ℕ, ◌+◌, ◌-◌, ◌<◌, List, length, slice_index, IsTrue}
use Rattle.gr_base.specs.Grid.{has_edge, edge_at, is_wire_way}
use Rattle.gr_base.specs.declared.grid.Edge.{Edge}
use Rattle.gr_base.specs.declared.grid.Shape.{Shape}

-- these are the numbers from a place to below another
pub record IsPart (xs : List ℕ) (from to : ℕ) (part : List ℕ) : Type 0 where
  pub size : length part ≡ to - from
  pub each : (n : ℕ) → n < to - from → slice_index part n ≡ slice_index xs (from + n)

-- so many wire edges of the grid from this one on, at least one
pub record AreBeside (g : Shape) (from : Edge) (count : ℕ) : Type 0 where
  pub some : 0 < count
  pub wire : IsTrue (is_wire_way from.way)
  pub edges : (place : ℕ) → place < count → IsTrue (has_edge g (edge_at (from.low + place) from.way))

-- the number of each of these edges, one after the other
pub record IsRunOf (number : Edge → ℕ) (from : Edge) (count : ℕ) (run : List ℕ) : Type 0 where
  pub size : length run ≡ count
  pub each : (place : ℕ) → place < count → slice_index run place ≡ number (edge_at (from.low + place) from.way)
