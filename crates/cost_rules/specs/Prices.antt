-- The prices of a grid's edges for one net.
use Rattle.std.specs.Prelude.{◌≡◌, ℕ, ◌≤◌, ◌↔◌, Bool, Option, IsTrue, IsSome, IfSome}
use Rattle.gr_base.specs.declared.grid.Edge.{Edge}
use Rattle.gr_base.specs.declared.grid.Shape.{Shape}
use Rattle.gr_base.specs.declared.grid.Way.{Way}
use Rattle.gr_base.specs.declared.grid.Way.TheVariants.{Up}
use Rattle.gr_base.specs.Grid.{place_at, has_edge}
use Rattle.cost_rules.specs.Formulas.{most_cost}

-- the layer of an edge's low end
abbrev pub layer_of : Shape → Edge → ℕ
layer_of g e = (place_at g e.low).layer

-- each layer goes up, an edge has a price exactly where its layer goes its way, and a price is from 1 to the greatest cost
pub record ArePrices (g : Shape) (ways : ℕ → Way → Bool) (price : Edge → Option ℕ) : Type 0 where
  pub up : (layer : ℕ) → IsTrue (ways layer Up)
  pub some : (e : Edge) → IsTrue (has_edge g e) → IsSome (price e) ↔ IsTrue (ways (layer_of g e) e.way)
  pub least : (e : Edge) → IsTrue (has_edge g e) → IfSome (price e) (λ cost. 1 ≤ cost)
  pub most : (e : Edge) → IsTrue (has_edge g e) → IfSome (price e) (λ cost. cost ≤ most_cost)

-- no via edge costs less than this
abbrev pub IsBelowVias : Shape → (Edge → Option ℕ) → ℕ → Type 0
IsBelowVias g price least = (e : Edge) → IsTrue (has_edge g e) → e.way ≡ Up → IfSome (price e) (λ cost. least ≤ cost)
