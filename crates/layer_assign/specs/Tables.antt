-- Tables of costs by node and span, and the best layer that they offer.
use Rattle.std.specs.Prelude.{◌≡◌, ℕ, zero, suc, ◌+◌, ◌*◌, ◌^◌, ◌<◌, ◌≤◌, Bool, false, nat_lt, nat_le, List, length, Option, Some, None, IsSome, IsTrue, slice_get, if◌then◌else◌}
use Rattle.std.specs.Option.{option_map, option_and_then}
use Rattle.gr_base.specs.Grid.{has_edge, on_layer}
use Rattle.gr_base.specs.ParentEdges.{parent_edge}
use Rattle.gr_base.specs.Trees.{TreeView}
use Rattle.gr_base.specs.declared.grid.Edge.{Edge}
use Rattle.gr_base.specs.declared.grid.Shape.{Shape}
use Rattle.layer_assign.specs.declared.span.Best.{Best}
use Rattle.layer_assign.specs.declared.span.Limb.{Limb}
use Rattle.layer_assign.specs.declared.span.Span.{Span}
use Rattle.layer_assign.specs.Spans.{widened, climb, IsWithin, spans_of}
use Rattle.layer_assign.specs.Choices.{entry}

-- a table has a row of spans for each node
abbrev pub HasRows : ℕ → ℕ → List ℕ → Type 0
HasRows layers nodes table = length table ≡ nodes * spans_of layers

-- the entries of so many nodes are the climbs of their spans
pub record AreClimbs (layers nodes : ℕ) (table : List ℕ) : Type 0 where
  pub rows : HasRows layers nodes table
  pub climbs : (node : ℕ) → (s : Option Span) → node < nodes → IsWithin layers s → entry layers table node s ≡ climb s

-- the entries of a node's row are small
abbrev pub IsSmall : ℕ → List ℕ → ℕ → Type 0
IsSmall layers table node = (s : Option Span) → IsWithin layers s → entry layers table node s ≤ 2 ^ 50

-- the number of a layer in a list, if it has one there
abbrev pub number_in : List (Option ℕ) → ℕ → Option ℕ
number_in numbers layer = option_and_then (λ o. o) (slice_get numbers layer)

-- what a node's edge on a layer and the limb below it cost, if the layer goes the edge's way
abbrev pub limb_cost : Shape → (Edge → Option ℕ) → TreeView → List ℕ → ℕ → Option Span → ℕ → Option ℕ
limb_cost g price t costs node base layer =
    option_map (λ wire. wire + entry g.layers costs node (widened base layer))
    (option_and_then (λ e. price (on_layer g layer e)) (parent_edge t node))

-- the same for a limb, by what it costs below the edge on each layer that goes the edge's way
abbrev pub priced : Shape → (Edge → Option ℕ) → Limb → ℕ → Option ℕ
priced g price limb layer =
    option_and_then (λ below. option_map (λ wire. wire + below) (price (on_layer g layer limb.edge)))
    (number_in limb.below layer)

-- the edge lies on each layer of the grid, and has a price where there is a cost below it, which is small
pub record IsLimb (g : Shape) (price : Edge → Option ℕ) (limb : Limb) : Type 0 where
  pub tile : limb.edge.low < g.columns * g.rows
  pub inside : (layer : ℕ) → layer < g.layers → IsTrue (has_edge g (on_layer g layer limb.edge))
  pub small : (layer below : ℕ) → layer < g.layers → number_in limb.below layer ≡ Some below →
      (below ≤ 2 ^ 50) × IsSome (price (on_layer g layer limb.edge))

-- these are prices of an edge on layers
abbrev pub AreWires : Shape → (Edge → Option ℕ) → Edge → List (Option ℕ) → Type 0
AreWires g price e wires = (layer wire : ℕ) → number_in wires layer ≡ Some wire → price (on_layer g layer e) ≡ Some wire

-- there is an offer, and it costs at most so much
abbrev pub is_at_most : Option Best → ℕ → Bool
is_at_most None cost = false
is_at_most (Some best) cost = nat_le best.cost cost

-- a layer with its cost, from what the limb costs on each layer and the row of the parent's costs
abbrev pub offer : Shape → (ℕ → Option ℕ) → List ℕ → ℕ → Option Span → ℕ → Option Best
offer g limbs costs parent s layer =
    option_map (λ limb. record { layer = layer; cost = limb + entry g.layers costs parent (widened s layer) })
    (limbs layer)

-- of two offers the first, unless the second costs less
abbrev pub better : Option Best → Option Best → Option Best
better None second = second
better (Some first) None = Some first
better (Some first) (Some second) = if nat_lt second.cost first.cost then Some second else Some first

-- the first best of the offers of the layers below a number
unfoldable pub best_below : (ℕ → Option Best) → ℕ → Option Best
best_below offers zero = None
best_below offers (suc layer) = better (best_below offers layer) (offers layer)
