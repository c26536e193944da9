-- What the choice of one node's layers writes into the tables.
use Rattle.std.specs.Prelude.{◌≡◌, ◌≢◌, ◌⊎◌, ℕ, ◌+◌, Bool, true, false, ◌&&◌, ◌||◌, ◌==◌, nat_le, not, List, ◌*◌, ◌<◌, length, IsTrue, Option, Some, None, get_or, slice_set, if◌then◌else◌}
use Rattle.gr_base.specs.Trees.{TreeView}
use Rattle.gr_base.specs.declared.grid.Edge.{Edge}
use Rattle.gr_base.specs.declared.grid.Shape.{Shape}
use Rattle.gr_base.specs.declared.grid.Way.{Way}
use Rattle.layer_assign.specs.declared.span.Best.{Best}
use Rattle.layer_assign.specs.declared.span.Span.{Span}
use Rattle.layer_assign.specs.Spans.{widened, climb, IsWithin, span_number, spans_of}
use Rattle.layer_assign.specs.Assignments.{parent_of, may_take, wire_cost}
use Rattle.layer_assign.specs.Choices.{IsBest, entry}
use Rattle.layer_assign.specs.Tables.{HasRows}

-- a layer is to be chosen for the node: it is in the tree, it isn't node 0, and its edge may take some layer
pub record HasChoice (g : Shape) (ways : ℕ → Way → Bool) (t : TreeView) (node : ℕ) : Type 0 where
  pub later : 0 < node
  pub inside : node < length t.nodes
  pub layer : (layer : ℕ) × IsTrue (may_take g ways t node layer)

-- what a node's layer costs: its edge, what its tile costs with it, and what the parent's tile does
abbrev pub onward_cost : Shape → (Edge → Option ℕ) → TreeView → List ℕ → ℕ → Option Span → Option Span → ℕ → ℕ
onward_cost g price t costs node base s layer =
    wire_cost g price t node layer + entry g.layers costs node (widened base layer)
    + entry g.layers costs (parent_of t node) (widened s layer)

-- a span is a first one in node 0's tile; elsewhere it ends, above or below, where a first one does, or is one layer
-- where there is none
abbrev pub is_near : ℕ → Option Span → Option Span → Bool
is_near parent None None = parent == 0
is_near parent None (Some s) = not (parent == 0) && (s.low == s.high)
is_near parent (Some f) None = false
is_near parent (Some f) (Some s) =
    if parent == 0 then (s.low == f.low) && (s.high == f.high) else (s.low == f.low) || (s.high == f.high)

-- a span holds the layers of a first one
abbrev pub holds_pins : Option Span → Option Span → Bool
holds_pins None s = true
holds_pins (Some f) None = false
holds_pins (Some f) (Some s) = nat_le s.low f.low && nat_le f.high s.high

-- a tile may have the span before the edge of a node: it holds the pins' layers, and before the edge of the next node
-- it is that of the pins and the tile's own edge alone
abbrev pub may_precede : ℕ → ℕ → Option Span → Option Span → Bool
may_precede parent node pins s = holds_pins pins s && (not (parent + 1 == node) || is_near parent pins s)

-- the tiles that have joined no edge yet cost the climbs of their spans
abbrev pub AreUntouched : ℕ → List Bool → List ℕ → Type 0
AreUntouched layers joined costs =
    (u : ℕ) → (s : Option Span) → u < length joined → get_or joined u false ≡ false → IsWithin layers s →
    entry layers costs u s ≡ climb s

-- entries of a span that can't come before are left as they were
pub record IsLeft (comes : Bool) (old new before after : ℕ) : Type 0 where
  pub never : comes ≡ false
  pub cost : new ≡ old
  pub choice : after ≡ before

-- what is chosen is the best, or the span can't come before
abbrev pub Settles : (ℕ → ℕ) → (ℕ → Bool) → Bool → ℕ → ℕ → ℕ → ℕ → Type 0
Settles f may comes old new before after = IsBest f may after new ⊎ IsLeft comes old new before after

-- for each span that may come before, a node's choice is the best, and its parent's costs are with it; nothing else
-- changes
pub record Chooses (g : Shape) (ways : ℕ → Way → Bool) (price : Edge → Option ℕ) (t : TreeView) (node : ℕ)
    (base above : Option Span) (old new before after : List ℕ) : Type 0 where
  pub costs : HasRows g.layers (length t.nodes) new
  pub choices : HasRows g.layers (length t.nodes) after
  pub each : (s : Option Span) → IsWithin g.layers s →
      Settles (onward_cost g price t old node base s) (may_take g ways t node)
      (may_precede (parent_of t node) node above s) (entry g.layers old (parent_of t node) s)
      (entry g.layers new (parent_of t node) s) (entry g.layers before node s) (entry g.layers after node s)
  pub others : (u : ℕ) (s : Option Span) → u ≢ parent_of t node → IsWithin g.layers s →
      entry g.layers new u s ≡ entry g.layers old u s
  pub kept : (u : ℕ) (s : Option Span) → u ≢ node → IsWithin g.layers s →
      entry g.layers after u s ≡ entry g.layers before u s

-- the best of the offers stands in the tables: what it costs in the parent's row, and its layer in the node's own
pub record Writes (layers parent node : ℕ) (s : Option Span) (best : Option Best)
    (old new before after : List ℕ) : Type 0 where
  pub choice : Best
  pub is_best : best ≡ Some choice
  pub cost : new ≡ slice_set old (parent * spans_of layers + span_number layers s) choice.cost
  pub layer : after ≡ slice_set before (node * spans_of layers + span_number layers s) choice.layer
