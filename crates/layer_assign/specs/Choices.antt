-- Choices of layers by the span that a tile has before, and assignments that follow them.
use Rattle.std.specs.Prelude.{◌≡◌, ℕ, ◌+◌, ◌*◌, ◌<◌, ◌≤◌, Bool, List, length, Option, slice_index, IsTrue}
use Rattle.gr_base.specs.Trees.{TreeView}
use Rattle.gr_base.specs.declared.grid.Edge.{Edge}
use Rattle.gr_base.specs.declared.grid.Shape.{Shape}
use Rattle.gr_base.specs.declared.grid.Way.{Way}
use Rattle.layer_assign.specs.declared.span.Span.{Span}
use Rattle.layer_assign.specs.Spans.{span_of, span_by, span_number, spans_of}
use Rattle.layer_assign.specs.Assignments.{parent_of, IsAssignment, ends_at, met_below, IsLeast, IsFirst}

-- the first of the allowed layers at which f is least, and f there
pub record IsBest (f : ℕ → ℕ) (may : ℕ → Bool) (layer value : ℕ) : Type 0 where
  pub allowed : IsTrue (may layer)
  pub cost : f layer ≡ value
  pub least : (other : ℕ) → IsTrue (may other) → value ≤ f other
  pub first : (other : ℕ) → IsTrue (may other) → f other ≡ value → layer ≤ other

-- a table has an entry for each node and span
abbrev pub entry : ℕ → List ℕ → ℕ → Option Span → ℕ
entry layers table node s = slice_index table (node * spans_of layers + span_number layers s)

-- each node's layer is the choice for the span that its parent's tile has before
abbrev pub Follows : Shape → TreeView → List ℕ → (ℕ → Option Span → ℕ) → (ℕ → ℕ) → Type 0
Follows g t pins choice a =
    (node : ℕ) → 0 < node → node < length t.nodes →
    a node ≡ choice node (span_of (met_below g t pins a (parent_of t node) node))

-- each node's layer is the choice for the span that its parent's tile has before, from the tiles' first spans
abbrev pub FollowsFrom : TreeView → (ℕ → Option Span) → (ℕ → Option Span → ℕ) → (ℕ → ℕ) → Type 0
FollowsFrom t first choice a =
    (node : ℕ) → 0 < node → node < length t.nodes →
    a node ≡ choice node (span_by (ends_at t) first a (parent_of t node) node)

-- choices that lead to an assignment, and this is the first least one
pub record AreBest (g : Shape) (ways : ℕ → Way → Bool) (price : Edge → Option ℕ) (t : TreeView) (pins : List ℕ)
    (choice : ℕ → Option Span → ℕ) : Type 0 where
  pub allowed : (a : ℕ → ℕ) → Follows g t pins choice a → IsAssignment g ways t a
  pub least : (a : ℕ → ℕ) → IsAssignment g ways t a → Follows g t pins choice a → IsLeast g ways price t pins a
  pub first : (a : ℕ → ℕ) → IsAssignment g ways t a → Follows g t pins choice a → IsFirst g ways price t pins a
