-- Sets of edges, and the walks along them.
use Rattle.std.specs.Prelude.{◌≡◌, ℕ, Bool, ◌&&◌, ◌==◌, true, false, List, [], ◌∷◌, All, Some, IsTrue}
use Rattle.std.specs.List.{list_any}
use Rattle.gr_base.specs.Grid.{edge_of}
use Rattle.gr_base.specs.declared.grid.Edge.{Edge}
use Rattle.gr_base.specs.declared.grid.Shape.{Shape}
use Rattle.gr_base.specs.declared.grid.Way.{Way}
use Rattle.gr_base.specs.declared.grid.Way.TheVariants.{East, North, Up}

-- a set of edges, by the test of being in it
abbrev pub Edges : Type 0
Edges = Edge → Bool

abbrev pub is_way : Way → Way → Bool
is_way East East = true
is_way North North = true
is_way Up Up = true
is_way _ _ = false

abbrev pub is_edge : Edge → Edge → Bool
is_edge e f = e.low == f.low && is_way e.way f.way

-- the set of the edges in a list
abbrev pub set_of : List Edge → Edges
set_of edges e = list_any (is_edge e) edges

-- a walk along edges of the set leads from one cell to another
pub data Leads (g : Shape) (set : Edges) : ℕ → ℕ → Type 0 where
  Stays : {a : ℕ} → Leads g set a a
  Goes_on : {a b c : ℕ} → {e : Edge} → Leads g set a b → edge_of g b c ≡ Some e → IsTrue (set e) → Leads g set a c

-- from the first pin's cell a walk leads to each pin's cell
abbrev pub IsJoined : Shape → Edges → List ℕ → Type 0
IsJoined g set [] = Unit {0}
IsJoined g set (first ∷ pins) = All (Leads g set first) (first ∷ pins)
