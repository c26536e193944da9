-- Which nets of a design can be kept as a solution routes them, and their trees.
use Rattle.std.specs.Prelude.{◌≡◌, ℕ, ◌↔◌, List, ◌∷◌, length, get_or, Option, Some, None, Result, Ok, IsSome, IsTrue}
use Rattle.gr_base.specs.Capacities.{usable}
use Rattle.gr_base.specs.Designs.{DesignView, is_routed, pins_at}
use Rattle.gr_base.specs.EdgeSets.{Edges, set_of}
use Rattle.gr_base.specs.Grid.{is_wire}
use Rattle.gr_base.specs.Plans.{IsRouteOfNet}
use Rattle.gr_base.specs.Trees.{TreeView, IsTree, edges_of, is_among, tree_at, walk_edges}
use Rattle.gr_base.specs.declared.grid.Edge.{Edge}
use Rattle.gr_base.specs.declared.grid.Shape.{Shape}
use Rattle.route_evaluator.specs.NetTrees.{AreTree, IsPath}

-- the cell of a net's driver, which is its first pin
abbrev pub driver_of : (pins : List ℕ) → ℕ
driver_of pins = get_or pins 0 0

-- an edge that a path along edges of the set passes, from the driver's cell to that of a pin
pub record LiesOnWay (g : Shape) (set : Edges) (pins : List ℕ) (e : Edge) : Type 0 where
  pub pin : ℕ
  pub is_pin : IsTrue (is_among pins pin)
  pub path : List ℕ
  pub leads : IsPath g set (driver_of pins) pin path
  pub along : IsTrue (set_of (walk_edges g (driver_of pins ∷ path)) e)

-- an edge of a net that lies on the way to a pin
abbrev pub IsNeeded : DesignView → (ℕ → Edges) → ℕ → Edge → Type 0
IsNeeded d sets net e = LiesOnWay d.frame.shape (sets net) (pins_at d net) e

-- a net can be kept: it is routed, its edges are a tree for its pins, and those wire edges of them that lie on ways to
-- pins are in usable directions
pub record CanBeKept (d : DesignView) (sets : ℕ → Edges) (net : ℕ) : Type 0 where
  pub routed : IsTrue (is_routed d net)
  pub tree : AreTree d.frame.shape (sets net) (pins_at d net)
  pub directed : (e : Edge) → IsNeeded d sets net e → IsTrue (is_wire e) → IsTrue (usable d e)

-- a tree that routes a net along just those of its edges that lie on ways to pins
pub record IsKeptTree (d : DesignView) (sets : ℕ → Edges) (net : ℕ) (t : TreeView) : Type 0 where
  pub tree : IsTree t
  pub routes : IsRouteOfNet d net t
  pub edges : (e : Edge) → IsTrue (edges_of t e) ↔ IsNeeded d sets net e

-- exactly the nets that can be kept have a tree, of those edges
pub record AreKept (d : DesignView) (sets : ℕ → Edges) (trees : List (Option TreeView)) : Type 0 where
  pub long : length trees ≡ length d.nets
  pub kept : (net : ℕ) → (t : TreeView) → tree_at trees net ≡ Some t → CanBeKept d sets net × IsKeptTree d sets net t
  pub all : (net : ℕ) → CanBeKept d sets net → IsSome (tree_at trees net)

-- the wire edges of a tree are in usable directions
abbrev pub HasUsableWires : DesignView → TreeView → Type 0
HasUsableWires d t = (e : Edge) → IsTrue (edges_of t e) → IsTrue (is_wire e) → IsTrue (usable d e)

-- the tree of a net that can be kept, or none where it can't
abbrev pub KeepsNet : {E : Type 0} → DesignView → (ℕ → Edges) → ℕ → Result (Option TreeView) E → Type 0
KeepsNet d sets net (Ok (Some t)) = CanBeKept d sets net × IsKeptTree d sets net t
KeepsNet d sets net (Ok None) = ¬ CanBeKept d sets net
KeepsNet d sets net refused = Unit {0}
