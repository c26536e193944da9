-- Trees whose wires are in usable directions, node by node.
use Rattle.std.proofs.Common.{◌≡◌, ℕ, ◌+◌, ◌<◌, ◌≤◌, inl, inr, Bool, true, false, length, Option, Some, None, if◌then◌else◌, IsTrue, refl, sym, ap, ◌∙◌, arith}
use Rattle.std.specs.Option.{option_and_then}
use Rattle.std.proofs.lemmas.Bool.{cases_eq, false≢true}
use Rattle.std.proofs.lemmas.Option.{none-some, same_Some, slice_get_within}
use Rattle.gr_base.specs.Capacities.{usable}
use Rattle.gr_base.specs.Designs.{DesignView}
use Rattle.gr_base.specs.Grid.{has_edge, is_wire}
use Rattle.gr_base.specs.ParentEdges.{parent_edge, wire_only, wire_to_parent}
use Rattle.gr_base.specs.Trees.{TreeView, IsTree, edge_to_parent, tree_edges}
use Rattle.gr_base.specs.declared.grid.Edge.{Edge}
use Rattle.gr_base.proofs.TreeDistinct.{gives}
use Rattle.gr_base.proofs.TreeEdges.{tree-grid_edges}
use Rattle.straight_runs.proofs.ListLemmas.{list-within}
use Rattle.kept_routes.specs.Kept.{HasUsableWires}
use Rattle.kept_routes.proofs.ChainLemmas.{edge-among}

-- the wires from the nodes below a number are in usable directions
abbrev pub AreUsableBefore : DesignView → TreeView → ℕ → Type 0
AreUsableBefore d t count = (node : ℕ) (e : Edge) → node < count → wire_to_parent t node ≡ Some e → usable d e ≡ true

only-wire : (o : Option Edge) (e : Edge) → wire_only o ≡ Some e → (o ≡ Some e) × (is_wire e ≡ true)
only-wire None e is = absurd (none-some e is)
only-wire (Some f) e is = by (is_wire f) refl is
  where
    by : (b : Bool) → is_wire f ≡ b → (if b then Some f else None) ≡ Some e → (Some f ≡ Some e) × (is_wire e ≡ true)
    by true wire same = (same, ap is_wire (sym (same_Some f e same)) ∙ wire)
    by false wire same = absurd (none-some e same)

-- a wire edge of a node is one of the grid's, and the tree's
pub wire-inside : (t : TreeView) (node : ℕ) (e : Edge) → IsTree t → wire_to_parent t node ≡ Some e → IsTrue (has_edge t.shape e)
wire-inside t node e tree is =
    list-within t.shape (tree_edges t) (tree-grid_edges t tree) e (edge-among t node e (only-wire (parent_edge t node) e is).0)

pub usable-more : (d : DesignView) (t : TreeView) (at : ℕ) → ((e : Edge) → wire_to_parent t at ≡ Some e → usable d e ≡ true) → AreUsableBefore d t at →
    AreUsableBefore d t (at + 1)
usable-more d t at now before = λ node e below is. elim (cases_eq node at) [
  | inl same ↦ now e (ap (wire_to_parent t) (sym same) ∙ is)
  | inr apart ↦ before node e (omega (arith, below, apart)) is
]

pub usable-all : (d : DesignView) (t : TreeView) (count : ℕ) → length t.nodes ≤ count → AreUsableBefore d t count → HasUsableWires d t
usable-all d t count past all = λ e has wire.
    let from = gives (edge_to_parent t.shape t.nodes) e t.nodes has in
    let edge : parent_edge t from.0 ≡ Some e = ap (option_and_then (edge_to_parent t.shape t.nodes)) from.1.1.0 ∙ from.1.1.1 in
    let below = slice_get_within t.nodes from.0 from.1.0 from.1.1.0 in
    let is : wire_to_parent t from.0 ≡ Some e = ap wire_only edge ∙ ap (λ (b : Bool). if b then Some e else None) wire in
    all from.0 e (omega (arith, below, past)) is

pub usable-not : (d : DesignView) (t : TreeView) (node : ℕ) (e : Edge) → wire_to_parent t node ≡ Some e → usable d e ≡ false → HasUsableWires d t → ⊥
usable-not d t node e is off all =
    let wire = only-wire (parent_edge t node) e is in
    false≢true (sym off ∙ all e (edge-among t node e wire.0) wire.1)
