-- A tree that is cut to the ways from its first node to pins.
use Rattle.std.specs.Prelude.{◌≡◌, ◌⊎◌, ℕ, ◌<◌, ◌≤◌, Bool, false, List, length, get_or, Some, IsTrue}
use Rattle.gr_base.specs.ParentEdges.{parent_edge}
use Rattle.gr_base.specs.Trees.{TreeView, IsTree, cell_at, edges_of, holds, is_among, node_with, parent_at}
use Rattle.gr_base.specs.declared.grid.Edge.{Edge}
use Rattle.gr_base.specs.declared.tree.Node.{Node}

-- a node is on the way from the first node to another: it is that one, or is above its parent
pub data IsAbove (nodes : List Node) (upper : ℕ) : ℕ → Type 0 where
  Same : IsAbove nodes upper upper
  Higher : {node parent : ℕ} → parent_at nodes node ≡ Some parent → parent < node → IsAbove nodes upper parent →
      IsAbove nodes upper node

-- a node is on the way to the node of a pin
pub record IsWanted (t : TreeView) (pins : List ℕ) (node : ℕ) : Type 0 where
  pub below : ℕ
  pub above : IsAbove t.nodes node below
  pub pin : ℕ
  pub there : cell_at t.nodes below ≡ Some pin
  pub is_pin : IsTrue (is_among pins pin)

-- an edge leads from a node that is on the way to a pin to its parent
pub record IsOnWay (t : TreeView) (pins : List ℕ) (e : Edge) : Type 0 where
  pub node : ℕ
  pub behind : 0 < node
  pub edge : parent_edge t node ≡ Some e
  pub wanted : IsWanted t pins node

-- the tree holds the first cell and the pins of another, and its edges are on ways to pins
pub record IsCut (t : TreeView) (pins : List ℕ) (cut : TreeView) : Type 0 where
  pub tree : IsTree cut
  pub shape : cut.shape ≡ t.shape
  pub start : cell_at cut.nodes 0 ≡ cell_at t.nodes 0
  pub held : (pin : ℕ) → IsTrue (is_among pins pin) → IsTrue (holds t pin) → IsTrue (holds cut pin)
  pub edges : (e : Edge) → IsTrue (edges_of cut e) → IsOnWay t pins e

-- the node is marked
abbrev pub is_set : List Bool → ℕ → Bool
is_set marks node = get_or marks node false

-- exactly nodes of pins are marked
pub record AreMarked (t : TreeView) (pins : List ℕ) (marks : List Bool) : Type 0 where
  pub long : length marks ≡ length t.nodes
  pub all : (pin node : ℕ) → IsTrue (is_among pins pin) → node_with t.nodes pin ≡ Some node → IsTrue (is_set marks node)
  pub only : (node : ℕ) → IsTrue (is_set marks node) →
      (pin : ℕ) × (cell_at t.nodes node ≡ Some pin) × IsTrue (is_among pins pin)

-- the parent of each marked node from the number on is marked
abbrev pub AreClosedFrom : TreeView → ℕ → List Bool → Type 0
AreClosedFrom t from marks =
    (node parent : ℕ) → from ≤ node → IsTrue (is_set marks node) → parent_at t.nodes node ≡ Some parent →
    IsTrue (is_set marks parent)

abbrev pub AreClosed : TreeView → List Bool → Type 0
AreClosed t marks = AreClosedFrom t 1 marks

-- nodes above marked ones are marked as well
pub record MarksAbove (t : TreeView) (from : ℕ) (old new : List Bool) : Type 0 where
  pub long : length new ≡ length old
  pub closed : AreClosedFrom t from new
  pub kept : (node : ℕ) → IsTrue (is_set old node) → IsTrue (is_set new node)
  pub only : (node : ℕ) → IsTrue (is_set new node) → (below : ℕ) × IsTrue (is_set old below) × IsAbove t.nodes node below

-- the nodes on ways to pins are marked
pub record AreWanted (t : TreeView) (pins : List ℕ) (marks : List Bool) : Type 0 where
  pub long : length marks ≡ length t.nodes
  pub all : (pin node : ℕ) → IsTrue (is_among pins pin) → node_with t.nodes pin ≡ Some node → IsTrue (is_set marks node)
  pub closed : AreClosed t marks
  pub only : (node : ℕ) → IsTrue (is_set marks node) → IsWanted t pins node

-- an edge leads from a marked node to its parent
pub record IsMarkedEdge (t : TreeView) (marks : List Bool) (e : Edge) : Type 0 where
  pub node : ℕ
  pub behind : 0 < node
  pub edge : parent_edge t node ≡ Some e
  pub marked : IsTrue (is_set marks node)

-- the tree of the first node and of the marked ones
pub record IsCutTo (t : TreeView) (marks : List Bool) (cut : TreeView) : Type 0 where
  pub tree : IsTree cut
  pub shape : cut.shape ≡ t.shape
  pub start : cell_at cut.nodes 0 ≡ cell_at t.nodes 0
  pub held : (node cell : ℕ) → (node ≡ 0) ⊎ IsTrue (is_set marks node) → cell_at t.nodes node ≡ Some cell →
      IsTrue (holds cut cell)
  pub edges : (e : Edge) → IsTrue (edges_of cut e) → IsMarkedEdge t marks e
