-- Boxes that hold the wires of booked trees.
use Rattle.std.specs.Prelude.{◌≡◌, ℕ, ◌+◌, ◌<◌, ◌≤◌, List, All, length, Option, Some, IfSome, IsTrue}
use Rattle.std.specs.List.{filter, flat_map, range_with_len}
use Rattle.gr_base.specs.Grid.{place_at}
use Rattle.gr_base.specs.Limits.{most_nets}
use Rattle.gr_base.specs.ParentEdges.{wire_to_parent}
use Rattle.gr_base.specs.Trees.{TreeView, IsTree}
use Rattle.gr_base.specs.declared.grid.Edge.{Edge}
use Rattle.gr_base.specs.declared.grid.Shape.{Shape}
use Rattle.grid_demand.specs.Tables.{CapacityView}
use Rattle.maze_route.specs.Windows.{IsWindow, is_within}
use Rattle.maze_route.specs.declared.window.Window.{Window}
use Rattle.book_state.specs.Books.{nets_of, is_victim}
use Rattle.book_state.specs.PlaceStore.{told}
use Rattle.book_state.specs.Replicas.{IsPlace}
use Rattle.book_state.specs.declared.entry.Entry.{Entry}
use Rattle.book_state.specs.declared.extents.Extent.{Extent}
use Rattle.book_state.specs.declared.extents.Part.{Part}

-- each wire edge from one of the tree's first nodes to its parent begins in the box
abbrev pub HoldsWires : Window → (nodes : ℕ) → TreeView → Type 0
HoldsWires w nodes t = (node : ℕ) (e : Edge) → node < nodes → Some e ≡ wire_to_parent t node →
    IsTrue (is_within w (place_at t.shape e.low))

abbrev pub Bounds : Window → TreeView → Type 0
Bounds w t = IsTree t × HoldsWires w (length t.nodes) t

-- the box lies in the grid, and holds the wires of the tree of the claim at its place, if there is one
pub record IsExtent (g : Shape) (h : List Entry) (x : Extent) : Type 0 where
  pub window : IsWindow g x.window
  pub tree : Option TreeView
  pub there : IsPlace h (told x.front) tree
  pub holds : IfSome tree (Bounds x.window)

abbrev pub AreExtents : Shape → List Entry → List Extent → Type 0
AreExtents g h xs = All (IsExtent g h) xs

-- the nets of a part, by number
abbrev pub nets_in : Part → List ℕ
nets_in p = range_with_len p.first (length p.extents.items)

-- a part's nets are of the design, which has no more than a design may have, and of each there is a box
pub record IsPart (c : CapacityView) (h : List Entry) (p : Part) : Type 0 where
  pub within : p.first + length p.extents.items ≤ nets_of c
  pub few : nets_of c ≤ most_nets
  pub extents : AreExtents c.shape h p.extents.items

-- the parts have the nets of the design, in order
pub record AreParts (c : CapacityView) (h : List Entry) (ps : List Part) : Type 0 where
  pub each : All (IsPart c h) ps
  pub nets : flat_map nets_in ps ≡ range_with_len 0 (nets_of c)

-- a part lists the victims among its nets, if there was memory for the list
abbrev pub IsSeen : CapacityView → List Entry → Part → Type 0
IsSeen c h p = IsTrue p.whole → p.victims.items ≡ filter (is_victim c h) (nets_in p)

abbrev pub AreSeen : CapacityView → List Entry → List Part → Type 0
AreSeen c h ps = All (IsSeen c h) ps

-- what a look at a part leaves: the same nets, with a box of each, and the victims among them
pub record IsLookedAt (c : CapacityView) (h : List Entry) (before after : Part) : Type 0 where
  pub part : IsPart c h after
  pub nets : nets_in after ≡ nets_in before
  pub seen : IsSeen c h after

-- the lists of the parts, one behind the other
abbrev pub listed : List Part → List ℕ
listed ps = flat_map (λ (p : Part). p.victims.items) ps
