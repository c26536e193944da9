-- Wire edges whose cost to a net entries may have changed.
use Rattle.std.specs.Prelude.{◌≡◌, ℕ, ◌≤◌, Bool, false, List, ◌++◌, All, IsTrue}
use Rattle.std.specs.List.{list_any}
use Rattle.gr_base.specs.EdgeSets.{is_edge}
use Rattle.gr_base.specs.Grid.{has_edge}
use Rattle.gr_base.specs.Trees.{TreeView}
use Rattle.gr_base.specs.declared.grid.Edge.{Edge}
use Rattle.grid_demand.specs.Tables.{CapacityView}
use Rattle.maze_route.specs.declared.window.Window.{Window}
use Rattle.book_state.specs.Books.{booked, demand, marks}
use Rattle.book_state.specs.Still.{over_with, joins_cells, IsWireIn}
use Rattle.book_state.specs.declared.entry.Entry.{Entry}
use Rattle.book_state.specs.declared.touches.Touch.{Touch}
use Rattle.cost_rules.specs.declared.site.Formula.{Formula}

-- an edge is among those that are noted
abbrev pub is_noted : List Touch → Edge → Bool
is_noted touches e = list_any (λ (t : Touch). is_edge e t.edge) touches

-- a wire edge of the grid that begins in the window
pub record IsTouch (c : CapacityView) (w : Window) (t : Touch) : Type 0 where
  pub edge : IsTrue (has_edge c.shape t.edge)
  pub is_in : IsWireIn c w t.edge

-- further edges are noted with their demands, none that was noted before
pub record AddsTouches (c : CapacityView) (w : Window) (demands : Edge → ℕ) (old new : List Touch) : Type 0 where
  pub added : List Touch
  pub new_is : new ≡ old ++ added
  pub each : All (IsTouch c w) added
  pub told : All (λ t. t.demand ≡ demands t.edge) added
  pub fresh : All (λ t. is_noted old t.edge ≡ false) added

-- an edge would be as much over its capacity with the net on it as after a history, by the demand that is noted
abbrev pub IsTold : CapacityView → Formula → ℕ → List Entry → Touch → Type 0
IsTold c formula net h t = over_with c formula net t.edge t.demand ≡ over_with c formula net t.edge (demand c h t.edge)

-- from one history to another the net's booking and all marks in the window stay; edges there that aren't noted stay as
-- much over their capacity with the net on them, and the others are noted with demands that tell what they were before
pub record AreTouches (c : CapacityView) (formula : Formula) (net : ℕ) (w : Window) (before after : List Entry) (touches : List Touch)
    : Type 0 where
  pub booking : booked after net ≡ booked before net
  pub marks : (e : Edge) → IsWireIn c w e → marks c after e ≡ marks c before e
  pub each : All (IsTouch c w) touches
  pub told : All (IsTold c formula net before) touches
  pub others : (e : Edge) → IsWireIn c w e → is_noted touches e ≡ false →
      over_with c formula net e (demand c after e) ≡ over_with c formula net e (demand c before e)

-- with these demands a noted edge would be over by at least as much as it was, and by as much between cells of the tree
pub record IsSettled (c : CapacityView) (formula : Formula) (net : ℕ) (u : TreeView) (demands : Edge → ℕ) (t : Touch) : Type 0 where
  pub rises : over_with c formula net t.edge t.demand ≤ over_with c formula net t.edge (demands t.edge)
  pub stays : IsTrue (joins_cells c.shape u t.edge) →
      over_with c formula net t.edge (demands t.edge) ≡ over_with c formula net t.edge t.demand
