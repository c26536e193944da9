-- Windows in which a history's later entries leave a net's plan the best.
use Rattle.std.specs.Prelude.{◌≡◌, ℕ, ◌+◌, ◌-◌, ◌≤◌, Bool, ◌&&◌, nat_lt, List, Option, Some, None, IsTrue}
use Rattle.gr_base.specs.Grid.{is_wire, high_of}
use Rattle.gr_base.specs.Trees.{TreeView, holds}
use Rattle.gr_base.specs.declared.grid.Edge.{Edge}
use Rattle.gr_base.specs.declared.grid.Shape.{Shape}
use Rattle.grid_demand.specs.Tables.{CapacityView, capacity_at, need_at}
use Rattle.maze_route.specs.Windows.{in_window}
use Rattle.maze_route.specs.declared.window.Window.{Window}
use Rattle.book_state.specs.Books.{booked, demand, marks}
use Rattle.book_state.specs.declared.entry.Entry.{Entry}
use Rattle.cost_rules.specs.declared.site.Formula.{Formula}
use Rattle.cost_rules.specs.Formulas.{reach}

-- by how much an edge with a demand would be over its capacity with the net on it too, and with the units that a formula
-- looks ahead
abbrev pub over_with : CapacityView → Formula → ℕ → Edge → ℕ → ℕ
over_with c formula net e demand =
    demand + need_at c net e + reach formula (need_at c net e) - capacity_at c e

-- both ends of an edge are cells of the tree
abbrev pub joins_cells : Shape → TreeView → Edge → Bool
joins_cells g t e = holds t e.low && holds t (high_of g e)

-- a wire edge that begins in the window
pub record IsWireIn (c : CapacityView) (w : Window) (e : Edge) : Type 0 where
  pub wire : IsTrue (is_wire e)
  pub begins : IsTrue (in_window c.shape w e.low)

-- from one history to another the net's booking stays, and each wire edge that begins in the window stays as much over
-- its capacity with the net on it, or gets more so where it doesn't join two cells of the tree, and keeps its marks
pub record StaysBest (c : CapacityView) (formula : Formula) (net : ℕ) (w : Window) (t : TreeView) (before after : List Entry) : Type 0 where
  pub booking : booked after net ≡ booked before net
  pub rises : (e : Edge) → IsWireIn c w e → over_with c formula net e (demand c before e) ≤ over_with c formula net e (demand c after e)
  pub stays : (e : Edge) → IsWireIn c w e → IsTrue (joins_cells c.shape t e) →
      over_with c formula net e (demand c after e) ≡ over_with c formula net e (demand c before e)
  pub marks : (e : Edge) → IsWireIn c w e → marks c after e ≡ marks c before e

-- what a net, if there is one, takes of an edge
abbrev pub need_of : CapacityView → Option ℕ → Edge → ℕ
need_of c None e = 0
need_of c (Some net) e = need_at c net e

-- a wire edge that begins in the window has no room for the net beside the demand and another net, if there is one,
-- and for the units that a formula looks ahead
abbrev pub lacks_room : CapacityView → Formula → Window → (Edge → ℕ) → ℕ → Option ℕ → Edge → Bool
lacks_room c formula w demands net beside e =
    is_wire e && (in_window c.shape w e.low
    && nat_lt (capacity_at c e)
    (demands e + need_of c beside e + need_at c net e + reach formula (need_at c net e)))
