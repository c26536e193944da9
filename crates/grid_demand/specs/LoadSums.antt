-- The loads of a grid, and what becomes of them.
use Rattle.std.specs.Prelude.{◌≡◌, ℕ, ◌+◌, ◌-◌, ◌*◌, ◌^◌, ◌<◌, ◌≤◌, min, Bool, false, nat_lt, List, All, length, map, replicate, slice_index, if◌then◌else◌, IsTrue}
use Rattle.gr_base.specs.EdgeSets.{is_edge}
use Rattle.gr_base.specs.Grid.{cells_of, has_edge, is_wire}
use Rattle.gr_base.specs.Sums.{wire_at, wire_number, wires_from_cells}
use Rattle.gr_base.specs.Trees.{TreeView, edges_of}
use Rattle.gr_base.specs.declared.grid.Edge.{Edge}
use Rattle.gr_base.specs.declared.grid.Shape.{Shape}
use Rattle.gr_base.specs.Limits.{most_marks}
use Rattle.grid_demand.specs.Tables.{CapacityView, capacity_at, need_at}
use Rattle.grid_demand.specs.declared.loads.Change.{Change}
use Rattle.grid_demand.specs.declared.loads.Change.TheVariants.{Gain, Lose}

-- the demand and the marks of the wire edges of a grid, by number
pub record LoadsView : Type 0 where
  pub shape : Shape
  pub demands : List ℕ
  pub marks : List ℕ

abbrev pub demand_at : LoadsView → Edge → ℕ
demand_at l e = slice_index l.demands (wire_number e)

abbrev pub marks_at : LoadsView → Edge → ℕ
marks_at l e = slice_index l.marks (wire_number e)

-- no demand and no marks
abbrev pub no_loads : Shape → LoadsView
no_loads g = record { shape = g; demands = replicate (2 * cells_of g) 0; marks = replicate (2 * cells_of g) 0 }

-- what a net takes of an edge by a tree
abbrev pub share : CapacityView → ℕ → TreeView → Edge → ℕ
share c net t e = if edges_of t e then need_at c net e else 0

-- a demand that gains a need, or loses it
abbrev pub changed_by : Change → ℕ → ℕ → ℕ
changed_by Gain demand need = demand + need
changed_by Lose demand need = demand - need

-- the demand has room for the need, or has it
abbrev pub Fits : Change → ℕ → ℕ → Type 0
Fits Gain demand need = demand ≤ 2 ^ 47
Fits Lose demand need = need ≤ demand

-- one edge gains the net's need
abbrev pub charged : CapacityView → ℕ → Edge → LoadsView → LoadsView
charged c net e l = record {
  shape = l.shape;
  demands = map (λ f. demand_at l f + (if is_edge f e then need_at c net f else 0)) (wires_from_cells l.shape);
  marks = l.marks;
}

-- each wire edge of the tree gains the net's need
abbrev pub added : CapacityView → ℕ → TreeView → LoadsView → LoadsView
added c net t l = record {
  shape = l.shape;
  demands = map (λ e. demand_at l e + share c net t e) (wires_from_cells l.shape);
  marks = l.marks;
}

-- each wire edge of the tree loses the net's need
abbrev pub taken : CapacityView → ℕ → TreeView → LoadsView → LoadsView
taken c net t l = record {
  shape = l.shape;
  demands = map (λ e. demand_at l e - share c net t e) (wires_from_cells l.shape);
  marks = l.marks;
}

-- the marks of an edge after a mark: one more where its demand is above its capacity
abbrev pub mark_where : Bool → ℕ → ℕ
mark_where over marks = if over then min most_marks (marks + 1) else marks

abbrev pub mark_of : ℕ → ℕ → ℕ → ℕ
mark_of demand capacity marks = mark_where (nat_lt capacity demand) marks

-- each wire edge with more demand than capacity gains a mark
abbrev pub marked : CapacityView → LoadsView → LoadsView
marked c l = record {
  shape = l.shape;
  demands = l.demands;
  marks = map (λ e. mark_of (demand_at l e) (capacity_at c e) (marks_at l e)) (wires_from_cells l.shape);
}

-- no wire edge of the tree has a demand above 2^47
abbrev pub HasRoom : LoadsView → TreeView → Type 0
HasRoom l t = (e : Edge) → IsTrue (edges_of t e) → IsTrue (is_wire e) → demand_at l e ≤ 2 ^ 47

-- each wire edge of the tree has at least the net's need of demand
abbrev pub HasShare : CapacityView → ℕ → TreeView → LoadsView → Type 0
HasShare c net t l = (e : Edge) → IsTrue (edges_of t e) → IsTrue (is_wire e) → need_at c net e ≤ demand_at l e

-- the tables are whole, no edge that leaves the grid has demand, and marks are in range
pub record AreLoads (l : LoadsView) : Type 0 where
  pub demands : length l.demands ≡ 2 * cells_of l.shape
  pub marks : length l.marks ≡ 2 * cells_of l.shape
  pub inside : (number : ℕ) → number < 2 * cells_of l.shape → has_edge l.shape (wire_at number) ≡ false → slice_index l.demands number ≡ 0
  pub most : All (λ marks. marks ≤ most_marks) l.marks
