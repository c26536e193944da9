-- Plans that are kept for a second claim, since nothing came that would change them.
use Rattle.std.specs.Prelude.{◌≡◌, ℕ, ◌+◌, ◌-◌, List, length, Some, None, slice_get, if◌then◌else◌}
use Rattle.std.specs.List.{sum_by}
use Rattle.cost_rules.specs.declared.site.Formula.{Formula}
use Rattle.gr_base.specs.Designs.{DesignView}
use Rattle.gr_base.specs.Grid.{edge_at, has_edge}
use Rattle.gr_base.specs.Trees.{TreeView}
use Rattle.gr_base.specs.declared.grid.Edge.{Edge}
use Rattle.gr_base.specs.declared.grid.Shape.{Shape}
use Rattle.gr_base.specs.declared.grid.Way.TheVariants.{East, North}
use Rattle.grid_demand.specs.Tables.{CapacityView, capacity_of}
use Rattle.book_state.specs.Books.{booked, demand, marks}
use Rattle.book_state.specs.declared.entry.Call.TheVariants.{Claim as Claims}
use Rattle.book_state.specs.declared.entry.Claim.{Claim}
use Rattle.book_state.specs.declared.entry.Entry.{Entry}
use Rattle.run_histories.specs.Attempts.{kind_of}
use Rattle.run_histories.specs.Rounds.{IsPlanFor}
use Rattle.batch_rounds.specs.declared.seat.Planned.{Planned}

-- the demand for an edge, where the grid has it
abbrev pub demand_if : Shape → (Edge → ℕ) → Edge → ℕ
demand_if g demands e = if has_edge g e then demands e else 0

-- the demand for the wire edges that begin at a cell, together
abbrev pub demand_from_cell : Shape → (Edge → ℕ) → ℕ → ℕ
demand_from_cell g demands cell = demand_if g demands (edge_at cell East) + demand_if g demands (edge_at cell North)

-- and at the cells of a tree
abbrev pub demand_from : (Edge → ℕ) → TreeView → ℕ
demand_from demands t = sum_by (λ node. demand_from_cell t.shape demands node.cell) t.nodes

-- from one history to a later one booked nets keep their trees, and edges their marks
pub record Grows (c : CapacityView) (before after : List Entry) : Type 0 where
  pub kept : (net : ℕ) → (tree : TreeView) → booked before net ≡ Some tree → booked after net ≡ Some tree
  pub marks : (e : Edge) → marks c after e ≡ marks c before e

-- a net's plan in a round over this history, with the demand from its cells then
pub record IsNoted (d : DesignView) (formula : Formula) (round : ℕ) (h : List Entry) (net : ℕ) (p : Planned)
    : Type 0 where
  pub plan : IsPlanFor d formula h net (kind_of round) p.tree
  pub demand : p.demand ≡ demand_from (demand (capacity_of d) h) p.tree

-- such a plan over an earlier history, since which demand only rose
pub record WasNoted (d : DesignView) (formula : Formula) (round : ℕ) (h : List Entry) (net : ℕ) (p : Planned)
    : Type 0 where
  pub first : List Entry
  pub noted : IsNoted d formula round first net p
  pub grows : Grows (capacity_of d) first h

-- the last entry of a history is a claim for this tree
pub record EndsWith (h : List Entry) (tree : TreeView) : Type 0 where
  pub last : Entry
  pub claim : Claim
  pub there : slice_get h (length h - 1) ≡ Some last
  pub call : last.call ≡ Claims claim
  pub tree_is : claim.tree ≡ tree

-- the last claim of a history was for a net's plan over an earlier one, with this demand from its cells then, and left
-- the net unbooked
pub record IsRefused (d : DesignView) (formula : Formula) (round net demand : ℕ) (h : List Entry) : Type 0 where
  pub planned : Planned
  pub demand_is : planned.demand ≡ demand
  pub was : WasNoted d formula round h net planned
  pub ends : EndsWith h planned.tree
  pub free : booked h net ≡ None
