-- What is done to loads, and what that comes to.
use Rattle.std.specs.Prelude.{ℕ, ◌+◌, nat_lt, List, [], ◌∷◌, ◌++◌, fold, sum_by, if◌then◌else◌}
use Rattle.gr_base.specs.Trees.{TreeView}
use Rattle.gr_base.specs.declared.grid.Edge.{Edge}
use Rattle.grid_demand.specs.Tables.{CapacityView, capacity_at}
use Rattle.grid_demand.specs.LoadSums.{LoadsView, demand_at, no_loads, share, added, taken, marked}

-- a net with one of its trees
pub record Routed : Type 0 where
  pub net : ℕ
  pub tree : TreeView

-- what is done to loads
pub data Operation : Type 0 where
  Add : Routed → Operation
  Take : Routed → Operation
  Mark : Operation

-- the loads after one operation
abbrev pub after : CapacityView → LoadsView → Operation → LoadsView
after c l (Add routed) = added c routed.net routed.tree l
after c l (Take routed) = taken c routed.net routed.tree l
after c l Mark = marked c l

-- the loads after a list of operations on loads without demand
abbrev pub after_all : CapacityView → List Operation → LoadsView
after_all c operations = fold (after c) (no_loads c.shape) operations

-- which nets' trees are in after a list of operations, from those that were in before; what is taken out was in
pub data Leaves : List Routed → List Operation → List Routed → Type 0 where
  Nothing_done : {routes : List Routed} → Leaves routes [] routes
  Then_add : {routes last : List Routed} → {operations : List Operation} → (routed : Routed) →
      Leaves (routed ∷ routes) operations last → Leaves routes (Add routed ∷ operations) last
  Then_take : {last : List Routed} → {operations : List Operation} → (before : List Routed) → (routed : Routed) → (others : List Routed) →
      Leaves (before ++ others) operations last → Leaves (before ++ routed ∷ others) (Take routed ∷ operations) last
  Then_mark : {routes last : List Routed} → {operations : List Operation} → Leaves routes operations last → Leaves routes (Mark ∷ operations) last

-- what the trees that are in take of an edge together
abbrev pub taken_of : CapacityView → List Routed → Edge → ℕ
taken_of c routes e = sum_by (λ routed. share c routed.net routed.tree e) routes

-- how many marks of a list of operations find the demand for an edge above its capacity
abbrev pub marks_over : CapacityView → Edge → LoadsView → List Operation → ℕ
marks_over c e l [] = 0
marks_over c e l (Mark ∷ operations) =
    (if nat_lt (capacity_at c e) (demand_at l e) then 1 else 0) + marks_over c e (after c l Mark) operations
marks_over c e l (operation ∷ operations) = marks_over c e (after c l operation) operations
