-- Pattern plans: trees that are raised from the first least assignment of a flat tree.
use Rattle.std.specs.Prelude.{◌≡◌, ℕ, Bool, List, Option, slice_get}
use Rattle.cost_rules.specs.declared.site.Formula.{Formula}
use Rattle.gr_base.specs.Trees.{TreeView, IsTree, cell_at, edges_of}
use Rattle.gr_base.specs.declared.grid.Edge.{Edge}
use Rattle.gr_base.specs.declared.grid.Shape.{Shape}
use Rattle.gr_base.specs.declared.grid.Way.{Way}
use Rattle.grid_demand.specs.LoadSums.{LoadsView}
use Rattle.grid_demand.specs.Tables.{CapacityView}
use Rattle.layer_assign.specs.Assignments.{IsAssignment, IsLeast, IsFirst}
use Rattle.layer_assign.specs.NodeOrder.{raised_tree}
use Rattle.layer_assign.specs.Raised.{raised_edges}
use Rattle.net_plan.specs.FlatTrees.{IsFlatTree}
use Rattle.net_plan.specs.Prices.{price_of, ways_of}

-- a tree from the first pin's cell, whose edges are those that are raised from the first least assignment of the pins'
-- flat tree, in the order in which they are raised
pub record IsPatternTree (g : Shape) (ways : ℕ → Way → Bool) (price : Edge → Option ℕ) (pins : List ℕ) (t : TreeView)
    : Type 0 where
  pub tree : IsTree t
  pub shape : t.shape ≡ g
  pub driver : cell_at t.nodes 0 ≡ slice_get pins 0
  pub flat : TreeView
  pub flat_tree : IsTree flat
  pub layers : ℕ → ℕ
  pub is_flat : IsFlatTree g price pins flat
  pub assignment : IsAssignment g ways flat layers
  pub least : IsLeast g ways price flat pins layers
  pub first : IsFirst g ways price flat pins layers
  pub edges : (e : Edge) → edges_of t e ≡ raised_edges g flat pins layers e
  pub nodes : t ≡ raised_tree g flat pins layers

-- a pattern plan of a net, by the net's prices
abbrev pub IsPattern : CapacityView → LoadsView → Formula → ℕ → List ℕ → TreeView → Type 0
IsPattern c l formula net pins t = IsPatternTree c.shape (ways_of c) (price_of c l formula net) pins t

-- there is no other such plan
abbrev pub IsOnlyPattern : CapacityView → LoadsView → Formula → ℕ → List ℕ → TreeView → Type 0
IsOnlyPattern c l formula net pins t = (other : TreeView) → IsPattern c l formula net pins other → other ≡ t
