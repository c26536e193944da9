-- What the trees of a design's kept nets are made with.
use Rattle.std.specs.Prelude.{◌≡◌, ℕ, ◌<◌, List, length, Option, Some, IsSome}
use Rattle.gr_base.specs.Designs.{DesignView}
use Rattle.gr_base.specs.EdgeSets.{Edges}
use Rattle.gr_base.specs.Grid.{cells_of}
use Rattle.gr_base.specs.Trees.{TreeView, tree_at}
use Rattle.grid_demand.specs.Tables.{capacity_of}
use Rattle.route_evaluator.specs.TreeSets.{AreSetsOf}
use Rattle.kept_routes.specs.Kept.{CanBeKept, IsKeptTree}
use Rattle.kept_routes.specs.declared.keeper.Keeper.{Keeper}

-- the sets and the index are for the design's grid, and the capacity is the design's
pub record IsKeeperOf (d : DesignView) (keeper : Keeper) : Type 0 where
  pub sets : AreSetsOf d.frame.shape keeper.maker
  pub index : length keeper.index ≡ cells_of d.frame.shape
  pub capacity : keeper.capacity ≡ capacity_of d

-- of the nets below a number, exactly those that can be kept have a tree, and no others
pub record AreKeptBefore (d : DesignView) (sets : ℕ → Edges) (count : ℕ) (trees : List (Option TreeView)) : Type 0 where
  pub long : length trees ≡ length d.nets
  pub kept : (net : ℕ) → (t : TreeView) → tree_at trees net ≡ Some t → CanBeKept d sets net × IsKeptTree d sets net t
  pub all : (net : ℕ) → net < count → CanBeKept d sets net → IsSome (tree_at trees net)
