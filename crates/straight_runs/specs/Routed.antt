-- Routes that give each routed net of a design a tree in the design's grid.
use Rattle.std.specs.Prelude.{◌≡◌, ℕ, List, Option, IsTrue, IsSomeAnd}
use Rattle.gr_base.specs.Designs.{DesignView, is_routed}
use Rattle.gr_base.specs.Trees.{TreeView, tree_at}

-- each routed net has a tree of the design's shape
abbrev pub HaveTrees : DesignView → List (Option TreeView) → Type 0
HaveTrees d trees =
    (net : ℕ) → IsTrue (is_routed d net) → IsSomeAnd (tree_at trees net) (λ tree. tree.shape ≡ d.frame.shape)
