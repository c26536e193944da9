-- Indexes of a tree's nodes by their cells.
use Rattle.std.specs.Prelude.{◌≡◌, ℕ, List, Some, slice_get}
use Rattle.gr_base.specs.Trees.{cell_at}
use Rattle.gr_base.specs.declared.tree.Node.{Node}

-- at the cell of each node stands the node's number; what stands at other cells means nothing
abbrev pub Indexes : List ℕ → List Node → Type 0
Indexes numbers nodes = (node cell : ℕ) → cell_at nodes node ≡ Some cell → slice_get numbers cell ≡ Some node
