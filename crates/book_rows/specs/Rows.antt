-- The designs of the rows, and calls of a book.
use Rattle.std.specs.Prelude.{◌≡◌, ℕ, ◌+◌, ◌*◌, ◌≤◌, length, nat_lt, None, IsTrue}
use Rattle.book_state.specs.Books.{nets_of}
use Rattle.book_state.specs.Views.{BookView}
use Rattle.gr_base.specs.Designs.{DesignView, net_with_id, pins_of}
use Rattle.gr_base.specs.Grid.{has_edge}
use Rattle.gr_base.specs.Trees.{TreeView, holds}
use Rattle.gr_base.specs.declared.grid.Edge.{Edge}
use Rattle.gr_base.specs.declared.grid.Shape.{Shape}
use Rattle.gr_base.specs.declared.grid.Way.TheVariants.{East}
use Rattle.grid_demand.specs.Tables.{CapacityView, capacity_of}

-- the edge from tile 0 to the east
abbrev pub first_edge : Edge
first_edge = record { low = 0; way = East }

-- from two tiles and two nets on, and some room, each within what a design takes
pub record IsRow (tiles nets room : ℕ) : Type 0 where
  pub long : (2 ≤ tiles) × (tiles ≤ 100)
  pub many : (2 ≤ nets) × (nets ≤ 26)
  pub wide : (1 ≤ room) × (room ≤ 1000)

-- a grid of so many tiles beside each other on one layer
pub record IsLine (tiles : ℕ) (g : Shape) : Type 0 where
  pub columns : g.columns ≡ tiles
  pub rows : g.rows ≡ 1
  pub layers : g.layers ≡ 1

-- a design on such a grid with so many nets of two pins each, whose ids count from 0
pub record HasNets (tiles count : ℕ) (d : DesignView) : Type 0 where
  pub line : IsLine tiles d.frame.shape
  pub nets : length d.nets ≡ count
  pub pins : pins_of d.nets ≡ 2 * count
  pub fresh : (id : ℕ) → count ≤ id → net_with_id d id ≡ None

-- a tree of the first so many cells
pub record IsAlong (g : Shape) (count : ℕ) (tree : TreeView) : Type 0 where
  pub shape : tree.shape ≡ g
  pub cells : (cell : ℕ) → holds tree cell ≡ nat_lt cell count

-- a design of two nets or more on one row of tiles with that edge
pub record IsPlayed (design : DesignView) : Type 0 where
  pub rows : design.frame.shape.rows ≡ 1
  pub layers : design.frame.shape.layers ≡ 1
  pub nets : 2 ≤ nets_of (capacity_of design)
  pub edge : IsTrue (has_edge design.frame.shape first_edge)

-- a design of two nets or more with this capacity, whose grid has that edge, and a tree in its grid
pub record AreOfRow (c : CapacityView) (design : DesignView) (tree : TreeView) : Type 0 where
  pub capacity : capacity_of design ≡ c
  pub nets : 2 ≤ nets_of c
  pub shape : tree.shape ≡ c.shape
  pub edge : IsTrue (has_edge c.shape first_edge)

-- a book after one more call
pub record HasOneMore (old new : BookView) : Type 0 where
  pub capacity : new.capacity ≡ old.capacity
  pub count : length new.history ≡ length old.history + 1
