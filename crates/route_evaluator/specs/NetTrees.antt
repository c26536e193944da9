-- When the edges of a net are a tree: between any two of the cells that they and the net's pins touch, exactly one
-- path leads.
use Rattle.std.specs.Prelude.{◌≡◌, ◌⊎◌, ℕ, false, List, [], ◌∷◌, Option, Some, slice_get, IsTrue}
use Rattle.gr_base.specs.declared.grid.Edge.{Edge}
use Rattle.gr_base.specs.declared.grid.Shape.{Shape}
use Rattle.gr_base.specs.Grid.{high_of, Joins}
use Rattle.gr_base.specs.EdgeSets.{Edges}
use Rattle.gr_base.specs.Designs.{DesignView, is_routed}
use Rattle.gr_base.specs.Plans.{IsRouteOf}
use Rattle.gr_base.specs.Trees.{TreeView, IsTree, edges_of, is_among, tree_at}
use Rattle.gr_base.specs.declared.frame.Net.{Net}

-- an edge of the set joins the two cells
pub record StepsTo (g : Shape) (set : Edges) (a b : ℕ) : Type 0 where
  pub edge : Edge
  pub among : IsTrue (set edge)
  pub joins : Joins g edge a b

-- along edges of the set a path leads from the first cell through these to the last: it visits no cell twice
abbrev pub IsPath : Shape → Edges → (first last : ℕ) → List ℕ → Type 0
IsPath g set first last [] = first ≡ last
IsPath g set first last (next ∷ after) =
    StepsTo g set first next × (is_among (next ∷ after) first ≡ false) × IsPath g set next last after

-- from one cell to another exactly one path leads along edges of the set
pub record OnePath (g : Shape) (set : Edges) (first last : ℕ) : Type 0 where
  pub path : List ℕ
  pub leads : IsPath g set first last path
  pub only : (other : List ℕ) → IsPath g set first last other → other ≡ path

-- the cell is an end of an edge of the set
abbrev pub IsEnd : Shape → Edges → ℕ → Type 0
IsEnd g set cell = (e : Edge) × IsTrue (set e) × ((e.low ≡ cell) ⊎ (high_of g e ≡ cell))

-- the cell is one that the set's edges or the pins touch
abbrev pub IsTouched : Shape → Edges → (pins : List ℕ) → ℕ → Type 0
IsTouched g set pins cell = IsEnd g set cell ⊎ IsTrue (is_among pins cell)

-- the edges of the set are a tree for these pins
abbrev pub AreTree : Shape → Edges → (pins : List ℕ) → Type 0
AreTree g set pins = (a b : ℕ) → IsTouched g set pins a → IsTouched g set pins b → OnePath g set a b

-- the tree has just the edges of the set
abbrev pub HasJust : Edges → TreeView → Type 0
HasJust set t = (e : Edge) → edges_of t e ≡ set e

-- what stands for each routed net is a tree
abbrev pub AreTrees : DesignView → List (Option TreeView) → Type 0
AreTrees d trees =
    (net : ℕ) → (tree : TreeView) → IsTrue (is_routed d net) → tree_at trees net ≡ Some tree → IsTree tree
