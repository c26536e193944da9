-- A walk that is hung on an indexed tree.
use Rattle.std.proofs.Common.{◌≡◌, ℕ, ◌-◌, ◌<◌, ◌≤◌, true, false, Option, Some, None, List, [], ◌∷◌, length, take, get_or, is_some, All, refl, sym, ap, subst, ◌∙◌, arith, Result, Ok, Err}
use Rattle.std.specs.Prelude.{OnOk}
use Rattle.std.proofs.lemmas.List.{take_at}
use Rattle.gr_base.proofs.TreeGrowth.{walk-last}
use Rattle.gr_base.proofs.TreeLemmas.{node_with-at, cell-inside}
use Rattle.gr_base.specs.Grid.{cells_of}
use Rattle.gr_base.specs.NodeIndexes.{Indexes}
use Rattle.gr_base.specs.Trees.{TreeView, node_with, holds, IsTree, IsWalkTo, Begins}
use Rattle.gr_base.specs.declared.grid.Shape.{Shape}
use Rattle.gr_base.specs.declared.tree.Node.{Node}

-- a walk isn't empty
pub some-walk : (t : TreeView) (walk : List ℕ) → IsWalkTo t walk → 0 < length walk
some-walk t [] leads = absurd leads
some-walk t (cell ∷ walk) leads = omega arith

-- a tree's cells lie in the grid
held-inside : (t : TreeView) (cell : ℕ) → IsTree t → holds t cell ≡ true → cell < cells_of t.shape
held-inside t cell tree held = inside (node_with t.nodes cell) refl held
  where
    inside : (o : Option ℕ) → node_with t.nodes cell ≡ o → is_some o ≡ true → cell < cells_of t.shape
    inside None is none = absurd (false-true none)
      where
        false-true : false ≡ true → ⊥
        false-true e = cc
    inside (Some node) is some = cell-inside t.shape t.nodes node cell tree.hanging (node_with-at t.nodes cell node is)

-- the last cell of a walk to a tree lies in the grid
pub last-inside : (t : TreeView) (walk : List ℕ) → IsTree t → IsWalkTo t walk → get_or walk (length walk - 1) 0 < cells_of t.shape
last-inside t walk tree leads =
    let some = some-walk t walk leads in
    held-inside t (get_or walk (length walk - 1) 0) tree (walk-last t walk leads (length walk - 1) 0 (omega arith))

-- the cells of a walk in the grid have places in an index of its cells
pub walk-indexed : (g s : Shape) (count : ℕ) (cells walk : List ℕ) → g ≡ s → cells ≡ walk → cells_of s ≤ count → All (λ cell. cell < cells_of g) walk →
    All (λ cell. cell < count) cells
walk-indexed g s count cells walk same is enough inside =
    let few : cells_of g ≤ count = subst (λ (h : Shape). cells_of h ≤ count) (sym same) enough in
    subst (All (λ cell. cell < count)) (sym is) (λ k d below. let cell = inside k d below in omega arith)

-- a tree of no nodes is indexed by any numbers
pub none-indexed : (numbers : List ℕ) (nodes : List Node) → Indexes numbers (take 0 nodes)
none-indexed numbers nodes node cell is = absurd (none-some is)
  where
    none-some : ◌≡◌ {A = Option ℕ} None (Some cell) → ⊥
    none-some e = cc

-- an index of a tree is one of the nodes with which a tree begins that has grown from it
pub begin-indexed : (numbers : List ℕ) (old new : TreeView) (count : ℕ) → count ≡ length old.nodes → Begins old new → Indexes numbers old.nodes →
    Indexes numbers (take count new.nodes)
begin-indexed numbers old new count all begins index =
    subst (Indexes numbers) (sym (ap (take count) begins.nodes ∙ take_at old.nodes begins.added count (sym all))) index

-- what follows where a call succeeds
pub on-ok : {A E : Type 0} {P Q : Type 0} (r : Result A E) → (P → Q) → OnOk r P → OnOk r Q
on-ok (Ok x) step holds = step holds
on-ok (Err e) step holds = tt
