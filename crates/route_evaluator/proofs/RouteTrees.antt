-- The trees of the nets so far.
use Rattle.std.proofs.Common.{◌≡◌, ℕ, ◌+◌, ◌<◌, inl, inr, false, List, Option, Some, IsTrue, subst, arith}
use Rattle.std.proofs.lemmas.Bool.{both_ways, cases_lt}
use Rattle.std.specs.Option.{IsSomeAnd}
use Rattle.gr_base.specs.Designs.{DesignView, is_routed}
use Rattle.gr_base.specs.Trees.{TreeView, IsTree, tree_at}
use Rattle.gr_base.proofs.General.{and-some}

-- the trees of the routed nets below a number are trees
abbrev pub AreTreesBefore : DesignView → List (Option TreeView) → ℕ → Type 0
AreTreesBefore d trees count = (net : ℕ) → (tree : TreeView) → net < count → IsTrue (is_routed d net) → tree_at trees net ≡ Some tree → IsTree tree

pub trees-none : (d : DesignView) (trees : List (Option TreeView)) → AreTreesBefore d trees 0
trees-none d trees net tree below routed at = absurd (omega (arith, below))

trees-more : (d : DesignView) (trees : List (Option TreeView)) (k : ℕ) → AreTreesBefore d trees k →
    ((tree : TreeView) → IsTrue (is_routed d k) → tree_at trees k ≡ Some tree → IsTree tree) → AreTreesBefore d trees (k + 1)
trees-more d trees k are last net tree below routed at =
    elim (cases_lt net k) [
      | inl less ↦ are net tree less routed at
      | inr more ↦
          let same : net ≡ k = omega (arith, below, more) in
          last tree (subst (λ (n : ℕ). IsTrue (is_routed d n)) same routed) (subst (λ (n : ℕ). tree_at trees n ≡ Some tree) same at)
    ]

-- after a net that isn't routed, and after one whose tree is one
pub trees-skip : (d : DesignView) (trees : List (Option TreeView)) (k : ℕ) → is_routed d k ≡ false → AreTreesBefore d trees k → AreTreesBefore d trees (k + 1)
trees-skip d trees k off are = trees-more d trees k are (λ tree routed at. absurd (both_ways (is_routed d k) off routed))

pub trees-next : (d : DesignView) (trees : List (Option TreeView)) (k : ℕ) → IsSomeAnd (tree_at trees k) IsTree → AreTreesBefore d trees k → AreTreesBefore d trees (k + 1)
trees-next d trees k is are = trees-more d trees k are (λ tree routed at. and-some IsTree (tree_at trees k) tree at is)
