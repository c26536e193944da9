-- The nodes above a node, and the stages that they tell.
use Rattle.std.proofs.Common.{◌≡◌, ℕ, suc, zero, ◌<◌, ◌≤◌, inl, inr, Bool, true, false, ◌&&◌, ◌||◌, ◌==◌, List, ◌∷◌, is_none, refl, ap, arith}
use Rattle.std.proofs.lemmas.Bool.{cases_Bool, eqb-true, false≢true}
use Rattle.elmore_delay.specs.RcTrees.{RcTree, Buffers, IsRcTree, above_within, above, reaches, in_stage}

-- the path up is the same however many nodes it may have, where there are no fewer than the node's number
above-same : (a b : ℕ) (t : RcTree) (node : ℕ) → IsRcTree t → node < t.nodes → node ≤ a → node ≤ b →
    above_within a t node ≡ above_within b t node
above-same zero zero t node tree below first second = refl
above-same zero (suc b) t zero tree below first second = refl
above-same zero (suc b) t (suc node) tree below first second = absurd (omega arith)
above-same (suc a) zero t zero tree below first second = refl
above-same (suc a) zero t (suc node) tree below first second = absurd (omega arith)
above-same (suc a) (suc b) t zero tree below first second = refl
above-same (suc a) (suc b) t (suc node) tree below first second =
    let earlier = tree.earlier (suc node) (omega arith) below in
    ap (λ (nodes : List ℕ). t.parent (suc node) ∷ nodes)
    (above-same a b t (t.parent (suc node)) tree (omega arith) (omega arith) (omega arith))

pub above-more : (t : RcTree) (node : ℕ) → IsRcTree t → 0 < node → node < t.nodes →
    above t node ≡ t.parent node ∷ above t (t.parent node)
above-more t zero tree later below = absurd (omega arith)
above-more t (suc node) tree later below =
    let earlier = tree.earlier (suc node) later below in
    ap (λ (nodes : List ℕ). t.parent (suc node) ∷ nodes)
    (above-same node (t.parent (suc node)) t (t.parent (suc node)) tree (omega arith) (omega arith) (omega arith))

-- a node is in the stage of its parent, and else where its parent is and holds no buffer
pub stage-more : (t : RcTree) (b : Buffers) (v node : ℕ) → IsRcTree t → 0 < node → node < t.nodes →
    in_stage t b v node ≡ ((t.parent node == v) || (is_none (b (t.parent node)) && in_stage t b v (t.parent node)))
stage-more t b v node tree later below = ap (λ (nodes : List ℕ). reaches b v nodes) (above-more t node tree later below)

-- the nodes of a stage are later than its node
stage-later_within : (most : ℕ) (t : RcTree) (b : Buffers) (v node : ℕ) → IsRcTree t → node < t.nodes →
    reaches b v (above_within most t node) ≡ true → v < node
stage-later_within zero t b v node tree below is = absurd (false≢true is)
stage-later_within (suc most) t b v zero tree below is = absurd (false≢true is)
stage-later_within (suc most) t b v (suc node) tree below is =
    let earlier = tree.earlier (suc node) (omega arith) below in
    elim (cases_Bool (t.parent (suc node) == v)) [
      | inl here ↦ let at : t.parent (suc node) ≡ v = eqb-true (t.parent (suc node)) v here in omega (arith, at)
      | inr other ↦
          let up = stage-later_within most t b v (t.parent (suc node)) tree (omega arith) (further (is_none (b (t.parent (suc node)))) (rw other at is)) in
          omega (arith, up)
    ]
  where
    further : (p : Bool) → (p && reaches b v (above_within most t (t.parent (suc node)))) ≡ true →
        reaches b v (above_within most t (t.parent (suc node))) ≡ true
    further true is = is
    further false is = absurd (false≢true is)

pub stage-later : (t : RcTree) (b : Buffers) (v node : ℕ) → IsRcTree t → node < t.nodes → node ≤ v → in_stage t b v node ≡ false
stage-later t b v node tree below before =
    elim (cases_Bool (in_stage t b v node)) [
      | inl is ↦ let later = stage-later_within node t b v node tree below is in absurd (omega arith)
      | inr not ↦ not
    ]
