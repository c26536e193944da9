-- The load of a node's stage is the one that is seen below the node from the leaves.
use Rattle.std.proofs.Common.{◌≡◌, ◌≢◌, ℕ, zero, suc, ◌+◌, ◌-◌, ◌<◌, inl, inr, Bool, true, false, ◌&&◌, ◌==◌, Option, Some, None, is_none, if◌then◌else◌, refl, sym, ap, ◌∙◌, arith}
use Rattle.std.proofs.lemmas.Bool.{cases_eq, eq-eqb}
use Rattle.std.proofs.lemmas.Bool.Decides.{nat_tests}
use Rattle.elmore_delay.specs.RcTrees.{RcTree, Buffers, IsRcTree, in_stage, load_above, sinks_load, own_load, below}
use Rattle.elmore_delay.specs.FromLeaves.{behind, joined, hanging, seen_of_last}
use Rattle.elmore_delay.specs.declared.seen.Seen.{Seen}
use Rattle.rc_library.specs.declared.parts.Kind.{Kind}
use Rattle.elmore_delay.proofs.Ranges.{sums, only, sums-raised, sums-none, sum-passing}
use Rattle.elmore_delay.proofs.Paths.{stage-more, stage-later}

-- below a node when the last node but n is hung on its parent: at the parent, and elsewhere
pub seen-parent : (n k : ℕ) (t : RcTree) (b : Buffers) → k + suc n ≡ t.nodes →
    seen_of_last (suc n) t b (t.parent k)
    ≡ joined (seen_of_last n t b (t.parent k)) (hanging t b k (seen_of_last n t b k))
seen-parent n k t b at =
    let node : t.nodes - suc n ≡ k = omega arith in
    ap (λ (m : ℕ). if t.parent k == t.parent m
    then joined (seen_of_last n t b (t.parent k)) (hanging t b m (seen_of_last n t b m)) else seen_of_last n t b (t.parent k)) node
    ∙ (rw (eq-eqb (t.parent k) (t.parent k) refl) refl)

pub seen-other : (n k v : ℕ) (t : RcTree) (b : Buffers) → k + suc n ≡ t.nodes → v ≢ t.parent k →
    seen_of_last (suc n) t b v ≡ seen_of_last n t b v
seen-other n k v t b at other =
    let node : t.nodes - suc n ≡ k = omega arith in
    let apart : (v == t.parent k) ≡ false = grind (arith, nat_tests) in
    ap (λ (m : ℕ). if v == t.parent m
    then joined (seen_of_last n t b v) (hanging t b m (seen_of_last n t b m)) else seen_of_last n t b v) node
    ∙ (rw apart refl)

pub behind-load : (o : Option Kind) (s : Seen) → (behind o s).load ≡ load_above o s.load
behind-load None s = refl
behind-load (Some kind) s = refl

-- what a node adds to the stage of v, by the load that is seen below it
abbrev pub stage_load : RcTree → Buffers → ℕ → ℕ → ℕ → ℕ
stage_load t b v n u = (t.wire u).c + load_above (b u) (seen_of_last n t b u).load

abbrev pub staged : RcTree → Buffers → ℕ → ℕ → ℕ → ℕ
staged t b v n u = only (in_stage t b v) (stage_load t b v n) u

-- the terms of a node: with its sinks alone, with a greater load, and out of the stage
term-raised : (p : Bool) (o : Option Kind) (c load x : ℕ) →
    (if p then c + load_above o (load + x) else 0) ≡ (if p then c + load_above o load else 0) + (if is_none o && p then x else 0)
term-raised true None c load x = omega arith
term-raised true (Some kind) c load x = omega arith
term-raised false None c load x = omega arith
term-raised false (Some kind) c load x = omega arith

-- the load of a stage is what is seen below its node of the last n nodes, and below the other nodes of the stage
pub below-seen : (n k v : ℕ) (t : RcTree) (b : Buffers) → IsRcTree t → k + n ≡ t.nodes → v < k →
    below t b v ≡ (seen_of_last n t b v).load + sums (staged t b v n) k
below-seen zero k v t b tree at inside =
    let all : t.nodes ≡ k = omega arith in
    ap (λ (x : ℕ). sinks_load t v + x) (sum-passing (in_stage t b v) (own_load t b) t.nodes)
    ∙ ap (λ (m : ℕ). sinks_load t v + sums (staged t b v 0) m) all
below-seen (suc n) k v t b tree at inside =
    let q = t.parent k in
    let earlier : q < k = tree.earlier k (omega arith) (omega arith) in
    let before = below-seen n (suc k) v t b tree (omega arith) (omega arith) in
    let x : ℕ = (hanging t b k (seen_of_last n t b k)).load in
    let hung : x ≡ stage_load t b v n k = ap (λ (m : ℕ). m + (t.wire k).c) (behind-load (b k) (seen_of_last n t b k)) ∙ omega arith in
    let raised : (seen_of_last (suc n) t b q).load ≡ (seen_of_last n t b q).load + x = ap (λ (s : Seen). s.load) (seen-parent n k t b at) in
    let term : staged t b v (suc n) q ≡ staged t b v n q + (if is_none (b q) && in_stage t b v q then x else 0) =
    ap (λ (m : ℕ). if in_stage t b v q then (t.wire q).c + load_above (b q) m else 0) raised
    ∙ term-raised (in_stage t b v q) (b q) (t.wire q).c (seen_of_last n t b q).load x in
    let kept : (u : ℕ) → u < k → u ≢ q → staged t b v (suc n) u ≡ staged t b v n u = λ u lt other.
    ap (λ (s : Seen). if in_stage t b v u then (t.wire u).c + load_above (b u) s.load else 0) (seen-other n k u t b at other) in
    let total : sums (staged t b v (suc n)) k ≡ sums (staged t b v n) k + (if is_none (b q) && in_stage t b v q then x else 0) =
    sums-raised (staged t b v n) (staged t b v (suc n)) (if is_none (b q) && in_stage t b v q then x else 0) k q earlier term kept in
    let stage = stage-more t b v k tree (omega arith) (omega arith) in
    elim (cases_eq v q) [
      | inl same ↦
          let out : in_stage t b v q ≡ false = stage-later t b v q tree (omega arith) (omega arith) in
          let inn : in_stage t b v k ≡ true = stage ∙ (rw (eq-eqb q v (sym same)) refl) in
          let last : staged t b v n k ≡ x = (rw inn refl) ∙ sym hung in
          let none : (if is_none (b q) && in_stage t b v q then x else 0) ≡ 0 = rw out (nothing (is_none (b q)) x) in
          let own : (seen_of_last (suc n) t b v).load ≡ (seen_of_last n t b v).load + x =
          ap (λ (m : ℕ). (seen_of_last (suc n) t b m).load) same ∙ raised ∙ ap (λ (m : ℕ). (seen_of_last n t b m).load + x) (sym same) in
          omega (arith, before, total, none, last, own)
      | inr other ↦
          let apart : (q == v) ≡ false = grind (arith, nat_tests) in
          let inn : in_stage t b v k ≡ (is_none (b q) && in_stage t b v q) = stage ∙ (rw apart refl) in
          let last : staged t b v n k ≡ (if is_none (b q) && in_stage t b v q then x else 0) =
          ap (λ (p : Bool). if p then stage_load t b v n k else 0) inn
          ∙ ap (λ (m : ℕ). if is_none (b q) && in_stage t b v q then m else 0) (sym hung) in
          let own : (seen_of_last (suc n) t b v).load ≡ (seen_of_last n t b v).load = ap (λ (s : Seen). s.load) (seen-other n k v t b at other) in
          omega (arith, before, total, last, own)
    ]
  where
    nothing : (p : Bool) (x : ℕ) → (if p && false then x else 0) ≡ 0
    nothing true x = refl
    nothing false x = refl

-- the load of a node's stage, when all later nodes are hung on their parents
pub load-below_last : (n v : ℕ) (t : RcTree) (b : Buffers) → IsRcTree t → suc v + n ≡ t.nodes → below t b v ≡ (seen_of_last n t b v).load
load-below_last n v t b tree at =
    let none : sums (staged t b v n) (suc v) ≡ 0 = sums-none (staged t b v n) (suc v) (λ u lt.
    let out = stage-later t b v u tree (omega arith) (omega arith) in rw out refl) in
    omega (arith, below-seen n (suc v) v t b tree at (omega arith), none)
