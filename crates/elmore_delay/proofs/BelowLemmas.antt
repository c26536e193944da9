-- The nodes that lie below another.
use Rattle.std.proofs.Common.{◌≡◌, ℕ, zero, suc, ◌<◌, ◌≤◌, ◌⊎◌, inl, inr, Bool, true, false, ◌||◌, ◌==◌, List, refl, sym, ap, subst, ◌∙◌, arith}
use Rattle.std.specs.List.{list_any}
use Rattle.std.proofs.lemmas.Bool.{cases_Bool, or_cases, or_left, or_right, eqb-true, eq-eqb, ne_eqb, false≢true}
use Rattle.elmore_delay.specs.RcTrees.{RcTree, IsRcTree}
use Rattle.elmore_delay.specs.BelowNodes.{lies_below, is_within}
use Rattle.elmore_delay.proofs.Paths.{above-more}

-- a node lies below its parent, and below what its parent lies below
below-more : (t : RcTree) (v node : ℕ) → IsRcTree t → 0 < node → node < t.nodes →
    lies_below t v node ≡ ((t.parent node == v) || lies_below t v (t.parent node))
below-more t v node tree later inside = ap (λ (nodes : List ℕ). list_any (λ (other : ℕ). other == v) nodes) (above-more t node tree later inside)

pub below-parent : (t : RcTree) (node : ℕ) → IsRcTree t → 0 < node → node < t.nodes → lies_below t (t.parent node) node ≡ true
below-parent t node tree later inside =
    let q = t.parent node in
    below-more t q node tree later inside ∙ or_left (q == q) (lies_below t q q) (eq-eqb q q refl)

pub below-further : (t : RcTree) (v node : ℕ) → IsRcTree t → 0 < node → node < t.nodes → lies_below t v (t.parent node) ≡ true → lies_below t v node ≡ true
below-further t v node tree later inside is =
    below-more t v node tree later inside ∙ or_right (t.parent node == v) (lies_below t v (t.parent node)) is

pub below-cases : (t : RcTree) (v node : ℕ) → IsRcTree t → 0 < node → node < t.nodes → lies_below t v node ≡ true →
    (t.parent node ≡ v) ⊎ (lies_below t v (t.parent node) ≡ true)
below-cases t v node tree later inside is =
    elim (or_cases (t.parent node == v) (lies_below t v (t.parent node)) (sym (below-more t v node tree later inside) ∙ is)) [
      | inl here ↦ inl (eqb-true (t.parent node) v here)
      | inr up ↦ inr up
    ]

-- it has a greater number
later-within : (most : ℕ) (t : RcTree) (v node : ℕ) → IsRcTree t → node ≤ most → node < t.nodes → lies_below t v node ≡ true → v < node
later-within zero t v zero tree low inside is = absurd (false≢true is)
later-within zero t v (suc node) tree low inside is = absurd (omega arith)
later-within (suc most) t v zero tree low inside is = absurd (false≢true is)
later-within (suc most) t v (suc node) tree low inside is =
    let earlier = tree.earlier (suc node) (omega arith) inside in
    elim (below-cases t v (suc node) tree (omega arith) inside is) [
      | inl here ↦ omega (arith, here, earlier)
      | inr up ↦
          let less = later-within most t v (t.parent (suc node)) tree (omega arith) (omega arith) up in
          omega (arith, less, earlier)
    ]

pub below-later : (t : RcTree) (v node : ℕ) → IsRcTree t → node < t.nodes → lies_below t v node ≡ true → v < node
below-later t v node tree inside is = later-within node t v node tree (omega arith) inside is

pub not-below : (t : RcTree) (v node : ℕ) → IsRcTree t → node < t.nodes → node ≤ v → lies_below t v node ≡ false
not-below t v node tree inside low = elim (cases_Bool (lies_below t v node)) [
  | inl is ↦ let later = below-later t v node tree inside is in absurd (omega arith)
  | inr not ↦ not
]

-- what lies below a node below v lies below v
through-within : (most : ℕ) (t : RcTree) (v mid node : ℕ) → IsRcTree t → node ≤ most → node < t.nodes →
    lies_below t v mid ≡ true → lies_below t mid node ≡ true → lies_below t v node ≡ true
through-within zero t v mid zero tree low inside first second = absurd (false≢true second)
through-within zero t v mid (suc node) tree low inside first second = absurd (omega arith)
through-within (suc most) t v mid zero tree low inside first second = absurd (false≢true second)
through-within (suc most) t v mid (suc node) tree low inside first second =
    let earlier = tree.earlier (suc node) (omega arith) inside in
    below-further t v (suc node) tree (omega arith) inside
    (elim (below-cases t mid (suc node) tree (omega arith) inside second) [
      | inl here ↦ subst (λ (m : ℕ). lies_below t v m ≡ true) (sym here) first
      | inr up ↦ through-within most t v mid (t.parent (suc node)) tree (omega arith) (omega arith) first up
    ])

pub below-through : (t : RcTree) (v mid node : ℕ) → IsRcTree t → node < t.nodes → lies_below t v mid ≡ true → lies_below t mid node ≡ true →
    lies_below t v node ≡ true
below-through t v mid node tree inside first second = through-within node t v mid node tree (omega arith) inside first second

-- of two nodes above a third the later lies below the earlier
chain-within : (most : ℕ) (t : RcTree) (v mid node : ℕ) → IsRcTree t → node ≤ most → node < t.nodes → v < mid →
    lies_below t v node ≡ true → lies_below t mid node ≡ true → lies_below t v mid ≡ true
chain-within zero t v mid zero tree low inside less first second = absurd (false≢true second)
chain-within zero t v mid (suc node) tree low inside less first second = absurd (omega arith)
chain-within (suc most) t v mid zero tree low inside less first second = absurd (false≢true second)
chain-within (suc most) t v mid (suc node) tree low inside less first second =
    let earlier = tree.earlier (suc node) (omega arith) inside in
    elim (below-cases t mid (suc node) tree (omega arith) inside second) [
      | inl here ↦ elim (below-cases t v (suc node) tree (omega arith) inside first) [
        | inl other ↦ absurd (omega (arith, here, other))
        | inr up ↦ subst (λ (m : ℕ). lies_below t v m ≡ true) here up
      ]
      | inr higher ↦ elim (below-cases t v (suc node) tree (omega arith) inside first) [
        | inl other ↦
            let later = below-later t mid (t.parent (suc node)) tree (omega arith) higher in
            absurd (omega (arith, later, other))
        | inr up ↦ chain-within most t v mid (t.parent (suc node)) tree (omega arith) (omega arith) less up higher
      ]
    ]

pub below-chain : (t : RcTree) (v mid node : ℕ) → IsRcTree t → node < t.nodes → v < mid → lies_below t v node ≡ true → lies_below t mid node ≡ true →
    lies_below t v mid ≡ true
below-chain t v mid node tree inside less first second = chain-within node t v mid node tree (omega arith) inside less first second

-- a later node is v or below it where its parent is
pub within-more : (t : RcTree) (v node : ℕ) → IsRcTree t → v < node → node < t.nodes → is_within t v node ≡ is_within t v (t.parent node)
within-more t v node tree later inside =
    ap (λ (p : Bool). p || lies_below t v node) (ne_eqb node v (λ e. omega arith)) ∙ below-more t v node tree (omega arith) inside

pub within-itself : (t : RcTree) (v : ℕ) → is_within t v v ≡ true
within-itself t v = or_left (v == v) (lies_below t v v) (eq-eqb v v refl)

pub not-within : (t : RcTree) (v node : ℕ) → IsRcTree t → node < t.nodes → node < v → is_within t v node ≡ false
not-within t v node tree inside low =
    ap (λ (p : Bool). p || lies_below t v node) (ne_eqb node v (λ e. omega arith)) ∙ not-below t v node tree inside (omega arith)

-- of later nodes those are v or below it that are below it
pub within-below : (t : RcTree) (v node : ℕ) → v < node → is_within t v node ≡ lies_below t v node
within-below t v node later = ap (λ (p : Bool). p || lies_below t v node) (ne_eqb node v (λ e. omega arith))

-- of the nodes above it its parent is the last
pub below-highest : (t : RcTree) (v node : ℕ) → IsRcTree t → 0 < node → node < t.nodes → lies_below t v node ≡ true → v ≤ t.parent node
below-highest t v node tree later inside is =
    let earlier = tree.earlier node later inside in
    elim (below-cases t v node tree later inside is) [
      | inl here ↦ omega (arith, here)
      | inr up ↦ let less = below-later t v (t.parent node) tree (omega arith) up in omega (arith, less)
    ]
