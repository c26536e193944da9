-- There is one pattern plan.
use Rattle.std.proofs.Common.{◌≡◌, ℕ, zero, suc, ◌+◌, ◌<◌, ◌≤◌, inl, inr, Bool, true, ◌&&◌, nat_lt, Option, List, ◌∷◌, ◌++◌, length, map, filter, IsTrue, refl, sym, ap, subst, ◌∙◌, arith}
use Rattle.std.specs.List.{list_any, range_with_len}
use Rattle.std.proofs.Math.Bool.{Bool-set}
use Rattle.std.proofs.lemmas.Bool.{cases_Bool, cases_eq}
use Rattle.std.proofs.lemmas.Bool.Decides.{nat_tests}
use Rattle.gr_base.proofs.General.{filter-yes, filter-no}
use Rattle.gr_base.specs.Limits.{is_grid}
use Rattle.gr_base.specs.Trees.{TreeView}
use Rattle.gr_base.specs.declared.grid.Edge.{Edge}
use Rattle.gr_base.specs.declared.grid.Shape.{Shape}
use Rattle.gr_base.specs.declared.grid.Way.{Way}
use Rattle.layer_assign.specs.Assignments.{ends_at, met, cost_of, tile_at, pin_layers, IsAssignment, IsLeast, IsFirst, AreAlike}
use Rattle.layer_assign.specs.NodeOrder.{raised_tree}
use Rattle.layer_assign.proofs.OrderLemmas.{tree-same}
use Rattle.steiner_topology.specs.Topology.{topology_of}
use Rattle.net_plan.specs.FlatPrices.{flat_price}
use Rattle.net_plan.specs.FlatTrees.{distinct_tiles, tree_of, IsFlatTree}
use Rattle.net_plan.specs.Patterns.{IsPatternTree}

-- shapes are equal where their three numbers are
abbrev shape_by : (c r l : ℕ) → IsTrue (is_grid c r l) → Shape
shape_by c r l valid = record { columns = c; rows = r; layers = l; valid = valid }

same-shape : (a b : Shape) → a.columns ≡ b.columns → a.rows ≡ b.rows → a.layers ≡ b.layers → a ≡ b
same-shape a b cs rs ls =
    let start : (v : IsTrue (is_grid a.columns a.rows a.layers)) → ◌≡◌ {A = Shape} a (shape_by a.columns a.rows a.layers v) =
    λ v. ap (shape_by a.columns a.rows a.layers) (Bool-set _ _ a.valid v) in
    let P : ℕ → Type 0 = λ c. (v : IsTrue (is_grid c a.rows a.layers)) → ◌≡◌ {A = Shape} a (shape_by c a.rows a.layers v) in
    let Q : ℕ → Type 0 = λ r. (v : IsTrue (is_grid b.columns r a.layers)) → ◌≡◌ {A = Shape} a (shape_by b.columns r a.layers v) in
    let R : ℕ → Type 0 = λ l. (v : IsTrue (is_grid b.columns b.rows l)) → ◌≡◌ {A = Shape} a (shape_by b.columns b.rows l v) in
    subst R ls (subst Q rs (subst P cs start)) b.valid

-- there is one flat tree
flat-only : (g : Shape) (price : Edge → Option ℕ) (pins : List ℕ) (t u : TreeView) → IsFlatTree g price pins t → IsFlatTree g price pins u → t ≡ u
flat-only g price pins t u one other =
    let a = one.flattened in
    let b = other.flattened in
    let same : t.shape ≡ u.shape = same-shape t.shape u.shape (a.columns ∙ sym b.columns) (a.rows ∙ sym b.rows) (a.layers ∙ sym b.layers) in
    one.exact ∙ ap (λ (s : Shape). tree_of s (flat_price g price) (topology_of (distinct_tiles g pins))) same ∙ sym other.exact

-- there is one first least assignment, as far as the tree has nodes
alike-below : (g : Shape) (ways : ℕ → Way → Bool) (price : Edge → Option ℕ) (t : TreeView) (pins : List ℕ) (a b : ℕ → ℕ) →
    IsAssignment g ways t a → IsAssignment g ways t b → IsFirst g ways price t pins a → IsFirst g ways price t pins b → cost_of g price t pins a ≡ cost_of g price t pins b →
    (n : ℕ) → n ≤ length t.nodes → AreAlike a b n
alike-below g ways price t pins a b of_a of_b first_a first_b same zero few other later below = absurd (omega arith)
alike-below g ways price t pins a b of_a of_b first_a first_b same (suc n) few other later below =
    let before = alike-below g ways price t pins a b of_a of_b first_a first_b same n (omega arith) in
    elim (cases_eq other n) [
      | inr apart ↦ before other later (omega arith)
      | inl here ↦
          let first : a other ≤ b other = first_a b of_b (sym same) other later (omega arith) (λ k pos less. before k pos (omega arith)) in
          let second : b other ≤ a other = first_b a of_a same other later (omega arith) (λ k pos less. sym (before k pos (omega arith))) in
          omega arith
    ]

assignment-only : (g : Shape) (ways : ℕ → Way → Bool) (price : Edge → Option ℕ) (t : TreeView) (pins : List ℕ) (a b : ℕ → ℕ) →
    IsAssignment g ways t a → IsAssignment g ways t b → IsLeast g ways price t pins a → IsLeast g ways price t pins b →
    IsFirst g ways price t pins a → IsFirst g ways price t pins b → AreAlike a b (length t.nodes)
assignment-only g ways price t pins a b of_a of_b least_a least_b first_a first_b =
    let low = least_a b of_b in
    let high = least_b a of_a in
    alike-below g ways price t pins a b of_a of_b first_a first_b (omega arith) (length t.nodes) (omega arith)

-- tests and readings of numbers that agree on a range agree on lists
any-same : (p q : ℕ → Bool) (n k : ℕ) → ((v : ℕ) → v < k + n → p v ≡ q v) → list_any p (range_with_len k n) ≡ list_any q (range_with_len k n)
any-same p q zero k same = refl
any-same p q (suc n) k same =
    let here = same k (omega arith) in
    let rest = any-same p q n (k + 1) (λ v below. same v (omega arith)) in
    rw (here, rest) refl

map-same : (p : ℕ → Bool) (a b : ℕ → ℕ) (n k : ℕ) → ((v : ℕ) → v < k + n → p v ≡ true → a v ≡ b v) →
    map a (filter p (range_with_len k n)) ≡ map b (filter p (range_with_len k n))
map-same p a b zero k same = refl
map-same p a b (suc n) k same =
    let rest = map-same p a b n (k + 1) (λ v below. same v (omega arith)) in
    elim (cases_Bool (p k)) [
      | inl passes ↦
          ap (map a) (filter-yes p k (range_with_len (k + 1) n) passes) ∙
          ap (λ (x : ℕ). x ∷ map a (filter p (range_with_len (k + 1) n))) (same k (omega arith) passes) ∙
          ap (λ (xs : List ℕ). b k ∷ xs) rest ∙ sym (ap (map b) (filter-yes p k (range_with_len (k + 1) n) passes))
      | inr fails ↦
          ap (map a) (filter-no p k (range_with_len (k + 1) n) fails) ∙ rest ∙
          sym (ap (map b) (filter-no p k (range_with_len (k + 1) n) fails))
    ]

later-end : (t : TreeView) (node below : ℕ) → ends_at t node below ≡ true → 0 < below
later-end t node below ends = first below _ ends
  where
    first : (n : ℕ) (b : Bool) → (nat_lt 0 n && b) ≡ true → 0 < n
    first n b both = grind (arith, nat_tests)

-- the same layers meet
met-same : (g : Shape) (t : TreeView) (pins : List ℕ) (a b : ℕ → ℕ) (node : ℕ) → AreAlike a b (length t.nodes) → met g t pins a node ≡ met g t pins b node
met-same g t pins a b node alike =
    ap (λ (xs : List ℕ). pin_layers g pins (tile_at t node) ++ xs)
    (map-same (ends_at t node) a b (length t.nodes) 0 (λ v below ends. alike v (later-end t node v ends) (omega arith)))

-- there is one pattern plan
pub pattern-only : (g : Shape) (ways : ℕ → Way → Bool) (price : Edge → Option ℕ) (pins : List ℕ) (t u : TreeView) → IsPatternTree g ways price pins t →
    IsPatternTree g ways price pins u → u ≡ t
pattern-only g ways price pins t u one other =
    let flat = flat-only g price pins other.flat one.flat other.is_flat one.is_flat in
    let assigned = subst (λ (f : TreeView). IsAssignment g ways f other.layers) flat other.assignment in
    let least = subst (λ (f : TreeView). IsLeast g ways price f pins other.layers) flat other.least in
    let first = subst (λ (f : TreeView). IsFirst g ways price f pins other.layers) flat other.first in
    let alike = assignment-only g ways price one.flat pins other.layers one.layers assigned one.assignment least one.least first one.first in
    other.nodes ∙ ap (λ (f : TreeView). raised_tree g f pins other.layers) flat ∙
    tree-same g one.flat pins other.layers one.layers one.flat_tree alike (λ node. met-same g one.flat pins other.layers one.layers node alike) ∙ sym one.nodes
