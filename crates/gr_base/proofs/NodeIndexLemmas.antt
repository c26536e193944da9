-- Indexes of a tree's nodes by their cells.
use Rattle.std.proofs.Common.{◌≡◌, ℕ, suc, zero, ◌+◌, ◌<◌, ◌≤◌, inl, inr, List, [], ◌∷◌, length, take, Option, Some, None, slice_get, slice_set, refl, sym, ap, subst, ◌∙◌, arith}
use Rattle.std.proofs.lemmas.Bool.{cases_eq}
use Rattle.std.proofs.lemmas.Option.{none-some, same_Some}
use Rattle.gr_base.specs.NodeIndexes.{Indexes}
use Rattle.gr_base.specs.Trees.{cell_at, node_with, AllHang}
use Rattle.gr_base.specs.declared.grid.Shape.{Shape}
use Rattle.gr_base.specs.declared.tree.Node.{Node}
use Rattle.gr_base.proofs.TreeLemmas.{cell_at-take, cell_at-within, cell-only, node_with-at}

-- the cell of one of the first nodes
cell_at-first : (nodes : List Node) (n k cell : ℕ) → k < n → cell_at nodes k ≡ Some cell → cell_at (take n nodes) k ≡ Some cell
cell_at-first [] n k cell below is = absurd (none-some cell is)
cell_at-first (x ∷ xs) zero k cell below is = absurd (omega arith)
cell_at-first (x ∷ xs) (suc n) zero cell below is = is
cell_at-first (x ∷ xs) (suc n) (suc k) cell below is = cell_at-first xs n k cell (omega arith) is

take-within : (nodes : List Node) (n : ℕ) → length (take n nodes) ≤ n
take-within [] zero = omega arith
take-within [] (suc n) = omega arith
take-within (x ∷ xs) zero = omega arith
take-within (x ∷ xs) (suc n) = let h = take-within xs n in omega arith

-- what stands in a list at the place that was written, and elsewhere
set_here : (ns : List ℕ) (i n : ℕ) → i < length ns → slice_get (slice_set ns i n) i ≡ Some n
set_here [] i n within = absurd (omega arith)
set_here (m ∷ ns) zero n within = refl
set_here (m ∷ ns) (suc i) n within = set_here ns i n (omega arith)

set_elsewhere : (ns : List ℕ) (i n j : ℕ) → (j ≡ i → ⊥) → slice_get (slice_set ns i n) j ≡ slice_get ns j
set_elsewhere [] i n j other = refl
set_elsewhere (m ∷ ns) zero n zero other = absurd (other refl)
set_elsewhere (m ∷ ns) zero n (suc j) other = refl
set_elsewhere (m ∷ ns) (suc i) n zero other = refl
set_elsewhere (m ∷ ns) (suc i) n (suc j) other = set_elsewhere ns i n j (λ e. other (ap (λ (k : ℕ). suc k) e))

-- one more node
pub index-node : (g : Shape) (nodes : List Node) (numbers : List ℕ) (k cell : ℕ) → AllHang g [] nodes → cell_at nodes k ≡ Some cell →
    cell < length numbers → Indexes numbers (take k nodes) → Indexes (slice_set numbers cell k) (take (k + 1) nodes)
index-node g nodes numbers k cell hanging is inside before = λ j other at.
    let whole = cell_at-take nodes (k + 1) j other at in
    let within = cell_at-within (take (k + 1) nodes) j other at in
    let most = take-within nodes (k + 1) in
    elim (cases_eq j k) [
      | inl same ↦
          let e : other ≡ cell = same_Some other cell (sym whole ∙ ap (λ (i : ℕ). cell_at nodes i) same ∙ is) in
          ap (λ (c : ℕ). slice_get (slice_set numbers cell k) c) e ∙ set_here numbers cell k inside ∙ ap (λ (i : ℕ). Some i) (sym same)
      | inr apart ↦
          let first = cell-only g nodes j other hanging whole in
          let second = cell-only g nodes k cell hanging is in
          let differ : other ≡ cell → ⊥ = λ e.
          apart (same_Some j k (sym first ∙ ap (λ (c : ℕ). node_with nodes c) e ∙ second)) in
          set_elsewhere numbers cell k other differ ∙ before j other (cell_at-first nodes k j other (omega arith) whole)
    ]

-- what the index says of a cell, where that node doesn't have it: then none has
pub index-none : (nodes : List Node) (numbers : List ℕ) (cell k : ℕ) → Indexes numbers nodes → slice_get numbers cell ≡ Some k →
    (cell_at nodes k ≡ Some cell → ⊥) → None ≡ node_with nodes cell
index-none nodes numbers cell k index is other = sym (by (node_with nodes cell) refl)
  where
    by : (o : Option ℕ) → node_with nodes cell ≡ o → o ≡ None
    by None found = refl
    by (Some j) found =
        let at = node_with-at nodes cell j found in
        let same : j ≡ k = same_Some j k (sym (index j cell at) ∙ is) in
        absurd (other (subst (λ (i : ℕ). cell_at nodes i ≡ Some cell) same at))

-- none has it where the number is none of the nodes'
pub index-past : (nodes : List Node) (numbers : List ℕ) (cell k : ℕ) → Indexes numbers nodes → slice_get numbers cell ≡ Some k →
    length nodes ≤ k → None ≡ node_with nodes cell
index-past nodes numbers cell k index is past =
    index-none nodes numbers cell k index is (λ at. let h = cell_at-within nodes k cell at in absurd (omega arith))

pub index-other : (nodes : List Node) (numbers : List ℕ) (cell k other : ℕ) → Indexes numbers nodes → slice_get numbers cell ≡ Some k →
    cell_at nodes k ≡ Some other → (other ≡ cell → ⊥) → None ≡ node_with nodes cell
index-other nodes numbers cell k other index is at differ =
    index-none nodes numbers cell k index is (λ found. differ (same_Some other cell (sym at ∙ found)))
