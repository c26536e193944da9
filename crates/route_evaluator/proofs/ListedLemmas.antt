-- The edges whose numbers are listed, and when a tree of some of them has them all.
use Rattle.std.proofs.Common.{◌≡◌, ℕ, ◌≤◌, ◌==◌, ◌||◌, inl, inr, Bool, true, false, cond, List, [], ◌∷◌, map, length, All, count_by, IsTrue, refl, sym, ap, subst, ◌∙◌, arith}
use Rattle.std.specs.Cmp.{IsEquivalence}
use Rattle.std.specs.List.{AllByRecursion, IsDistinct}
use Rattle.std.proofs.lemmas.Bool.{cases_Bool, or_cases}
use Rattle.std.proofs.lemmas.List.{length-map}
use Rattle.std.proofs.lemmas.List.Elements.{All-map}
use Rattle.std.proofs.lemmas.List.Sums.{sum_by-cons}
use Rattle.std.proofs.lemmas.Map.Made.{length-le_from_is_member, length-from_same_keys}
use Rattle.gr_base.specs.declared.grid.Edge.{Edge}
use Rattle.gr_base.specs.declared.grid.Shape.{Shape}
use Rattle.gr_base.specs.EdgeSets.{is_edge, set_of}
use Rattle.gr_base.specs.Grid.{has_edge}
use Rattle.gr_base.specs.Trees.{TreeView, IsTree, edges_of, tree_edges}
use Rattle.gr_base.proofs.TreeEdges.{is_edge-refl}
use Rattle.gr_base.proofs.TreeDistinct.{is_edge-same, tree-distinct_edges}
use Rattle.solution_text.specs.Runs.{LieIn}
use Rattle.solution_text.proofs.CoverLemmas.{bool-same}
use Rattle.route_evaluator.specs.EdgeNumbers.{edge_number, edge_numbered, edges_numbered}
use Rattle.route_evaluator.proofs.CountLemmas.{times, numbers-inside}
use Rattle.route_evaluator.proofs.EdgeNumberLemmas.{number-numbered, is_edge-number}
use Rattle.route_evaluator.proofs.NumberLemmas.{count-none}

test-listed : (e : Edge) (n : ℕ) → is_edge e (edge_numbered n) ≡ (edge_number e == n)
test-listed e n = sym (is_edge-number e (edge_numbered n)) ∙ ap (λ (m : ℕ). edge_number e == m) (number-numbered n)

-- the edges with the numbers of a list are its set
pub listed : (numbers : List ℕ) (e : Edge) → set_of (map edge_numbered numbers) e ≡ edges_numbered numbers e
listed [] e = refl
listed (n ∷ numbers) e =
    ap (λ (b : Bool). b || set_of (map edge_numbered numbers) e) (test-listed e n)
    ∙ ap (λ (b : Bool). (edge_number e == n) || b) (listed numbers e)

pub listed-inside : (g : Shape) (numbers : List ℕ) → LieIn g (edges_numbered numbers) → All (λ e. IsTrue (has_edge g e)) (map edge_numbered numbers)
listed-inside g numbers within = All-map (λ (e : Edge). IsTrue (has_edge g e)) edge_numbered numbers (numbers-inside g numbers within)

count-listed : (numbers : List ℕ) (e : Edge) → count_by (is_edge e) (map edge_numbered numbers) ≡ times numbers (edge_number e)
count-listed [] e = refl
count-listed (n ∷ numbers) e =
    let more = sum_by-cons (λ (f : Edge). cond (is_edge e f) 1 0) (edge_numbered n) (map edge_numbered numbers) in
    let more' = sum_by-cons (λ (m : ℕ). cond (edge_number e == m) 1 0) n numbers in
    let one : cond {A = ℕ} (is_edge e (edge_numbered n)) 1 0 ≡ cond (edge_number e == n) 1 0 = ap (λ (b : Bool). cond b 1 0) (test-listed e n) in
    omega (arith, more, more', one, count-listed numbers e)

-- ---- lists in which nothing stands twice

none-of : {K : Type 0} (p : K → Bool) (xs : List K) → count_by p xs ≡ 0 → AllByRecursion (λ x. p x ≡ false) xs
none-of p [] none = tt
none-of p (x ∷ xs) none =
    let more = sum_by-cons (λ y. cond (p y) 1 0) x xs in
    elim (cases_Bool (p x)) [
      | inl on ↦ let one : cond {A = ℕ} (p x) 1 0 ≡ 1 = rw on refl in absurd (omega (arith, more, one, none))
      | inr off ↦ (off, none-of p xs (omega (arith, more, none)))
    ]

distinct : {K : Type 0} (eq : K → K → Bool) → ((x : K) → eq x x ≡ true) → (xs : List K) → ((x : K) → count_by (eq x) xs ≤ 1) → IsDistinct eq xs
unfolding IsDistinct
distinct eq same [] once = tt
distinct eq same (x ∷ xs) once =
    let more = sum_by-cons (λ y. cond (eq x y) 1 0) x xs in
    let one : cond {A = ℕ} (eq x x) 1 0 ≡ 1 = rw (same x) refl in (
      none-of (eq x) xs (omega (arith, more, one, once x)),
      distinct eq same xs (λ y. omega (arith, sum_by-cons (λ z. cond (eq y z) 1 0) x xs, once y)),
    )

distinct-more : (e : Edge) (edges : List Edge) → set_of edges e ≡ false → IsDistinct is_edge edges → IsDistinct is_edge (e ∷ edges)
unfolding IsDistinct
distinct-more e edges none before = (none-of (is_edge e) edges (count-none (is_edge e) edges none), before)

turned : (e f : Edge) → is_edge e f ≡ true → is_edge f e ≡ true
turned e f same = subst (λ (d : Edge). is_edge d e ≡ true) (is_edge-same e f same) (is_edge-refl e)

alike : IsEquivalence is_edge
alike = record {
  refl = is_edge-refl;
  symm = λ e f. bool-same (is_edge e f) (is_edge f e) (turned e f) (turned f e);
  congr = λ x y z same. ap (λ (d : Edge). is_edge d z) (is_edge-same x y same);
}

-- ---- a tree of some of the edges

module _ (numbers : List ℕ) (t : TreeView) (tree : IsTree t) (within : (e : Edge) → edges_of t e ≡ true → edges_numbered numbers e ≡ true) where
  tree-distinct : IsDistinct is_edge (tree_edges t)
  tree-distinct = distinct is_edge is_edge-refl (tree_edges t) (tree-distinct_edges t tree)

  -- where it has as many edges it has each of them
  pub none-left : length numbers ≡ length (tree_edges t) → (e : Edge) → edges_numbered numbers e ≡ true → edges_of t e ≡ true
  none-left size e here =
      elim (cases_Bool (edges_of t e)) [
        | inl has ↦ has
        | inr other ↦
            let most = length-le_from_is_member alike (e ∷ tree_edges t) (map edge_numbered numbers) (distinct-more e (tree_edges t) other tree-distinct)
            (λ q is. listed numbers q ∙ elim (or_cases (is_edge q e) (edges_of t q) is) [
              | inl same ↦ ap (edges_numbered numbers) (is_edge-same q e same) ∙ here
              | inr more ↦ within q more
            ]) in
            absurd (omega (arith, most, length-map numbers edge_numbered, size))
      ]

  -- where it has each of them it has as many
  pub as-many : ((n : ℕ) → times numbers n ≤ 1) → ((e : Edge) → edges_numbered numbers e ≡ true → edges_of t e ≡ true) → length numbers ≡ length (tree_edges t)
  as-many once all =
      let P : ℕ → Type 0 = λ n. n ≤ 1 in
      sym (length-map numbers edge_numbered)
      ∙ length-from_same_keys alike (map edge_numbered numbers) (tree_edges t)
      (distinct is_edge is_edge-refl (map edge_numbered numbers) (λ e. subst P (sym (count-listed numbers e)) (once (edge_number e)))) tree-distinct
      (λ q. listed numbers q ∙ bool-same (edges_numbered numbers q) (edges_of t q) (all q) (within q))
