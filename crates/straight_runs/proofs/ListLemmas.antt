-- The runs of a set's edges of one way, by the list of their low ends.
use Rattle.std.proofs.Common.{◌≡◌, ℕ, zero, suc, ◌+◌, ◌-◌, ◌<◌, ◌≤◌, inl, inr, Bool, true, false, ◌&&◌, ◌==◌, not, nat_le, List, [], ◌∷◌, ◌++◌, map, length, get_or, take, cond, if◌then◌else◌, refl, sym, ap, ◌∙◌, subst, All, IsTrue, append-nil, arith}
use Rattle.std.specs.List.{list_any, filter, range_with_len}
use Rattle.std.specs.List.Sorted.{IsStrictlyIncreasing}
use Rattle.std.proofs.lemmas.Bool.{cases_Bool, cases_eq, cases_lt, and_parts, or_left, or_cases, eq-eqb, false≢true, false_from_ne_true, cond-true, cond-false}
use Rattle.std.proofs.lemmas.Bool.Decides.{nat_tests}
use Rattle.std.proofs.lemmas.List.{map-append}
use Rattle.std.proofs.lemmas.List.Elements.{All-weaker, All-head, All-tail, filter_more, filter_agree}
use Rattle.std.proofs.lemmas.List.Folds.{list_any_at}
use Rattle.std.proofs.lemmas.List.FromFn.{length-range_with_len, get_or-range_with_len}
use Rattle.std.proofs.lemmas.List.Kept.{IsStrictlyIncreasing-filter}
use Rattle.gr_base.specs.declared.grid.Edge.{Edge}
use Rattle.gr_base.specs.declared.grid.Shape.{Shape}
use Rattle.gr_base.specs.declared.grid.Way.{Way}
use Rattle.gr_base.specs.Grid.{cells_of, edge_at, stride, has_edge}
use Rattle.gr_base.specs.EdgeSets.{Edges, is_way, is_edge, set_of}
use Rattle.gr_base.proofs.GridLemmas.{edge-low}
use Rattle.gr_base.proofs.TreeDistinct.{is_edge-same, is_way-same}
use Rattle.gr_base.proofs.TreeEdges.{is_way-refl}
use Rattle.solution_text.specs.declared.run.Run.{Run}
use Rattle.solution_text.specs.Runs.{LieIn, arrives, begins, reach, run_from, runs_of_way}
use Rattle.solution_text.proofs.RunLemmas.{stride-positive}
use Rattle.straight_runs.specs.Lows.{lows_below, is_low, edges_from, AreLows}

-- the edges of a list are the grid's where each in the list is
pub list-within : (g : Shape) (edges : List Edge) → All (λ e. IsTrue (has_edge g e)) edges → LieIn g (set_of edges)
list-within g [] all e h = absurd (false≢true h)
list-within g (f ∷ edges) all e h =
    elim (or_cases (is_edge e f) (list_any (is_edge e) edges) h) [
      | inl here ↦
          let P : Edge → Type 0 = λ x. IsTrue (has_edge g x) in
          subst P (sym (is_edge-same e f here)) (All-head P f edges all)
      | inr later ↦ list-within g edges (All-tail (λ x. IsTrue (has_edge g x)) f edges all) e later
    ]

-- ---- walking along a run

module _ (g : Shape) (set : Edges) (within : LieIn g set) (way : Way) where
  -- enough steps are enough
  reach-enough : (steps cell : ℕ) → cells_of g ≤ steps + cell → reach g set way steps cell ≡ reach g set way (suc steps) cell
  reach-enough zero cell many =
      let off : set (edge_at cell way) ≡ false = false_from_ne_true (set (edge_at cell way)) (λ on.
      let low = edge-low g (edge_at cell way) (within (edge_at cell way) on) in omega arith) in
      sym (cond-false (set (edge_at cell way)) (cell + stride g way) cell off)
  reach-enough (suc steps) cell many =
      let p = stride-positive g way in
      ap (λ (n : ℕ). if set (edge_at cell way) then n else cell) (reach-enough steps (cell + stride g way) (omega arith))

  pub reach-on : (steps cell next : ℕ) → cells_of g ≤ steps → next ≡ cell + stride g way → set (edge_at cell way) ≡ true →
      reach g set way steps next ≡ reach g set way steps cell
  reach-on zero cell next many is on = let low = edge-low g (edge_at cell way) (within (edge_at cell way) on) in absurd (omega arith)
  reach-on (suc steps) cell next many is on =
      let p = stride-positive g way in
      sym (reach-enough steps next (omega arith))
      ∙ ap (reach g set way steps) is
      ∙ sym (cond-true (set (edge_at cell way)) (reach g set way steps (cell + stride g way)) cell on)

  pub reach-off : (steps cell : ℕ) → set (edge_at cell way) ≡ false → reach g set way steps cell ≡ cell
  reach-off zero cell off = refl
  reach-off (suc steps) cell off = cond-false (set (edge_at cell way)) (reach g set way steps (cell + stride g way)) cell off

-- an edge from a low end
pub edge-from : (way : Way) (lows : List ℕ) (cell : ℕ) → edges_from way lows (edge_at cell way) ≡ is_low lows cell
edge-from way lows cell = ap (λ (b : Bool). b && is_low lows cell) (is_way-refl way)

pub begins-is : (g : Shape) (way : Way) (lows : List ℕ) (cell : ℕ) → is_low lows cell ≡ true →
    begins g (edges_from way lows) way cell ≡ not (nat_le (stride g way) cell && is_low lows (cell - stride g way))
begins-is g way lows cell here =
    ap (λ (b : Bool). b && not (arrives g (edges_from way lows) way cell)) (edge-from way lows cell ∙ here)
    ∙ ap (λ (b : Bool). not (nat_le (stride g way) cell && b)) (edge-from way lows (cell - stride g way))

pub low-at : (lows : List ℕ) (i : ℕ) → i < length lows → is_low lows (get_or lows i 0) ≡ true
low-at lows i lt = list_any_at (λ low. get_or lows i 0 == low) lows i 0 lt (eq-eqb (get_or lows i 0) (get_or lows i 0) refl)

-- ---- the runs that begin at these low ends

module _ (g : Shape) (way : Way) (lows : List ℕ) (are : AreLows g way lows) where
  pub low-inside : (i : ℕ) → i < length lows → get_or lows i 0 < cells_of g
  low-inside i lt =
      let e = edge_at (get_or lows i 0) way in
      edge-low g e (are.within e (edge-from way lows (get_or lows i 0) ∙ low-at lows i lt))

  abbrev pub runs_at : List ℕ → List Run
  runs_at cells = map (run_from g (edges_from way lows) way) (filter (begins g (edges_from way lows) way) cells)

  pub runs-skip : (i : ℕ) → i < length lows → not (nat_le (stride g way) (get_or lows i 0) && is_low lows (get_or lows i 0 - stride g way)) ≡ false →
      runs_at (take (i + 1) lows) ≡ runs_at (take i lows)
  runs-skip i lt off =
      let b = begins g (edges_from way lows) way in
      let off' : b (get_or lows i 0) ≡ false = begins-is g way lows (get_or lows i 0) (low-at lows i lt) ∙ off in
      ap (map (run_from g (edges_from way lows) way))
      (filter_more b lows i 0 lt ∙ ap (λ (xs : List ℕ). filter b (take i lows) ++ xs) (cond-false (b (get_or lows i 0)) (get_or lows i 0 ∷ []) [] off') ∙ append-nil (filter b (take i lows)))

  pub runs-more : (i to : ℕ) → i < length lows → not (nat_le (stride g way) (get_or lows i 0) && is_low lows (get_or lows i 0 - stride g way)) ≡ true →
      to ≡ reach g (edges_from way lows) way (cells_of g) (get_or lows i 0) →
      runs_at (take (i + 1) lows) ≡ runs_at (take i lows) ++ record { from = get_or lows i 0; to = to } ∷ []
  runs-more i to lt on ends =
      let b = begins g (edges_from way lows) way in
      let low = get_or lows i 0 in
      let on' : b low ≡ true = begins-is g way lows low (low-at lows i lt) ∙ on in
      let one : ℕ → List Run = λ n. runs_at (take i lows) ++ record { from = low; to = n } ∷ [] in
      ap (map (run_from g (edges_from way lows) way))
      (filter_more b lows i 0 lt ∙ ap (λ (xs : List ℕ). filter b (take i lows) ++ xs) (cond-true (b low) (low ∷ []) [] on'))
      ∙ map-append (run_from g (edges_from way lows) way) (filter b (take i lows)) (low ∷ [])
      ∙ ap one (sym ends)

  filter-twice : (b t : ℕ → Bool) (xs : List ℕ) → ((x : ℕ) → b x ≡ true → t x ≡ true) → filter b (filter t xs) ≡ filter b xs
  filter-twice b t [] implies = refl
  filter-twice b t (x ∷ xs) implies =
      elim (cases_Bool (t x)) [
        | inl on ↦ rw on (ap (λ (ys : List ℕ). cond (b x) (x ∷ ys) ys) (filter-twice b t xs implies))
        | inr off ↦
            let no_b : b x ≡ false = false_from_ne_true (b x) (λ h. false≢true (sym off ∙ implies x h)) in
            rw (off, no_b) (filter-twice b t xs implies)
      ]

  pub runs-all : runs_at lows ≡ runs_of_way g (edges_from way lows) way
  runs-all =
      let b = begins g (edges_from way lows) way in
      let t : ℕ → Bool = λ cell. edges_from way lows (edge_at cell way) in
      let F : List ℕ → List Run = λ xs. map (run_from g (edges_from way lows) way) xs in
      ap (λ (xs : List ℕ). F (filter b xs)) are.all
      ∙ ap F (filter-twice b t (range_with_len 0 (cells_of g)) (λ x h. (and_parts (t x) (not (arrives g (edges_from way lows) way x)) h).0))

-- ---- the low ends of a set

range-rises : (a n : ℕ) → IsStrictlyIncreasing (range_with_len a n)
range-rises a n = λ k lt.
    let size = length-range_with_len a n in
    let here = get_or-range_with_len a n k 0 (omega arith) in
    let next = get_or-range_with_len a n (k + 1) 0 (omega arith) in
    omega arith

pub lows-rise : (cells : ℕ) (set : Edges) (way : Way) → IsStrictlyIncreasing (lows_below cells set way)
lows-rise cells set way = IsStrictlyIncreasing-filter (λ cell. set (edge_at cell way)) (range_with_len 0 cells) (range-rises 0 cells)

not-among : (t : ℕ → Bool) (a n cell : ℕ) → cell < a → is_low (filter t (range_with_len a n)) cell ≡ false
not-among t a zero cell below = refl
not-among t a (suc n) cell below =
    let test : (cell == a) ≡ false = grind (arith, nat_tests) in
    let rest = not-among t (a + 1) n cell (omega arith) in
    elim (cases_Bool (t a)) [
      | inl on ↦ rw (on, test) rest
      | inr off ↦ rw off rest
    ]

among-range : (t : ℕ → Bool) (a n cell : ℕ) → a ≤ cell → cell < a + n → is_low (filter t (range_with_len a n)) cell ≡ t cell
among-range t a zero cell low high = absurd (omega arith)
among-range t a (suc n) cell low high =
    elim (cases_eq cell a) [
      | inl here ↦
          let test : (cell == a) ≡ true = grind (arith, nat_tests) in
          elim (cases_Bool (t a)) [
            | inl on ↦ rw on (or_left (cell == a) (is_low (filter t (range_with_len (a + 1) n)) cell) test ∙ sym (ap t here ∙ on))
            | inr off ↦ rw off (not-among t (a + 1) n cell (omega arith) ∙ sym (ap t here ∙ off))
          ]
      | inr other ↦
          let test : (cell == a) ≡ false = grind (arith, nat_tests) in
          let rest = among-range t (a + 1) n cell (omega arith) (omega arith) in
          elim (cases_Bool (t a)) [
            | inl on ↦ rw (on, test) rest
            | inr off ↦ rw off rest
          ]
    ]

past-range : (t : ℕ → Bool) (a n cell : ℕ) → a + n ≤ cell → is_low (filter t (range_with_len a n)) cell ≡ false
past-range t a zero cell above = refl
past-range t a (suc n) cell above =
    let test : (cell == a) ≡ false = grind (arith, nat_tests) in
    let rest = past-range t (a + 1) n cell (omega arith) in
    elim (cases_Bool (t a)) [
      | inl on ↦ rw (on, test) rest
      | inr off ↦ rw off rest
    ]

-- a cell is among the low ends exactly where the edge that goes this way from it is in the set
pub low-is : (g : Shape) (set : Edges) (within : LieIn g set) (way : Way) (cell : ℕ) → is_low (lows_below (cells_of g) set way) cell ≡ set (edge_at cell way)
low-is g set within way cell =
    elim (cases_lt cell (cells_of g)) [
      | inl lt ↦ among-range (λ c. set (edge_at c way)) 0 (cells_of g) cell (omega arith) (omega arith)
      | inr ge ↦
          let off : set (edge_at cell way) ≡ false = false_from_ne_true (set (edge_at cell way)) (λ on.
          let low = edge-low g (edge_at cell way) (within (edge_at cell way) on) in omega arith) in
          past-range (λ c. set (edge_at c way)) 0 (cells_of g) cell (omega arith) ∙ sym off
    ]

module _ (g : Shape) (set : Edges) (within : LieIn g set) (way : Way) (lows : List ℕ) (is : lows ≡ lows_below (cells_of g) set way) where
  edge-agrees : (cell : ℕ) → edges_from way lows (edge_at cell way) ≡ set (edge_at cell way)
  edge-agrees cell = edge-from way lows cell ∙ ap (λ (xs : List ℕ). is_low xs cell) is ∙ low-is g set within way cell

  pub are-lows : AreLows g way lows
  are-lows =
      let P : List ℕ → Type 0 = λ xs. IsStrictlyIncreasing xs in
      record {
        within = λ e h.
            let parts = and_parts (is_way way e.way) (is_low lows e.low) h in
            let P : Way → Type 0 = λ w. IsTrue (has_edge g (edge_at e.low w)) in
            subst P (is_way-same way e.way parts.0) (within (edge_at e.low way) (sym (edge-agrees e.low) ∙ edge-from way lows e.low ∙ parts.1));
        rising = subst P (sym is) (lows-rise (cells_of g) set way);
        all = is ∙ filter_agree (λ cell. set (edge_at cell way)) (λ cell. edges_from way lows (edge_at cell way)) (λ cell. sym (edge-agrees cell)) (range_with_len 0 (cells_of g));
      }

  reach-agrees : (steps cell : ℕ) → reach g (edges_from way lows) way steps cell ≡ reach g set way steps cell
  reach-agrees zero cell = refl
  reach-agrees (suc steps) cell =
      ap (λ (b : Bool). if b then reach g (edges_from way lows) way steps (cell + stride g way) else cell) (edge-agrees cell)
      ∙ ap (λ (n : ℕ). if set (edge_at cell way) then n else cell) (reach-agrees steps (cell + stride g way))

  begins-agrees : (cell : ℕ) → begins g (edges_from way lows) way cell ≡ begins g set way cell
  begins-agrees cell =
      ap (λ (b : Bool). b && not (arrives g (edges_from way lows) way cell)) (edge-agrees cell)
      ∙ ap (λ (b : Bool). set (edge_at cell way) && not (nat_le (stride g way) cell && b)) (edge-agrees (cell - stride g way))

  map-agrees : (cells : List ℕ) → map (run_from g (edges_from way lows) way) cells ≡ map (run_from g set way) cells
  map-agrees [] = refl
  map-agrees (cell ∷ cells) =
      ap (λ (n : ℕ). let r : List Run = (let x : Run = record { from = cell; to = n } in x) ∷ map (run_from g (edges_from way lows) way) cells in r) (reach-agrees (cells_of g) cell)
      ∙ ap (λ (rest : List Run). run_from g set way cell ∷ rest) (map-agrees cells)

  pub runs-agree : runs_of_way g (edges_from way lows) way ≡ runs_of_way g set way
  runs-agree =
      ap (map (run_from g (edges_from way lows) way)) (filter_agree (begins g (edges_from way lows) way) (begins g set way) begins-agrees (range_with_len 0 (cells_of g)))
      ∙ map-agrees (filter (begins g set way) (range_with_len 0 (cells_of g)))

pub low-ends : (g : Shape) (edges : List Edge) → All (λ e. IsTrue (has_edge g e)) edges → All (λ e. e.low < cells_of g) edges
low-ends g edges all = All-weaker (λ e. IsTrue (has_edge g e)) (λ e. e.low < cells_of g) (λ e h. edge-low g e h) edges all

-- what was gathered is the low ends of the edges that go this way
pub gathered-are : (g : Shape) (edges : List Edge) (way : Way) (found lows : List ℕ) → All (λ e. IsTrue (has_edge g e)) edges →
    ((cells : ℕ) → All (λ e. e.low < cells) edges → found ≡ lows_below cells (set_of edges) way) → lows ≡ found →
    lows ≡ lows_below (cells_of g) (set_of edges) way
gathered-are g edges way found lows edges_in found_is same = same ∙ found_is (cells_of g) (low-ends g edges edges_in)
