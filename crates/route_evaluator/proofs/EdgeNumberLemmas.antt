-- Edges by their numbers.
use Rattle.std.proofs.Common.{◌≡◌, ℕ, ◌+◌, ◌*◌, ◌/◌, ◌%◌, ◌<◌, ◌==◌, ◌||◌, inl, inr, Bool, true, false, List, ◌∷◌, [], ◌++◌, if◌then◌else◌, refl, sym, ap, ◌∙◌, arith}
use Rattle.std.proofs.Math.Bool.{or-true, or-false}
use Rattle.std.proofs.lemmas.Bool.{cases_Bool, cases_eq, eq-eqb, eqb-true, false≢true}
use Rattle.std.proofs.lemmas.Bool.Decides.{nat_tests}
use Rattle.gr_base.proofs.TreeDistinct.{is_edge-same}
use Rattle.gr_base.proofs.TreeEdges.{is_edge-refl}
use Rattle.gr_base.specs.EdgeSets.{is_edge}
use Rattle.gr_base.specs.Grid.{edge_at}
use Rattle.gr_base.specs.declared.grid.Edge.{Edge}
use Rattle.gr_base.specs.declared.grid.Way.{Way}
use Rattle.gr_base.specs.declared.grid.Way.TheVariants.{East, North, Up}
use Rattle.route_evaluator.specs.EdgeNumbers.{edge_number, edge_numbered, edges_numbered}
use Rattle.route_evaluator.specs.NumberSets.{has_number, with_number}
use Rattle.route_evaluator.proofs.NumberLemmas.{has-push}

-- the edges with a cell's numbers
numbered-east : (cell : ℕ) → edge_numbered (3 * cell + 0) ≡ edge_at cell East
numbered-east cell =
    let third : (3 * cell + 0) / 3 ≡ cell = omega arith in
    let rest : ((3 * cell + 0) % 3 == 0) ≡ true = grind (arith, nat_tests) in
    rw (third, rest) refl

numbered-north : (cell : ℕ) → edge_numbered (3 * cell + 1) ≡ edge_at cell North
numbered-north cell =
    let third : (3 * cell + 1) / 3 ≡ cell = omega arith in
    let none : ((3 * cell + 1) % 3 == 0) ≡ false = grind (arith, nat_tests) in
    let rest : ((3 * cell + 1) % 3 == 1) ≡ true = grind (arith, nat_tests) in
    rw (third, none, rest) refl

numbered-up : (cell : ℕ) → edge_numbered (3 * cell + 2) ≡ edge_at cell Up
numbered-up cell =
    let third : (3 * cell + 2) / 3 ≡ cell = omega arith in
    let none : ((3 * cell + 2) % 3 == 0) ≡ false = grind (arith, nat_tests) in
    let other : ((3 * cell + 2) % 3 == 1) ≡ false = grind (arith, nat_tests) in
    rw (third, none, other) refl

numbered-way : (cell : ℕ) (way : Way) → edge_numbered (edge_number (edge_at cell way)) ≡ edge_at cell way
numbered-way cell East = numbered-east cell
numbered-way cell North = numbered-north cell
numbered-way cell Up = numbered-up cell

-- an edge has the number that it is named by
pub numbered-number : (e : Edge) → edge_numbered (edge_number e) ≡ e
numbered-number e = numbered-way e.low e.way

-- each number is an edge's
pub number-numbered : (n : ℕ) → edge_number (edge_numbered n) ≡ n
number-numbered n =
    elim (cases_eq (n % 3) 0) [
      | inl east ↦
          let is : n ≡ 3 * (n / 3) + 0 = omega arith in
          ap (λ (k : ℕ). edge_number (edge_numbered k)) is ∙ ap edge_number (numbered-east (n / 3)) ∙ sym is
      | inr other ↦ elim (cases_eq (n % 3) 1) [
        | inl north ↦
            let is : n ≡ 3 * (n / 3) + 1 = omega arith in
            ap (λ (k : ℕ). edge_number (edge_numbered k)) is ∙ ap edge_number (numbered-north (n / 3)) ∙ sym is
        | inr third ↦
            let is : n ≡ 3 * (n / 3) + 2 = omega arith in
            ap (λ (k : ℕ). edge_number (edge_numbered k)) is ∙ ap edge_number (numbered-up (n / 3)) ∙ sym is
      ]
    ]

-- the test on edges is that on their numbers
pub is_edge-number : (e f : Edge) → (edge_number e == edge_number f) ≡ is_edge e f
is_edge-number e f =
    elim (cases_Bool (is_edge e f)) [
      | inl same ↦ eq-eqb (edge_number e) (edge_number f) (ap edge_number (is_edge-same e f same)) ∙ sym same
      | inr other ↦ elim (cases_Bool (edge_number e == edge_number f)) [
        | inl equal ↦
            let is : e ≡ f = sym (numbered-number e) ∙ ap edge_numbered (eqb-true (edge_number e) (edge_number f) equal) ∙ numbered-number f in
            absurd (false≢true (sym other ∙ ap (λ (x : Edge). is_edge x f) is ∙ is_edge-refl f))
        | inr apart ↦ apart ∙ sym other
      ]
    ]

-- a number that may be one of the list
chosen : (b c : Bool) (numbers : List ℕ) (n m : ℕ) → has_number numbers n ≡ b → (m == n) ≡ c →
    has_number (if b then numbers else numbers ++ n ∷ []) m ≡ (has_number numbers m || c)
chosen false c numbers n m is test = has-push numbers n m ∙ ap (λ (t : Bool). has_number numbers m || t) test
chosen true false numbers n m is test = sym (or-false (has_number numbers m))
chosen true true numbers n m is test =
    let same : m ≡ n = eqb-true m n test in
    ap (has_number numbers) same ∙ is ∙ sym (or-true (has_number numbers m))

pub has-with : (numbers : List ℕ) (n m : ℕ) → has_number (with_number numbers n) m ≡ (has_number numbers m || (m == n))
has-with numbers n m = chosen (has_number numbers n) (m == n) numbers n m refl refl

-- the set with one more edge
pub edges-with : (numbers : List ℕ) (f e : Edge) → edges_numbered (with_number numbers (edge_number f)) e ≡ (edges_numbered numbers e || is_edge e f)
edges-with numbers f e =
    has-with numbers (edge_number f) (edge_number e) ∙ ap (λ (b : Bool). edges_numbered numbers e || b) (is_edge-number e f)

-- the number of an edge from a cell below a bound
pub number-under : (cell cells : ℕ) (way : Way) → cell < cells → edge_number (edge_at cell way) < 3 * cells
number-under cell cells East below = omega arith
number-under cell cells North below = omega arith
number-under cell cells Up below = omega arith
