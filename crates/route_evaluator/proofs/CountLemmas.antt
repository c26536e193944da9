-- Edges of a list of numbers, counted by number and by edge.
use Rattle.std.proofs.Common.{◌≡◌, ℕ, zero, suc, ◌+◌, ◌*◌, ◌/◌, ◌%◌, ◌<◌, ◌≤◌, ◌==◌, ◌||◌, inl, inr, Bool, true, false, cond, List, [], ◌∷◌, map, filter, length, All, count_by, sum_by, IsTrue, refl, sym, ap, subst, ◌∙◌, arith}
use Rattle.std.specs.List.{range_with_len}
use Rattle.std.proofs.lemmas.Bool.{cases_Bool, cases_eq, or_left, or_right, eqb-true, eq-eqb, both_ways}
use Rattle.std.proofs.lemmas.Bool.Decides.{nat_tests}
use Rattle.std.proofs.lemmas.List.Elements.{All-cons, All-head, All-tail, All-weaker}
use Rattle.std.proofs.lemmas.List.Sums.{sum_by-cons}
use Rattle.gr_base.specs.declared.grid.Edge.{Edge}
use Rattle.gr_base.specs.declared.grid.Shape.{Shape}
use Rattle.gr_base.specs.declared.grid.Way.TheVariants.{Up}
use Rattle.gr_base.specs.Grid.{cells_of, edge_at, has_edge, is_wire}
use Rattle.gr_base.specs.Sums.{wire_at, wire_number, wire_edges, via_edges}
use Rattle.gr_base.proofs.GridLemmas.{edge-low}
use Rattle.grid_demand.proofs.WireLemmas.{wire_at-number, number-wire_at, number-below, wire-wire_at}
use Rattle.solution_text.specs.Runs.{LieIn}
use Rattle.route_evaluator.specs.EdgeNumbers.{edge_number, edge_numbered, edges_numbered, is_via_number}
use Rattle.route_evaluator.specs.NumberSets.{has_number}
use Rattle.route_evaluator.proofs.EdgeNumberLemmas.{numbered-number, number-numbered}

-- ---- how often numbers stand in a list

-- how often a number stands in a list
abbrev pub times : List ℕ → ℕ → ℕ
times numbers n = count_by (λ other. n == other) numbers

-- a number that stands at most once stands as often as the list has it
pub times-has : (numbers : List ℕ) (n : ℕ) → times numbers n ≤ 1 → times numbers n ≡ cond (has_number numbers n) 1 0
times-has [] n once = refl
times-has (x ∷ xs) n once =
    let more = sum_by-cons (λ (y : ℕ). cond (n == y) 1 0) x xs in
    more ∙ counted (n == x) (times xs n) (has_number xs n) (omega arith) (times-has xs n (omega arith))
  where
    counted : (b : Bool) (rest : ℕ) (any : Bool) → cond b 1 0 + rest ≤ 1 → rest ≡ cond any 1 0 → cond b 1 0 + rest ≡ cond (b || any) 1 0
    counted true rest any once is = omega arith
    counted false rest any once is = let e : 0 + rest ≡ rest = omega arith in e ∙ is

-- ---- sums over lists of edges

sum-same : {X : Type 0} (f h : X → ℕ) (xs : List X) → ((x : X) → f x ≡ h x) → sum_by f xs ≡ sum_by h xs
sum-same f h [] same = refl
sum-same f h (x ∷ xs) same =
    sum_by-cons f x xs ∙ ap (λ (n : ℕ). n + sum_by f xs) (same x) ∙ ap (λ (n : ℕ). h x + n) (sum-same f h xs same) ∙ sym (sum_by-cons h x xs)

sum-plus : {X : Type 0} (f h : X → ℕ) (xs : List X) → sum_by (λ x. f x + h x) xs ≡ sum_by f xs + sum_by h xs
sum-plus f h [] = refl
sum-plus f h (x ∷ xs) =
    let rest = sum-plus f h xs in
    omega (arith, rest, sum_by-cons (λ y. f y + h y) x xs, sum_by-cons f x xs, sum_by-cons h x xs)

-- in how many of the kept edges that f makes of the numbers from a on the edge with number x is found
abbrev found : (ℕ → Edge) → (Edge → Bool) → ℕ → ℕ → ℕ → ℕ
found f keep x a count = sum_by (λ (e : Edge). cond (edge_number e == x) 1 0) (filter keep (map f (range_with_len a count)))

-- one item more or less counts only if it is kept and is the one
found-next : (f : ℕ → Edge) (keep : Edge → Bool) (x a count one : ℕ) → cond (keep (f a)) (cond (edge_number (f a) == x) 1 0) 0 ≡ one →
    found f keep x a (suc count) ≡ one + found f keep x (a + 1) count
found-next f keep x a count one is =
    let one_if : Edge → ℕ = λ e. cond (edge_number e == x) 1 0 in
    let rest : List Edge = filter keep (map f (range_with_len (a + 1) count)) in
    kept (keep (f a)) (f a) one_if rest ∙ ap (λ (n : ℕ). n + sum_by one_if rest) is
  where
    kept : (b : Bool) (e : Edge) (h : Edge → ℕ) (es : List Edge) → sum_by h (cond b (e ∷ es) es) ≡ cond b (h e) 0 + sum_by h es
    kept true e h es = sum_by-cons h e es
    kept false e h es = omega arith

none-kept : (b : Bool) (test : Bool) → test ≡ false → cond b (cond {A = ℕ} test 1 0) 0 ≡ 0
none-kept true test off = rw off refl
none-kept false test off = refl

found-none : (f : ℕ → Edge) (keep : Edge → Bool) (x a count : ℕ) → ((k : ℕ) → a ≤ k → (edge_number (f k) == x) ≡ false) → found f keep x a count ≡ 0
found-none f keep x a zero other = refl
found-none f keep x a (suc count) other =
    found-next f keep x a count 0 (none-kept (keep (f a)) (edge_number (f a) == x) (other a (omega arith)))
    ∙ ap (λ (n : ℕ). 0 + n) (found-none f keep x (a + 1) count (λ k le. other k (omega arith)))

apart-test : (f : ℕ → Edge) (x at : ℕ) → ((k : ℕ) → edge_number (f k) ≡ x → k ≡ at) → (k : ℕ) → (k ≡ at → ⊥) → (edge_number (f k) == x) ≡ false
apart-test f x at only k other =
    elim (cases_Bool (edge_number (f k) == x)) [
      | inl same ↦ absurd (other (only k (eqb-true (edge_number (f k)) x same)))
      | inr apart ↦ apart
    ]

found-one : (f : ℕ → Edge) (keep : Edge → Bool) (x at a count : ℕ) → a ≤ at → at < a + count → edge_number (f at) ≡ x → keep (f at) ≡ true →
    ((k : ℕ) → edge_number (f k) ≡ x → k ≡ at) → found f keep x a count ≡ 1
found-one f keep x at a zero low high is kept only = absurd (omega arith)
found-one f keep x at a (suc count) low high is kept only =
    elim (cases_eq a at) [
      | inl here ↦
          let test : (edge_number (f a) == x) ≡ true = eq-eqb (edge_number (f a)) x (ap (λ (k : ℕ). edge_number (f k)) here ∙ is) in
          let keeps : keep (f a) ≡ true = ap (λ (k : ℕ). keep (f k)) here ∙ kept in
          found-next f keep x a count 1 (rw (keeps, test) refl)
          ∙ ap (λ (n : ℕ). 1 + n) (found-none f keep x (a + 1) count (λ k le. apart-test f x at only k (λ same. omega arith)))
      | inr later ↦
          found-next f keep x a count 0 (none-kept (keep (f a)) (edge_number (f a) == x) (apart-test f x at only a later))
          ∙ ap (λ (n : ℕ). 0 + n) (found-one f keep x at (a + 1) count (omega arith) (omega arith) is kept only)
    ]

-- ---- the edge with a number is a wire edge or a via edge

pub numbered-up : (x : ℕ) → is_via_number x ≡ true → edge_numbered x ≡ edge_at (x / 3) Up
numbered-up x via =
    let two : x % 3 ≡ 2 = eqb-true (x % 3) 2 via in
    let none : (x % 3 == 0) ≡ false = grind (arith, nat_tests) in
    let other : (x % 3 == 1) ≡ false = grind (arith, nat_tests) in
    rw (none, other) refl

pub numbered-wire : (x : ℕ) → is_via_number x ≡ false → is_wire (edge_numbered x) ≡ true
numbered-wire x via =
    elim (cases_eq (x % 3) 0) [
      | inl east ↦ let test : (x % 3 == 0) ≡ true = eq-eqb (x % 3) 0 east in rw test refl
      | inr other ↦ elim (cases_eq (x % 3) 1) [
        | inl north ↦
            let none : (x % 3 == 0) ≡ false = grind (arith, nat_tests) in
            let test : (x % 3 == 1) ≡ true = eq-eqb (x % 3) 1 north in
            rw (none, test) refl
        | inr third ↦
            let two : (x % 3 == 2) ≡ true = grind (arith, nat_tests) in
            absurd (both_ways (x % 3 == 2) via two)
      ]
    ]

-- an edge of the grid is once among its wire edges or once among its via edges
wire-once : (g : Shape) (x : ℕ) → IsTrue (has_edge g (edge_numbered x)) →
    sum_by (λ (e : Edge). cond (edge_number e == x) 1 0) (wire_edges g) ≡ cond (is_via_number x) 0 1
wire-once g x edge =
    elim (cases_Bool (is_via_number x)) [
      | inl via ↦ rw via (found-none wire_at (has_edge g) x 0 (2 * cells_of g) (λ k le. elim (cases_Bool (edge_number (wire_at k) == x)) [
        | inl same ↦
            let is : wire_at k ≡ edge_at (x / 3) Up =
            sym (numbered-number (wire_at k)) ∙ ap edge_numbered (eqb-true (edge_number (wire_at k)) x same) ∙ numbered-up x via in
            absurd (both_ways false refl (subst (λ (e : Edge). IsTrue (is_wire e)) is (wire-wire_at k)))
        | inr other ↦ other
      ]))
      | inr wire ↦
          let is = numbered-wire x wire in
          let at : ℕ = wire_number (edge_numbered x) in
          let there : wire_at at ≡ edge_numbered x = wire_at-number (edge_numbered x) is in
          let below = number-below g (edge_numbered x) edge in
          rw wire (found-one wire_at (has_edge g) x at 0 (2 * cells_of g) (omega arith) (omega (arith, below)) (ap edge_number there ∙ number-numbered x)
          (ap (has_edge g) there ∙ edge)
          (λ k same. sym (number-wire_at k) ∙ ap wire_number (sym (numbered-number (wire_at k)) ∙ ap edge_numbered same)))
    ]

via-once : (g : Shape) (x : ℕ) → IsTrue (has_edge g (edge_numbered x)) →
    sum_by (λ (e : Edge). cond (edge_number e == x) 1 0) (via_edges g) ≡ cond (is_via_number x) 1 0
via-once g x edge =
    let up : ℕ → Edge = λ cell. edge_at cell Up in
    elim (cases_Bool (is_via_number x)) [
      | inl via ↦
          let is = numbered-up x via in
          let two : x % 3 ≡ 2 = eqb-true (x % 3) 2 via in
          let below = edge-low g (edge_numbered x) edge in
          rw via (found-one up (has_edge g) x (x / 3) 0 (cells_of g) (omega arith) (omega (arith, below)) (omega (arith, two))
          (subst (λ (e : Edge). IsTrue (has_edge g e)) is edge) (λ k same. omega (arith, same, two)))
      | inr wire ↦ rw wire (found-none up (has_edge g) x 0 (cells_of g) (λ k le. elim (cases_Bool (edge_number (up k) == x)) [
        | inl same ↦
            let is : 3 * k + 2 ≡ x = eqb-true (edge_number (up k)) x same in
            let two : (x % 3 == 2) ≡ true = grind (arith, nat_tests) in
            absurd (both_ways (x % 3 == 2) wire two)
        | inr other ↦ other
      ]))
    ]

-- ---- edges of a list of numbers, counted by number and by edge

-- the sum over some edges of how often each stands in a list is the sum over the list of how often each is found among them
by-number : (numbers : List ℕ) (edges : List Edge) →
    sum_by (λ (e : Edge). times numbers (edge_number e)) edges ≡ sum_by (λ (x : ℕ). sum_by (λ (e : Edge). cond (edge_number e == x) 1 0) edges) numbers
by-number [] edges = zeros edges
  where
    zeros : (es : List Edge) → sum_by (λ (e : Edge). times [] (edge_number e)) es ≡ 0
    zeros [] = refl
    zeros (e ∷ es) = let rest = zeros es in omega (arith, rest, sum_by-cons (λ (d : Edge). times [] (edge_number d)) e es)
by-number (x ∷ xs) edges =
    let one : Edge → ℕ = λ e. cond (edge_number e == x) 1 0 in
    sum-same (λ (e : Edge). times (x ∷ xs) (edge_number e)) (λ (e : Edge). one e + times xs (edge_number e)) edges
    (λ e. sum_by-cons (λ (y : ℕ). cond (edge_number e == y) 1 0) x xs)
    ∙ sum-plus one (λ (e : Edge). times xs (edge_number e)) edges
    ∙ ap (λ (n : ℕ). sum_by one edges + n) (by-number xs edges)
    ∙ sym (sum_by-cons (λ (y : ℕ). sum_by (λ (e : Edge). cond (edge_number e == y) 1 0) edges) x xs)

sum-where : (f h : ℕ → ℕ) (xs : List ℕ) → All (λ x. f x ≡ h x) xs → sum_by f xs ≡ sum_by h xs
sum-where f h [] same = refl
sum-where f h (x ∷ xs) same =
    sum_by-cons f x xs ∙ ap (λ (n : ℕ). n + sum_by f xs) (All-head (λ y. f y ≡ h y) x xs same)
    ∙ ap (λ (n : ℕ). h x + n) (sum-where f h xs (All-tail (λ y. f y ≡ h y) x xs same)) ∙ sym (sum_by-cons h x xs)

-- the numbers of a list are those that it has
each-number : (P : ℕ → Type 0) (numbers : List ℕ) → ((n : ℕ) → has_number numbers n ≡ true → P n) → All P numbers
each-number P [] holds = λ k d below. absurd (omega arith)
each-number P (x ∷ xs) holds =
    All-cons P x xs (holds x (or_left (x == x) (has_number xs x) (eq-eqb x x refl)))
    (each-number P xs (λ n has. holds n (or_right (n == x) (has_number xs n) has)))

count-edges : (numbers : List ℕ) (edges : List Edge) (h : ℕ → ℕ) → ((n : ℕ) → times numbers n ≤ 1) →
    All (λ x. sum_by (λ (e : Edge). cond (edge_number e == x) 1 0) edges ≡ h x) numbers → sum_by h numbers ≡ count_by (edges_numbered numbers) edges
count-edges numbers edges h once each =
    sym (sum-same (λ (e : Edge). cond (edges_numbered numbers e) 1 0) (λ (e : Edge). times numbers (edge_number e)) edges
    (λ e. sym (times-has numbers (edge_number e) (once (edge_number e))))
    ∙ by-number numbers edges
    ∙ sum-where (λ (x : ℕ). sum_by (λ (e : Edge). cond (edge_number e == x) 1 0) edges) h numbers each)

pub numbers-inside : (g : Shape) (numbers : List ℕ) → LieIn g (edges_numbered numbers) → All (λ x. IsTrue (has_edge g (edge_numbered x))) numbers
numbers-inside g numbers within =
    each-number (λ x. IsTrue (has_edge g (edge_numbered x))) numbers
    (λ n has. within (edge_numbered n) (ap (has_number numbers) (number-numbered n) ∙ has))

pub vias-count : (g : Shape) (numbers : List ℕ) → LieIn g (edges_numbered numbers) → ((n : ℕ) → times numbers n ≤ 1) →
    count_by is_via_number numbers ≡ count_by (edges_numbered numbers) (via_edges g)
vias-count g numbers within once =
    count-edges numbers (via_edges g) (λ x. cond (is_via_number x) 1 0) once
    (All-weaker (λ x. IsTrue (has_edge g (edge_numbered x))) (λ x. sum_by (λ (e : Edge). cond (edge_number e == x) 1 0) (via_edges g) ≡ cond (is_via_number x) 1 0)
    (λ x edge. via-once g x edge) numbers (numbers-inside g numbers within))

pub wires-count : (g : Shape) (numbers : List ℕ) → LieIn g (edges_numbered numbers) → ((n : ℕ) → times numbers n ≤ 1) →
    length numbers ≡ count_by is_via_number numbers + count_by (edges_numbered numbers) (wire_edges g)
wires-count g numbers within once =
    parted numbers
    ∙ ap (λ (n : ℕ). count_by is_via_number numbers + n)
    (count-edges numbers (wire_edges g) (λ x. cond (is_via_number x) 0 1) once
    (All-weaker (λ x. IsTrue (has_edge g (edge_numbered x))) (λ x. sum_by (λ (e : Edge). cond (edge_number e == x) 1 0) (wire_edges g) ≡ cond (is_via_number x) 0 1)
    (λ x edge. wire-once g x edge) numbers (numbers-inside g numbers within)))
  where
    one : (b : Bool) → 1 ≡ cond {A = ℕ} b 1 0 + cond {A = ℕ} b 0 1
    one true = refl
    one false = refl

    parted : (xs : List ℕ) → length xs ≡ count_by is_via_number xs + sum_by (λ x. cond (is_via_number x) 0 1) xs
    parted [] = refl
    parted (x ∷ xs) =
        let rest = parted xs in
        let first = one (is_via_number x) in
        omega (arith, rest, first, sum_by-cons (λ (y : ℕ). cond (is_via_number y) 1 0) x xs, sum_by-cons (λ (y : ℕ). cond (is_via_number y) 0 1) x xs)
