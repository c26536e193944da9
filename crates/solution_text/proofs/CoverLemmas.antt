-- The edges that the maximal runs of a set cover are the set.
use Rattle.std.proofs.Common.{◌≡◌, ℕ, zero, suc, ◌+◌, ◌-◌, ◌*◌, ◌<◌, ◌≤◌, inl, inr, Bool, true, false, ◌&&◌, ◌||◌, List, [], ◌∷◌, ◌++◌, map, refl, sym, ap, subst, ◌∙◌, arith}
use Rattle.std.specs.List.{list_any, filter, range_with_len}
use Rattle.std.proofs.lemmas.Bool.{cases_lt, cases_eq, cases_Bool, and_parts, and_from, or_left, or_right, or_cases, false≢true}
use Rattle.std.proofs.lemmas.Bool.Decides.{nat_tests}
use Rattle.gr_base.specs.declared.grid.Cell.{Cell}
use Rattle.gr_base.specs.declared.grid.Edge.{Edge}
use Rattle.gr_base.specs.declared.grid.Shape.{Shape}
use Rattle.gr_base.specs.declared.grid.Way.{Way}
use Rattle.gr_base.specs.declared.grid.Way.TheVariants.{East, North, Up}
use Rattle.gr_base.specs.Grid.{cells_of, number_of, place_at, edge_at, stride, high_of, beyond, has_edge}
use Rattle.gr_base.specs.EdgeSets.{Edges}
use Rattle.gr_base.proofs.GridLemmas.{number-place, same_cell, edge-low, place-high}
use Rattle.solution_text.specs.declared.run.Run.{Run}
use Rattle.solution_text.specs.Runs.{LieIn, begins, run_from, runs_of_way, runs_of}
use Rattle.solution_text.specs.Covers.{is_between, is_amid, is_on, covers}
use Rattle.solution_text.proofs.RunLemmas.{moved, number-moved, IsTrail, trail-place, trail-below, reach-is, start}

-- ---- cells on a straight run

between-from : (a k n : ℕ) → a ≤ n → n ≤ a + k → is_between a (a + k) n ≡ true
between-from a k n low high = grind (arith, nat_tests)

between-same : (a : ℕ) → is_between a a a ≡ true
between-same a = grind (arith, nat_tests)

between-parts : (a k n : ℕ) → is_between a (a + k) n ≡ true → (a ≤ n) × (n ≤ a + k)
between-parts a k n h = grind (arith, nat_tests)

between-one : (a n : ℕ) → is_between a a n ≡ true → n ≡ a
between-one a n h = grind (arith, nat_tests)

three : (x y z : Bool) → x ≡ true → y ≡ true → z ≡ true → (x && y && z) ≡ true
three x y z p q r = and_from (x && y) z (and_from x y p q) r

-- the three parts of a test of three
record Three (x y z : Bool) : Type 0 where
  first : x ≡ true
  second : y ≡ true
  third : z ≡ true

three-parts : (x y z : Bool) → (x && y && z) ≡ true → Three x y z
three-parts x y z h =
    let outer = and_parts (x && y) z h in
    let inner = and_parts x y outer.0 in
    record { first = inner.0; second = inner.1; third = outer.1 }

amid-moved : (p : Cell) (way : Way) (i m : ℕ) → i ≤ m → is_amid p (moved p way m) (moved p way i) ≡ true
amid-moved p East i m within =
    three (is_between p.x (p.x + m) (p.x + i)) (is_between p.y p.y p.y) (is_between p.layer p.layer p.layer)
    (between-from p.x m (p.x + i) (omega arith) (omega arith)) (between-same p.y) (between-same p.layer)
amid-moved p North i m within =
    three (is_between p.x p.x p.x) (is_between p.y (p.y + m) (p.y + i)) (is_between p.layer p.layer p.layer)
    (between-same p.x) (between-from p.y m (p.y + i) (omega arith) (omega arith)) (between-same p.layer)
amid-moved p Up i m within =
    three (is_between p.x p.x p.x) (is_between p.y p.y p.y) (is_between p.layer (p.layer + m) (p.layer + i))
    (between-same p.x) (between-same p.y) (between-from p.layer m (p.layer + i) (omega arith) (omega arith))

-- a cell between two is some steps from the first
record Amid (p : Cell) (way : Way) (m : ℕ) (cell : Cell) : Type 0 where
  steps : ℕ
  most : steps ≤ m
  is : cell ≡ moved p way steps

amid-is : (p : Cell) (way : Way) (m : ℕ) (cell : Cell) → is_amid p (moved p way m) cell ≡ true → Amid p way m cell
amid-is p East m cell h =
    let t = three-parts (is_between p.x (p.x + m) cell.x) (is_between p.y p.y cell.y) (is_between p.layer p.layer cell.layer) h in
    let b = between-parts p.x m cell.x t.first in
    record {
      steps = cell.x - p.x;
      most = omega arith;
      is = same_cell cell (moved p East (cell.x - p.x)) (omega arith) (between-one p.y cell.y t.second) (between-one p.layer cell.layer t.third);
    }
amid-is p North m cell h =
    let t = three-parts (is_between p.x p.x cell.x) (is_between p.y (p.y + m) cell.y) (is_between p.layer p.layer cell.layer) h in
    let b = between-parts p.y m cell.y t.second in
    record {
      steps = cell.y - p.y;
      most = omega arith;
      is = same_cell cell (moved p North (cell.y - p.y)) (between-one p.x cell.x t.first) (omega arith) (between-one p.layer cell.layer t.third);
    }
amid-is p Up m cell h =
    let t = three-parts (is_between p.x p.x cell.x) (is_between p.y p.y cell.y) (is_between p.layer (p.layer + m) cell.layer) h in
    let b = between-parts p.layer m cell.layer t.third in
    record {
      steps = cell.layer - p.layer;
      most = omega arith;
      is = same_cell cell (moved p Up (cell.layer - p.layer)) (between-one p.x cell.x t.first) (between-one p.y cell.y t.second) (omega arith);
    }

-- one step between two cells of a straight line goes the line's way
step-way : (p : Cell) (way other : Way) (i j : ℕ) → moved p way j ≡ beyond (moved p way i) other → (other ≡ way) × (j ≡ i + 1)
step-way p East East i j e = let x : p.x + j ≡ p.x + i + 1 = ap (λ (c : Cell). c.x) e in (refl, omega arith)
step-way p East North i j e = let y : p.y ≡ p.y + 1 = ap (λ (c : Cell). c.y) e in absurd (omega arith)
step-way p East Up i j e = let z : p.layer ≡ p.layer + 1 = ap (λ (c : Cell). c.layer) e in absurd (omega arith)
step-way p North East i j e = let x : p.x ≡ p.x + 1 = ap (λ (c : Cell). c.x) e in absurd (omega arith)
step-way p North North i j e = let y : p.y + j ≡ p.y + i + 1 = ap (λ (c : Cell). c.y) e in (refl, omega arith)
step-way p North Up i j e = let z : p.layer ≡ p.layer + 1 = ap (λ (c : Cell). c.layer) e in absurd (omega arith)
step-way p Up East i j e = let x : p.x ≡ p.x + 1 = ap (λ (c : Cell). c.x) e in absurd (omega arith)
step-way p Up North i j e = let y : p.y ≡ p.y + 1 = ap (λ (c : Cell). c.y) e in absurd (omega arith)
step-way p Up Up i j e = let z : p.layer + j ≡ p.layer + i + 1 = ap (λ (c : Cell). c.layer) e in (refl, omega arith)

-- ---- the edges of a trail are those that its run covers

module _ (g : Shape) (set : Edges) (within : LieIn g set) (way : Way) (cell m : ℕ) (trail : IsTrail g set way cell m) where
  abbrev along : Run
  along = record { from = cell; to = cell + m * stride g way }

  on-along : (i : ℕ) → i ≤ m → is_on g along (cell + i * stride g way) ≡ true
  on-along i most =
      let shorter : IsTrail g set way cell i = λ k lt. trail k (omega arith) in
      let p = place_at g cell in
      let end : place_at g (cell + m * stride g way) ≡ moved p way m = trail-place g set within way cell m trail in
      let here : place_at g (cell + i * stride g way) ≡ moved p way i = trail-place g set within way cell i shorter in
      let by_end : Cell → Bool = λ c. is_amid p c (place_at g (cell + i * stride g way)) in
      let by_here : Cell → Bool = λ c. is_amid p (moved p way m) c in
      ap by_end end ∙ ap by_here here ∙ amid-moved p way i m most

  pub trail-covers : (i : ℕ) → i < m → covers g along (edge_at (cell + i * stride g way) way) ≡ true
  trail-covers i less =
      let e : Edge = edge_at (cell + i * stride g way) way in
      let P : ℕ → Bool = λ c. is_on g along c in
      let high : high_of g e ≡ cell + (i + 1) * stride g way = omega arith in
      three (has_edge g e) (is_on g along e.low) (is_on g along (high_of g e))
      (within e (trail i less)) (on-along i (omega arith)) (ap P high ∙ on-along (i + 1) (omega arith))

  on-is : (c : ℕ) → is_on g along c ≡ true → Amid (place_at g cell) way m (place_at g c)
  on-is c h =
      let p = place_at g cell in
      let end : place_at g (cell + m * stride g way) ≡ moved p way m = trail-place g set within way cell m trail in
      let by_end : Cell → Bool = λ q. is_amid p q (place_at g c) in
      amid-is p way m (place_at g c) (sym (ap by_end end) ∙ h)

  pub covered-in : (e : Edge) → covers g along e ≡ true → set e ≡ true
  covered-in e h =
      let t = three-parts (has_edge g e) (is_on g along e.low) (is_on g along (high_of g e)) h in
      let p = place_at g cell in
      let low = on-is e.low t.second in
      let high = on-is (high_of g e) t.third in
      let next : Cell → Cell = λ c. beyond c e.way in
      let step = step-way p way e.way low.steps high.steps (sym high.is ∙ place-high g e t.first ∙ ap next low.is) in
      let number : Cell → ℕ = λ c. number_of g c in
      let at : e.low ≡ cell + low.steps * stride g way =
      sym (number-place g e.low) ∙ ap number low.is ∙ number-moved g p way low.steps ∙ ap (λ n. n + low.steps * stride g way) (number-place g cell) in
      let by_low : ℕ → Bool = λ n. set (edge_at n e.way) in
      let by_way : Way → Bool = λ w. set (edge_at (cell + low.steps * stride g way) w) in
      ap by_low at ∙ ap by_way step.0 ∙ trail low.steps (let most = high.most in let one = step.1 in omega arith)

-- ---- a list of runs and its tests

-- an element of a range that passes the test is among those that are made of it
pub any-made : (f : ℕ → Run) (test : ℕ → Bool) (asks : Run → Bool) (a n c : ℕ) → a ≤ c → c < a + n → test c ≡ true → asks (f c) ≡ true →
    list_any asks (map f (filter test (range_with_len a n))) ≡ true
any-made f test asks a zero c low high passes asked = absurd (omega arith)
any-made f test asks a (suc n) c low high passes asked =
    elim (cases_eq a c) [
      | inl here ↦
          let T : ℕ → Type 0 = λ k. (test k ≡ true) × (asks (f k) ≡ true) in
          let both = subst T (sym here) (passes, asked) in
          rw (both.0) (or_left (asks (f a)) (list_any asks (map f (filter test (range_with_len (a + 1) n)))) both.1)
      | inr later ↦
          let rest = any-made f test asks (a + 1) n c (omega arith) (omega arith) passes asked in
          elim (cases_Bool (test a)) [
            | inl on ↦ rw on (or_right (asks (f a)) (list_any asks (map f (filter test (range_with_len (a + 1) n)))) rest)
            | inr off ↦ rw off rest
          ]
    ]

-- what an element that is made of a range and passes is made of
pub record Made (f : ℕ → Run) (test : ℕ → Bool) (asks : Run → Bool) (a n : ℕ) : Type 0 where
  at : ℕ
  within : at < a + n
  passes : test at ≡ true
  asked : asks (f at) ≡ true

pub made : (f : ℕ → Run) (test : ℕ → Bool) (asks : Run → Bool) (a n : ℕ) →
    list_any asks (map f (filter test (range_with_len a n))) ≡ true → Made f test asks a n
made f test asks a zero h = absurd (false≢true h)
made f test asks a (suc n) h =
    elim (cases_Bool (test a)) [
      | inl on ↦
          let h' : (asks (f a) || list_any asks (map f (filter test (range_with_len (a + 1) n)))) ≡ true = (sym (rw on refl) ∙ h) in
          elim (or_cases (asks (f a)) (list_any asks (map f (filter test (range_with_len (a + 1) n)))) h') [
            | inl here ↦ record { at = a; within = omega arith; passes = on; asked = here }
            | inr later ↦
                let m = made f test asks (a + 1) n later in
                record { at = m.at; within = let w = m.within in omega arith; passes = m.passes; asked = m.asked }
          ]
      | inr off ↦
          let m = made f test asks (a + 1) n (sym (rw off refl) ∙ h) in
          record { at = m.at; within = let w = m.within in omega arith; passes = m.passes; asked = m.asked }
    ]

pub bool-same : (a b : Bool) → (a ≡ true → b ≡ true) → (b ≡ true → a ≡ true) → a ≡ b
bool-same true b to from = sym (to refl)
bool-same false true to from = from refl
bool-same false false to from = refl

pub any-append : {X : Type 0} (p : X → Bool) (xs ys : List X) → list_any p (xs ++ ys) ≡ (list_any p xs || list_any p ys)
any-append p [] ys = refl
any-append p (x ∷ xs) ys = ap (λ b. p x || b) (any-append p xs ys) ∙ or-assoc (p x) (list_any p xs) (list_any p ys)
  where
    or-assoc : (a b c : Bool) → (a || (b || c)) ≡ ((a || b) || c)
    or-assoc true b c = refl
    or-assoc false b c = refl

-- ---- the runs of a set cover its edges, and no other

module _ (g : Shape) (set : Edges) (within : LieIn g set) (way : Way) where
  pub way-covers : (c : ℕ) → set (edge_at c way) ≡ true → list_any (λ run. covers g run (edge_at c way)) (runs_of_way g set way) ≡ true
  way-covers c here =
      let s = start g set way (c + 1) c (omega arith) here in
      let r = reach-is g set way (cells_of g) s.first in
      let asks : Run → Bool = λ run. covers g run (edge_at c way) in
      let below = trail-below g set within way s.first (s.steps + 1) (omega arith) s.trail in
      let farther : s.steps < r.steps =
      elim (cases_lt s.steps r.steps) [
        | inl lt ↦ lt
        | inr ge ↦ absurd (false≢true (sym (r.ends (omega arith)) ∙ s.trail r.steps (omega arith)))
      ] in
      let by_edge : ℕ → Bool = λ n. covers g (along g set within way s.first r.steps r.trail) (edge_at n way) in
      let covered = ap by_edge (sym s.is) ∙ trail-covers g set within way s.first r.steps r.trail s.steps farther in
      let first_in : s.first < cells_of g =
      let P : ℕ → Type 0 = λ n. n < cells_of g in
      let e = edge-low g (edge_at (s.first + 0 * stride g way) way) (within (edge_at (s.first + 0 * stride g way) way) (s.trail 0 (omega arith))) in
      omega arith in
      any-made (run_from g set way) (begins g set way) asks 0 (cells_of g) s.first (omega arith) (omega arith) s.begins
      (ap asks (ap (λ (n : ℕ). let x : Run = record { from = s.first; to = n } in x) r.is) ∙ covered)

  pub way-within : (e : Edge) → list_any (λ run. covers g run e) (runs_of_way g set way) ≡ true → set e ≡ true
  way-within e h =
      let asks : Run → Bool = λ run. covers g run e in
      let m = made (run_from g set way) (begins g set way) asks 0 (cells_of g) h in
      let r = reach-is g set way (cells_of g) m.at in
      covered-in g set within way m.at r.steps r.trail e
      (sym (ap asks (ap (λ (n : ℕ). let x : Run = record { from = m.at; to = n } in x) r.is)) ∙ m.asked)

module _ (g : Shape) (set : Edges) (within : LieIn g set) where
  abbrev by_way : Edge → Way → Bool
  by_way e way = list_any (λ run. covers g run e) (runs_of_way g set way)

  of-ways : (e : Edge) → list_any (λ run. covers g run e) (runs_of g set) ≡ (by_way e East || by_way e North || by_way e Up)
  of-ways e =
      let asks : Run → Bool = λ run. covers g run e in
      any-append asks (runs_of_way g set East ++ runs_of_way g set North) (runs_of_way g set Up)
      ∙ ap (λ b. b || by_way e Up) (any-append asks (runs_of_way g set East) (runs_of_way g set North))

  one-of : (e : Edge) (way : Way) → by_way e way ≡ true → (by_way e East || by_way e North || by_way e Up) ≡ true
  one-of e East h = or_left (by_way e East || by_way e North) (by_way e Up) (or_left (by_way e East) (by_way e North) h)
  one-of e North h = or_left (by_way e East || by_way e North) (by_way e Up) (or_right (by_way e East) (by_way e North) h)
  one-of e Up h = or_right (by_way e East || by_way e North) (by_way e Up) h

  all-within : (e : Edge) → (by_way e East || by_way e North || by_way e Up) ≡ true → set e ≡ true
  all-within e h =
      elim (or_cases (by_way e East || by_way e North) (by_way e Up) h) [
        | inl wires ↦ elim (or_cases (by_way e East) (by_way e North) wires) [
          | inl east ↦ way-within g set within East e east
          | inr north ↦ way-within g set within North e north
        ]
        | inr up ↦ way-within g set within Up e up
      ]

  -- the maximal runs of a set of edges cover just these edges
  pub runs-cover : (e : Edge) → list_any (λ run. covers g run e) (runs_of g set) ≡ set e
  runs-cover e =
      of-ways e
      ∙ bool-same (by_way e East || by_way e North || by_way e Up) (set e) (all-within e) (λ here. one-of e e.way (way-covers g set within e.way e.low here))
