-- Straight lines of cells, and the runs that cover their edges.
use Rattle.std.proofs.Common.{◌≡◌, ℕ, zero, suc, ◌+◌, ◌*◌, ◌<◌, ◌≤◌, inl, inr, min, max, Bool, true, false, ◌&&◌, ◌||◌, ◌==◌, nat_le, if◌then◌else◌, IsTrue, refl, sym, ap, subst, ◌∙◌, arith}
use Rattle.std.proofs.Math.Nat.{le_of_mul-le-mul_right}
use Rattle.std.proofs.lemmas.Bool.{cases_lt, cases_eq, or_cases, or_left, or_right, false≢true}
use Rattle.std.proofs.lemmas.Bool.Decides.{nat_tests}
use Rattle.gr_base.specs.declared.grid.Cell.{Cell}
use Rattle.gr_base.specs.declared.grid.Edge.{Edge}
use Rattle.gr_base.specs.declared.grid.Shape.{Shape}
use Rattle.gr_base.specs.declared.grid.Way.{Way}
use Rattle.gr_base.specs.declared.grid.Way.TheVariants.{East, North, Up}
use Rattle.gr_base.specs.EdgeSets.{Edges, is_edge}
use Rattle.gr_base.specs.Grid.{cells_of, number_of, IsInside, place_at, gap, steps_between, way_between, edge_at, stride, high_of, beyond, has_edge}
use Rattle.gr_base.proofs.GridLemmas.{some_columns, some_rows, number-place, place-inside, same_cell, place-number, number-below, edge-of-beyond}
use Rattle.gr_base.proofs.TreeDistinct.{is_edge-same}
use Rattle.gr_base.proofs.TreeEdges.{is_edge-refl}
use Rattle.solution_text.specs.declared.run.Run.{Run}
use Rattle.solution_text.specs.Covers.{is_between, is_amid, covers}
use Rattle.solution_text.specs.Grammar.{is_straight}
use Rattle.solution_text.specs.Runs.{LieIn}
use Rattle.solution_text.proofs.RunLemmas.{moved, number-moved, beyond-moved, IsTrail}
use Rattle.solution_text.proofs.CoverLemmas.{trail-covers, covered-in, bool-same}
use Rattle.route_reader.specs.Solutions.{IsRun}

-- ---- the second of two places in one line lies that many steps beyond the first

abbrev apart : Cell → Cell → ℕ
apart p q = gap p.x q.x + gap p.y q.y + gap p.layer q.layer

abbrev way_of : Cell → Cell → Way
way_of p q = if p.x == q.x then (if p.y == q.y then Up else North) else East

moved-by : (p q : Cell) (way : Way) → way_of p q ≡ way → q ≡ moved p way (apart p q) → q ≡ moved p (way_of p q) (apart p q)
moved-by p q way is at = subst (λ (w : Way). q ≡ moved p w (apart p q)) (sym is) at

straight-places : (g : Shape) (p q : Cell) → is_straight p q ≡ true → number_of g p ≤ number_of g q → q ≡ moved p (way_of p q) (apart p q)
straight-places g p q straight order =
    let c : ℕ = g.columns in
    let r : ℕ = g.rows in
    let some_c : 0 < c = some_columns g in
    let some_r : 0 < r = some_rows g in
    elim (cases_eq p.x q.x) [
      | inl x ↦
          let test_x : (p.x == q.x) ≡ true = grind (arith, nat_tests) in
          let rows : (p.layer * r + p.y) * c ≤ (q.layer * r + q.y) * c = omega arith in
          let row : p.layer * r + p.y ≤ q.layer * r + q.y = le_of_mul-le-mul_right rows some_c in
          elim (cases_eq p.y q.y) [
            | inl y ↦
                let test_y : (p.y == q.y) ≡ true = grind (arith, nat_tests) in
                let layers : p.layer * r ≤ q.layer * r = omega arith in
                let layer : p.layer ≤ q.layer = le_of_mul-le-mul_right layers some_r in
                moved-by p q Up (rw (test_x, test_y) refl) (same_cell q (moved p Up (apart p q)) (omega arith) (omega arith) (omega arith))
            | inr y ↦
                let test_y : (p.y == q.y) ≡ false = grind (arith, nat_tests) in
                let layer : p.layer ≡ q.layer = grind (arith, nat_tests) in
                let same : p.layer * r ≡ q.layer * r = ap (λ (n : ℕ). n * r) layer in
                moved-by p q North (rw (test_x, test_y) refl) (same_cell q (moved p North (apart p q)) (omega arith) (omega arith) (omega arith))
          ]
      | inr x ↦
          let test_x : (p.x == q.x) ≡ false = grind (arith, nat_tests) in
          let y : p.y ≡ q.y = grind (arith, nat_tests) in
          let layer : p.layer ≡ q.layer = grind (arith, nat_tests) in
          let same : (p.layer * r + p.y) * c ≡ (q.layer * r + q.y) * c = cc in
          moved-by p q East (rw test_x refl) (same_cell q (moved p East (apart p q)) (omega arith) (omega arith) (omega arith))
    ]

-- ---- the places and the edges of a line

moved-inside : (g : Shape) (p : Cell) (way : Way) (k m : ℕ) → k ≤ m → IsInside g p → IsInside g (moved p way m) → IsInside g (moved p way k)
moved-inside g p East k m le first last = record { column = let h = last.column in omega arith; row = first.row; layer = first.layer }
moved-inside g p North k m le first last = record { column = first.column; row = let h = last.row in omega arith; layer = first.layer }
moved-inside g p Up k m le first last = record { column = first.column; row = first.row; layer = let h = last.layer in omega arith }

-- two cells of the grid, of which the second lies so many steps that way from the first
pub record IsLine (g : Shape) (way : Way) (low steps high : ℕ) : Type 0 where
  pub low_in : low < cells_of g
  pub high_in : high < cells_of g
  pub moves : place_at g high ≡ moved (place_at g low) way steps

module _ (g : Shape) (way : Way) (low steps high : ℕ) (line : IsLine g way low steps high) where
  at-inside : (k : ℕ) → k ≤ steps → IsInside g (moved (place_at g low) way k)
  at-inside k le =
      moved-inside g (place_at g low) way k steps le (place-inside g low line.low_in)
      (subst (λ (p : Cell). IsInside g p) line.moves (place-inside g high line.high_in))

  at-number : (k : ℕ) → number_of g (moved (place_at g low) way k) ≡ low + k * stride g way
  at-number k = number-moved g (place_at g low) way k ∙ ap (λ (n : ℕ). n + k * stride g way) (number-place g low)

  at-place : (k : ℕ) → k ≤ steps → place_at g (low + k * stride g way) ≡ moved (place_at g low) way k
  at-place k le = ap (place_at g) (sym (at-number k)) ∙ place-number g (moved (place_at g low) way k) (at-inside k le)

  at-below : (k : ℕ) → k ≤ steps → low + k * stride g way < cells_of g
  at-below k le = subst (λ (n : ℕ). n < cells_of g) (at-number k) (number-below g (moved (place_at g low) way k) (at-inside k le))

  pub line-high : high ≡ low + steps * stride g way
  line-high = sym (number-place g high) ∙ ap (number_of g) line.moves ∙ at-number steps

  pub line-edge : (k : ℕ) → k < steps → IsTrue (has_edge g (edge_at (low + k * stride g way) way))
  line-edge k less =
      (edge-of-beyond g (low + k * stride g way) (low + (k + 1) * stride g way) way (at-below k (omega arith)) (at-below (k + 1) (omega arith))
      (at-place (k + 1) (omega arith) ∙ sym (beyond-moved (place_at g low) way k (k + 1) refl) ∙ ap (λ (p : Cell). beyond p way) (sym (at-place k (omega arith))))).0

-- the first edges from a cell, that way
abbrev pub on_line : Shape → Way → ℕ → ℕ → Edges
on_line g way low zero e = false
on_line g way low (suc k) e = on_line g way low k e || is_edge e (edge_at (low + k * stride g way) way)

record OnLine (g : Shape) (way : Way) (low steps : ℕ) (e : Edge) : Type 0 where
  k : ℕ
  less : k < steps
  is : e ≡ edge_at (low + k * stride g way) way

on-line : (g : Shape) (way : Way) (low steps : ℕ) (e : Edge) → on_line g way low steps e ≡ true → OnLine g way low steps e
on-line g way low zero e on = absurd (false≢true on)
on-line g way low (suc n) e on =
    elim (or_cases (on_line g way low n e) (is_edge e (edge_at (low + n * stride g way) way)) on) [
      | inl before ↦
          let b = on-line g way low n e before in
          record { k = b.k; less = let l = b.less in omega arith; is = b.is }
      | inr last ↦ record { k = n; less = omega arith; is = is_edge-same e (edge_at (low + n * stride g way) way) last }
    ]

line-on : (g : Shape) (way : Way) (low steps k : ℕ) → k < steps → on_line g way low steps (edge_at (low + k * stride g way) way) ≡ true
line-on g way low zero k less = absurd (omega arith)
line-on g way low (suc n) k less =
    elim (cases_eq k n) [
      | inl same ↦
          let e : Edge = edge_at (low + k * stride g way) way in
          or_right (on_line g way low n e) (is_edge e (edge_at (low + n * stride g way) way))
          (ap (λ (j : ℕ). is_edge e (edge_at (low + j * stride g way) way)) (sym same) ∙ is_edge-refl e)
      | inr other ↦
          let e : Edge = edge_at (low + k * stride g way) way in
          or_left (on_line g way low n e) (is_edge e (edge_at (low + n * stride g way) way)) (line-on g way low n k (omega arith))
    ]

-- the edges of a line are those that its run covers
pub line-covers : (g : Shape) (way : Way) (low steps high : ℕ) → IsLine g way low steps high → (e : Edge) →
    covers g (record { from = low; to = high }) e ≡ on_line g way low steps e
line-covers g way low steps high line e =
    let set : Edges = on_line g way low steps in
    let within : LieIn g set = λ f on.
    let at = on-line g way low steps f on in
    subst (λ (x : Edge). IsTrue (has_edge g x)) (sym at.is) (line-edge g way low steps high line at.k at.less) in
    let trail : IsTrail g set way low steps = λ k less. line-on g way low steps k less in
    let end : high ≡ low + steps * stride g way = line-high g way low steps high line in
    let to_end : ℕ → Bool = λ n. covers g (record { from = low; to = n }) e in
    ap to_end end
    ∙ bool-same (to_end (low + steps * stride g way)) (set e) (covered-in g set within way low steps trail e)
    (λ on.
    let at = on-line g way low steps e on in
    let of_run : Edge → Bool = λ f. covers g (record { from = low; to = low + steps * stride g way }) f in
    ap of_run at.is ∙ trail-covers g set within way low steps trail at.k at.less)

-- ---- the run of a net, whichever of its ends is named first

between-swap : (a b n : ℕ) → is_between a b n ≡ is_between b a n
between-swap a b n = swap (nat_le a n && nat_le n b) (nat_le b n && nat_le n a)
  where
    swap : (p q : Bool) → (p || q) ≡ (q || p)
    swap true true = refl
    swap true false = refl
    swap false true = refl
    swap false false = refl

amid-swap : (p q c : Cell) → is_amid p q c ≡ is_amid q p c
amid-swap p q c =
    all (between-swap p.x q.x c.x) (between-swap p.y q.y c.y) (between-swap p.layer q.layer c.layer)
  where
    all : {x y z u v w : Bool} → x ≡ u → y ≡ v → z ≡ w → (x && y && z) ≡ (u && v && w)
    all a b d = cc

pub covers-swap : (g : Shape) (a b : ℕ) (e : Edge) → covers g (record { from = a; to = b }) e ≡ covers g (record { from = b; to = a }) e
covers-swap g a b e =
    let p : Cell = place_at g a in
    let q : Cell = place_at g b in
    ends (has_edge g e) (amid-swap p q (place_at g e.low)) (amid-swap p q (place_at g (high_of g e)))
  where
    ends : (edge : Bool) {x y u v : Bool} → x ≡ u → y ≡ v → (edge && x && y) ≡ (edge && u && v)
    ends edge a b = cc

straight-swap : (p q : Cell) → is_straight p q ≡ true → is_straight q p ≡ true
straight-swap p q straight = grind (arith, nat_tests)

-- two cells in one line, the lower first
pub straight-line : (g : Shape) (a b : ℕ) → a < cells_of g → b < cells_of g → IsTrue (is_straight (place_at g a) (place_at g b)) → a ≤ b →
    IsLine g (way_between g a b) a (steps_between g a b) b
straight-line g a b a_in b_in straight order =
    let e = number-place g a in
    let f = number-place g b in
    record {
      low_in = a_in;
      high_in = b_in;
      moves = straight-places g (place_at g a) (place_at g b) straight (omega arith);
    }

-- a run by its lower end
pub record IsRunLine (g : Shape) (run : Run) : Type 0 where
  pub line : IsLine g (way_between g (min run.from run.to) (max run.from run.to)) (min run.from run.to) (steps_between g (min run.from run.to) (max run.from run.to)) (max run.from run.to)
  pub covers_is : (e : Edge) → covers g run e ≡ covers g (record { from = min run.from run.to; to = max run.from run.to }) e

abbrev LineTo : Shape → ℕ → ℕ → Type 0
LineTo g a b = IsLine g (way_between g a b) a (steps_between g a b) b

pub run-line : (g : Shape) (run : Run) → IsRun g run → IsRunLine g run
run-line g run is =
    elim (cases_lt run.to run.from) [
      | inl less ↦
          let low : min run.from run.to ≡ run.to = omega arith in
          let high : max run.from run.to ≡ run.from = omega arith in
          let straight = straight-line g run.to run.from is.to is.from (straight-swap (place_at g run.from) (place_at g run.to) is.straight) (omega arith) in
          record {
            line = subst (λ (n : ℕ). LineTo g n (max run.from run.to)) (sym low) (subst (λ (n : ℕ). LineTo g run.to n) (sym high) straight);
            covers_is = λ e.
                covers-swap g run.from run.to e
                ∙ ap (λ (n : ℕ). covers g (record { from = n; to = run.from }) e) (sym low)
                ∙ ap (λ (n : ℕ). covers g (record { from = min run.from run.to; to = n }) e) (sym high);
          }
      | inr more ↦
          let low : min run.from run.to ≡ run.from = omega arith in
          let high : max run.from run.to ≡ run.to = omega arith in
          let straight = straight-line g run.from run.to is.from is.to is.straight more in
          record {
            line = subst (λ (n : ℕ). LineTo g n (max run.from run.to)) (sym low) (subst (λ (n : ℕ). LineTo g run.from n) (sym high) straight);
            covers_is = λ e.
                ap (λ (n : ℕ). covers g (record { from = n; to = run.to }) e) (sym low)
                ∙ ap (λ (n : ℕ). covers g (record { from = min run.from run.to; to = n }) e) (sym high);
          }
    ]
