-- The run that begins at a cell goes as far as its edges do.
use Rattle.std.proofs.Common.{◌≡◌, ℕ, zero, suc, ◌+◌, ◌-◌, ◌*◌, ◌<◌, ◌≤◌, inl, inr, true, false, not, nat_le, IsTrue, refl, sym, ap, subst, ◌∙◌, arith}
use Rattle.std.proofs.lemmas.Bool.{cases_lt, cases_Bool, and_parts, and_from, not_from_false}
use Rattle.std.proofs.lemmas.Nat.{mul-lt}
use Rattle.std.proofs.lemmas.Bool.Decides.{nat_tests}
use Rattle.gr_base.specs.declared.grid.Cell.{Cell}
use Rattle.gr_base.specs.declared.grid.Shape.{Shape}
use Rattle.gr_base.specs.declared.grid.Way.{Way}
use Rattle.gr_base.specs.declared.grid.Way.TheVariants.{East, North, Up}
use Rattle.gr_base.specs.Grid.{cells_of, number_of, place_at, edge_at, stride, high_of, beyond}
use Rattle.gr_base.specs.EdgeSets.{Edges}
use Rattle.gr_base.proofs.GridLemmas.{some_columns, some_rows, same_cell, place-high, high-below}
use Rattle.solution_text.specs.Runs.{LieIn, arrives, begins, reach}

-- the place some steps farther
abbrev pub moved : Cell → Way → ℕ → Cell
moved cell East steps = record { x = cell.x + steps; y = cell.y; layer = cell.layer }
moved cell North steps = record { x = cell.x; y = cell.y + steps; layer = cell.layer }
moved cell Up steps = record { x = cell.x; y = cell.y; layer = cell.layer + steps }

moved-zero : (cell : Cell) (way : Way) → moved cell way 0 ≡ cell
moved-zero cell East = same_cell (moved cell East 0) cell (omega arith) refl refl
moved-zero cell North = same_cell (moved cell North 0) cell refl (omega arith) refl
moved-zero cell Up = same_cell (moved cell Up 0) cell refl refl (omega arith)

pub beyond-moved : (cell : Cell) (way : Way) (m n : ℕ) → n ≡ m + 1 → beyond (moved cell way m) way ≡ moved cell way n
beyond-moved cell East m n next = same_cell (beyond (moved cell East m) East) (moved cell East n) (omega arith) refl refl
beyond-moved cell North m n next = same_cell (beyond (moved cell North m) North) (moved cell North n) refl (omega arith) refl
beyond-moved cell Up m n next = same_cell (beyond (moved cell Up m) Up) (moved cell Up n) refl refl (omega arith)

pub stride-positive : (g : Shape) (way : Way) → 0 < stride g way
stride-positive g East = omega arith
stride-positive g North = some_columns g
stride-positive g Up = mul-lt 0 0 g.columns g.rows (some_columns g) (some_rows g)

pub number-moved : (g : Shape) (cell : Cell) (way : Way) (m : ℕ) → number_of g (moved cell way m) ≡ number_of g cell + m * stride g way
number-moved g cell East m = omega arith
number-moved g cell North m = omega arith
number-moved g cell Up m = omega arith

-- edges of the set lead from a cell so many steps that way
abbrev pub IsTrail : Shape → Edges → Way → ℕ → ℕ → Type 0
IsTrail g set way cell steps = (i : ℕ) → i < steps → IsTrue (set (edge_at (cell + i * stride g way) way))

module _ (g : Shape) (set : Edges) (within : LieIn g set) (way : Way) where
  -- the place at the end of a trail
  pub trail-place : (cell steps : ℕ) → IsTrail g set way cell steps → place_at g (cell + steps * stride g way) ≡ moved (place_at g cell) way steps
  trail-place cell zero trail =
      let e : cell + 0 * stride g way ≡ cell = omega arith in
      ap (place_at g) e ∙ sym (moved-zero (place_at g cell) way)
  trail-place cell (suc n) trail =
      let before : IsTrail g set way cell n = λ i lt. trail i (omega arith) in
      let edge = within (edge_at (cell + n * stride g way) way) (trail n (omega arith)) in
      let e : cell + suc n * stride g way ≡ high_of g (edge_at (cell + n * stride g way) way) = omega arith in
      let P : Cell → Cell = λ c. beyond c way in
      ap (place_at g) e ∙ place-high g (edge_at (cell + n * stride g way) way) edge ∙ ap P (trail-place cell n before)
      ∙ beyond-moved (place_at g cell) way n (suc n) (omega arith)

  -- a trail is shorter than the grid has cells
  pub trail-short : (cell steps : ℕ) → IsTrail g set way cell steps → steps ≤ cell + steps * stride g way
  trail-short cell zero trail = omega arith
  trail-short cell (suc n) trail =
      let e = trail-short cell n (λ i lt. trail i (omega arith)) in
      let p = stride-positive g way in
      omega arith

  pub trail-below : (cell steps : ℕ) → 0 < steps → IsTrail g set way cell steps → steps < cells_of g
  trail-below cell zero some trail = absurd (omega arith)
  trail-below cell (suc n) some trail =
      let edge = within (edge_at (cell + n * stride g way) way) (trail n (omega arith)) in
      let high = high-below g (edge_at (cell + n * stride g way) way) edge in
      let e = trail-short cell (suc n) trail in
      omega arith

-- the steps that a run takes
pub record Reaches (g : Shape) (set : Edges) (way : Way) (fuel cell : ℕ) : Type 0 where
  pub steps : ℕ
  pub is : reach g set way fuel cell ≡ cell + steps * stride g way
  pub trail : IsTrail g set way cell steps
  pub ends : (steps < fuel) → set (edge_at (cell + steps * stride g way) way) ≡ false
  pub most : steps ≤ fuel

-- a trail from the next cell is one from here
trail-back : (g : Shape) (set : Edges) (way : Way) (cell steps : ℕ) → IsTrue (set (edge_at cell way)) →
    IsTrail g set way (cell + stride g way) steps → IsTrail g set way cell (steps + 1)
trail-back g set way cell steps here trail zero lt =
    let P : ℕ → Type 0 = λ c. IsTrue (set (edge_at c way)) in
    let e : cell ≡ cell + 0 * stride g way = omega arith in
    subst P e here
trail-back g set way cell steps here trail (suc i) lt =
    let P : ℕ → Type 0 = λ c. IsTrue (set (edge_at c way)) in
    let e : cell + stride g way + i * stride g way ≡ cell + suc i * stride g way = omega arith in
    subst P e (trail i (omega arith))

pub reach-is : (g : Shape) (set : Edges) (way : Way) (fuel cell : ℕ) → Reaches g set way fuel cell
reach-is g set way zero cell = record { steps = 0; is = omega arith; trail = λ i lt. absurd (omega arith); ends = λ lt. absurd (omega arith); most = omega arith }
reach-is g set way (suc fuel) cell =
    elim (cases_Bool (set (edge_at cell way))) [
      | inl on ↦
          let rest = reach-is g set way fuel (cell + stride g way) in
          let end : cell + stride g way + rest.steps * stride g way ≡ cell + (rest.steps + 1) * stride g way = omega arith in
          let P : ℕ → Type 0 = λ c. set (edge_at c way) ≡ false in
          record {
            steps = rest.steps + 1;
            is = rw on (rest.is ∙ end);
            trail = trail-back g set way cell rest.steps on rest.trail;
            ends = λ lt. subst P end (rest.ends (omega arith));
            most = let m = rest.most in omega arith;
          }
      | inr nope ↦
          let e : cell ≡ cell + 0 * stride g way = omega arith in
          let P : ℕ → Type 0 = λ c. set (edge_at c way) ≡ false in
          record {
            steps = 0;
            is = rw nope e;
            trail = λ i lt. absurd (omega arith);
            ends = λ lt. subst P e nope;
            most = omega arith;
          }
    ]

-- the run from whose first cell a trail leads over the edge at a cell
pub record Starts (g : Shape) (set : Edges) (way : Way) (cell : ℕ) : Type 0 where
  pub first : ℕ
  pub steps : ℕ
  pub begins : begins g set way first ≡ true
  pub is : first + steps * stride g way ≡ cell
  pub trail : IsTrail g set way first (steps + 1)

starts-on : (g : Shape) (set : Edges) (way : Way) (cell next : ℕ) → next ≡ cell + stride g way → IsTrue (set (edge_at next way)) →
    Starts g set way cell → Starts g set way next
starts-on g set way cell next is on s = record {
  first = s.first;
  steps = s.steps + 1;
  begins = s.begins;
  is = let e = s.is in omega arith;
  trail = λ i lt. elim (cases_lt i (s.steps + 1)) [
    | inl less ↦ s.trail i less
    | inr more ↦
        let P : ℕ → Type 0 = λ c. IsTrue (set (edge_at c way)) in
        let at : i ≡ s.steps + 1 = omega arith in
        let e : next ≡ s.first + (s.steps + 1) * stride g way = let b = s.is in omega arith in
        let Q : ℕ → Type 0 = λ j. IsTrue (set (edge_at (s.first + j * stride g way) way)) in
        subst Q (sym at) (subst P e on)
  ];
}

pub start : (g : Shape) (set : Edges) (way : Way) (fuel cell : ℕ) → cell < fuel → IsTrue (set (edge_at cell way)) → Starts g set way cell
start g set way zero cell below on = absurd (omega arith)
start g set way (suc fuel) cell below on =
    elim (cases_Bool (arrives g set way cell)) [
      | inl more ↦
          let parts = and_parts (nat_le (stride g way) cell) (set (edge_at (cell - stride g way) way)) more in
          let p = stride-positive g way in
          let room : stride g way ≤ cell = let h = parts.0 in grind (arith, nat_tests) in
          starts-on g set way (cell - stride g way) cell (omega arith) on
          (start g set way fuel (cell - stride g way) (omega arith) parts.1)
      | inr first ↦ record {
        first = cell;
        steps = 0;
        begins = and_from (set (edge_at cell way)) (not (arrives g set way cell)) on (not_from_false (arrives g set way cell) first);
        is = omega arith;
        trail = λ i lt.
            let P : ℕ → Type 0 = λ c. IsTrue (set (edge_at c way)) in
            let e : cell ≡ cell + i * stride g way = let z : i ≡ 0 = omega arith in rw z (omega arith) in
            subst P e on;
      }
    ]
