-- The wire edges at the places of tables in planes.
use Rattle.std.proofs.Common.{◌≡◌, ℕ, ◌+◌, ◌-◌, ◌*◌, ◌/◌, ◌<◌, ◌≤◌, inl, inr, true, false, nat_lt, IsTrue, refl, sym, ap, subst, ◌∙◌, arith}
use Rattle.std.proofs.lemmas.Bool.{cases_Bool}
use Rattle.std.proofs.lemmas.Bool.Decides.{nat_tests}
use Rattle.gr_base.specs.Grid.{edge_at, is_wire}
use Rattle.gr_base.specs.Sums.{wire_at, wire_number}
use Rattle.gr_base.specs.declared.grid.Edge.{Edge}
use Rattle.gr_base.specs.declared.grid.Way.TheVariants.{East, North}
use Rattle.grid_demand.proofs.PlaneLemmas.{place-east, place-north}
use Rattle.grid_demand.proofs.WireLemmas.{halves, wire_at-east, wire_at-north}
use Rattle.grid_demand.specs.Planes.{place_of, edge_placed}

-- the edges at the first half of the places, and at the second
pub placed-first : (cells low : ℕ) → low < cells → edge_placed (2 * cells) low ≡ edge_at low East
placed-first cells low below =
    let first : nat_lt low (2 * cells / 2) ≡ true = grind (arith, nat_tests) in
    rw first refl

pub placed-second : (cells low : ℕ) → edge_placed (2 * cells) (cells + low) ≡ edge_at low North
placed-second cells low =
    let half : 2 * cells / 2 ≡ cells = omega arith in
    let second : nat_lt (cells + low) cells ≡ false = grind (arith, nat_tests) in
    let rest : cells + low - cells ≡ low = omega arith in
    rw (half, second, rest) refl

-- a place is one or the other
pub record IsPlaced (cells place : ℕ) (e : Edge) : Type 0 where
  pub number : wire_number e < 2 * cells
  pub low : e.low < cells
  pub wire : IsTrue (is_wire e)
  pub back : place_of (2 * cells) (wire_number e) ≡ place

pub is-placed : (cells place : ℕ) → place < 2 * cells → IsPlaced cells place (edge_placed (2 * cells) place)
is-placed cells place below =
    elim (cases_Bool (nat_lt place cells)) [
      | inl first ↦
          let inside : place < cells = grind (arith, nat_tests) in
          subst (λ (e : Edge). IsPlaced cells place e) (sym (placed-first cells place inside))
          (record { number = omega (arith, inside); low = inside; wire = refl; back = ap (place_of (2 * cells)) (omega arith) ∙ place-east cells place })
      | inr second ↦
          let low : ℕ = place - cells in
          let from : cells ≤ place = grind (arith, nat_tests) in
          let whole : cells + low ≡ place = omega (arith, from) in
          let at : edge_placed (2 * cells) place ≡ edge_at low North = ap (edge_placed (2 * cells)) (sym whole) ∙ placed-second cells low in
          subst (λ (e : Edge). IsPlaced cells place e) (sym at)
          (record { number = omega (arith, below, whole); low = omega (arith, below, whole); wire = refl; back = place-north cells low ∙ whole })
    ]

-- the wire edge with a number stands at its place
pub placed-wire : (cells number : ℕ) → number < 2 * cells → edge_placed (2 * cells) (place_of (2 * cells) number) ≡ wire_at number
placed-wire cells number below =
    elim (halves number) [
      | inl even ↦
          let inside : number / 2 < cells = omega (arith, below) in
          ap (λ (n : ℕ). edge_placed (2 * cells) (place_of (2 * cells) n)) even
          ∙ ap (edge_placed (2 * cells)) (place-east cells (number / 2))
          ∙ placed-first cells (number / 2) inside ∙ sym (wire_at-east (number / 2)) ∙ ap wire_at (sym even)
      | inr odd ↦
          ap (λ (n : ℕ). edge_placed (2 * cells) (place_of (2 * cells) n)) odd
          ∙ ap (edge_placed (2 * cells)) (place-north cells (number / 2))
          ∙ placed-second cells (number / 2) ∙ sym (wire_at-north (number / 2)) ∙ ap wire_at (sym odd)
    ]
