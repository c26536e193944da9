use Rattle.std.proofs.Common.{ℕ, ◌+◌, List, length, refl, ap, subst, ◌∙◌, arith}
use Rattle.gr_base.specs.Grid.{cells_of}
use Rattle.gr_base.specs.Sums.{wire_number}
use Rattle.grid_demand.specs.CapacityStore.{seen}
use Rattle.grid_demand.specs.Planes.{place_of}
use Rattle.grid_demand.specs.Runs.{IsPart}
use Rattle.grid_demand.specs.Tables.{capacity_at}
use Rattle.grid_demand.proofs.RunLemmas.{run-inside, run-told, capacities-stand, capacity-long}
use Rattle.grid_demand.proofs.capacity.Capacity.run.Goals as goal

pub part-requires : goal.part-requires
part-requires c =
    let now = c.args.self.now in
    let list = c.self.inside.capacities.items in
    let long = capacity-long (seen c.self.inside) list c.self.invariant.tables refl in
    let stands = capacities-stand (seen c.self.inside) now list c.self.invariant.tables c.self.view_is refl in
    let wires = c.len.ensures in
    let at = c.place-first.ensures ∙ ap (λ (n : ℕ). place_of n (wire_number c.args.from)) (wires ∙ c.self.inside.capacities.ok.0 ∙ long) in
    let inside = run-inside now.shape list (cells_of (seen c.self.inside).shape) c.place-first.result c.args.count c.args.from (capacity_at now) c.requires at stands in
    let whole = ap (λ (xs : List ℕ). length xs) c.deref.ensures.value in
    record { range = omega arith; inside = omega (arith, inside, whole) }

pub returns-clause-run : goal.returns-clause-run
returns-clause-run c =
    let now = c.args.self.now in
    let list = c.self.inside.capacities.items in
    let long = capacity-long (seen c.self.inside) list c.self.invariant.tables refl in
    let stands = capacities-stand (seen c.self.inside) now list c.self.invariant.tables c.self.view_is refl in
    let wires = c.len.ensures in
    let at = c.place-first.ensures ∙ ap (λ (n : ℕ). place_of n (wire_number c.args.from)) (wires ∙ c.self.inside.capacities.ok.0 ∙ long) in
    run-told now.shape list c.part.result.now (cells_of (seen c.self.inside).shape) c.place-first.result c.args.count c.args.from (capacity_at now) c.requires at stands
    (subst (λ (xs : List ℕ). IsPart xs c.place-first.result (c.place-first.result + c.args.count) c.part.result.now) c.deref.ensures.value c.part.ensures)
