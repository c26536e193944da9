use Rattle.std.proofs.Common.{ℕ, refl, ap, ◌∙◌}
use Rattle.gr_base.specs.Grid.{cells_of}
use Rattle.gr_base.specs.Sums.{wire_number}
use Rattle.grid_demand.specs.LoadSums.{demand_at}
use Rattle.grid_demand.specs.LoadsStore.{seen}
use Rattle.grid_demand.specs.Planes.{place_of}
use Rattle.grid_demand.proofs.LoadLemmas.{demands-long}
use Rattle.grid_demand.proofs.RunLemmas.{run-inside, run-told, if-run, demands-stand}
use Rattle.grid_demand.proofs.loads.Loads.demand_run.Goals as goal

pub run-requires-clause-inside : goal.run-requires-clause-inside
run-requires-clause-inside c =
    let now = c.args.self.now in
    let list = c.self.inside.demands in
    let cells = cells_of (seen c.self.inside).shape in
    let long = demands-long (seen c.self.inside) c.self.inside.demands c.self.invariant.loads refl in
    let at = c.place-first.ensures ∙ ap (λ (n : ℕ). place_of n (wire_number c.args.from)) (c.len.ensures ∙ long) in
    run-inside now.shape list cells c.place-first.result c.args.count c.args.from (demand_at now) c.requires at (demands-stand (seen c.self.inside) now list c.self.invariant.loads c.self.view_is refl)

pub returns : goal.returns
returns c =
    let now = c.args.self.now in
    let list = c.self.inside.demands in
    let cells = cells_of (seen c.self.inside).shape in
    let long = demands-long (seen c.self.inside) c.self.inside.demands c.self.invariant.loads refl in
    let at = c.place-first.ensures ∙ ap (λ (n : ℕ). place_of n (wire_number c.args.from)) (c.len.ensures ∙ long) in
    if-run c.run.result c.run.ensures
    (λ run is. run-told now.shape list run.now cells c.place-first.result c.args.count c.args.from (demand_at now) c.requires at (demands-stand (seen c.self.inside) now list c.self.invariant.loads c.self.view_is refl) is)
