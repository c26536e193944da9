use Rattle.std.proofs.Common.{refl, ap, ◌∙◌}
use Rattle.grid_demand.specs.LoadSums.{LoadsView, demand_at}
use Rattle.grid_demand.specs.LoadsStore.{seen}
use Rattle.grid_demand.proofs.LoadLemmas.{demand-place}
use Rattle.grid_demand.proofs.loads.Loads.demand.Goals as goal

pub at-requires : goal.at-requires
at-requires c =
    let here = demand-place (seen c.self.inside) c.args.self.now c.self.inside.demands c.len.result c.args.e c.place.result
    c.self.invariant.loads c.self.view_is refl c.requires.edge c.len.ensures c.place.ensures in
    here.below

pub returns-clause-demand : goal.returns-clause-demand
returns-clause-demand c =
    let here = demand-place (seen c.self.inside) c.args.self.now c.self.inside.demands c.len.result c.args.e c.place.result
    c.self.invariant.loads c.self.view_is refl c.requires.edge c.len.ensures c.place.ensures in
    c.at.ensures.value ∙ here.value ∙ ap (λ (l : LoadsView). demand_at l c.args.e) c.self.view_is
