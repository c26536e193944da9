use Rattle.std.proofs.Common.{refl, sym, ap, ◌∙◌}
use Rattle.grid_demand.specs.LoadSums.{LoadsView}
use Rattle.grid_demand.specs.LoadsStore.{seen}
use Rattle.grid_demand.proofs.LoadLemmas.{demands-long, capacities-long, most-of, most-design}
use Rattle.grid_demand.proofs.loads.Loads.over_max.Goals as goal

pub most_over-requires : goal.most_over-requires
most_over-requires c =
    capacities-long (seen c.self.inside) c.args.capacity.now c.table.result.now c.table.ensures.tables
    (c.requires ∙ sym (ap (λ (l : LoadsView). l.shape) c.self.view_is)) c.table.ensures.table
    ∙ sym (demands-long (seen c.self.inside) c.self.inside.demands c.self.invariant.loads refl)

pub returns-clause-value : goal.returns-clause-value
returns-clause-value c =
    most-of (seen c.self.inside) c.args.self.now c.args.capacity.now c.self.inside.demands c.table.result.now c.most_over.result
    c.self.invariant.loads c.table.ensures.tables c.self.view_is c.requires refl c.table.ensures.table c.most_over.ensures

pub returns-clause-design : goal.returns-clause-design
returns-clause-design c d is = returns-clause-value c ∙ most-design c.args.self.now c.args.capacity.now d c.requires is
