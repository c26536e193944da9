use Rattle.std.proofs.Common.{refl, sym, ap, ◌∙◌, arith}
use Rattle.std.proofs.lemmas.Bool.Decides.{nat_tests}
use Rattle.grid_demand.specs.LoadSums.{LoadsView}
use Rattle.grid_demand.specs.LoadsStore.{seen}
use Rattle.grid_demand.proofs.LoadLemmas.{demands-long, capacities-long, total-of, total-design}
use Rattle.grid_demand.proofs.loads.Loads.over_total.Goals as goal

pub total_over-requires-clause-capacities : goal.total_over-requires-clause-capacities
total_over-requires-clause-capacities c =
    capacities-long (seen c.self.inside) c.args.capacity.now c.table.result.now c.table.ensures.tables
    (c.requires ∙ sym (ap (λ (l : LoadsView). l.shape) c.self.view_is)) c.table.ensures.table
    ∙ sym (demands-long (seen c.self.inside) c.self.inside.demands c.self.invariant.loads refl)

pub total_over-requires-clause-few : goal.total_over-requires-clause-few
total_over-requires-clause-few c =
    let long = demands-long (seen c.self.inside) c.self.inside.demands c.self.invariant.loads refl in
    let valid = c.self.inside.shape.valid in
    grind (arith, nat_tests, long, valid)

pub returns-clause-value : goal.returns-clause-value
returns-clause-value c =
    total-of (seen c.self.inside) c.args.self.now c.args.capacity.now c.self.inside.demands c.table.result.now c.total_over.result
    c.self.invariant.loads c.table.ensures.tables c.self.view_is c.requires refl c.table.ensures.table c.total_over.ensures

pub returns-clause-design : goal.returns-clause-design
returns-clause-design c d is = returns-clause-value c ∙ total-design c.args.self.now c.args.capacity.now d c.requires is
