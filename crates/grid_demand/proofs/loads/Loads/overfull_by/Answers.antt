use Rattle.grid_demand.proofs.LoadLemmas.{tables-fit, overfull-whole}
use Rattle.grid_demand.proofs.loads.Loads.overfull_by.Goals as goal

pub calm_runs_by-requires-clause-tables : goal.calm_runs_by-requires-clause-tables
calm_runs_by-requires-clause-tables g c = λ _ _.
    tables-fit c.args.self.now c.args.capacity.now c.demands-demands.result.now c.table-capacities.result.now c.demands-demands.ensures.loads
    c.table-capacities.ensures.tables c.requires.capacity c.demands-demands.ensures.demands c.table-capacities.ensures.table

pub overfull_beside-requires-clause-tables : goal.overfull_beside-requires-clause-tables
overfull_beside-requires-clause-tables g c =
    tables-fit c.args.self.now c.args.capacity.now c.demands-demands.result.now c.table-capacities.result.now c.demands-demands.ensures.loads
    c.table-capacities.ensures.tables c.requires.capacity c.demands-demands.ensures.demands c.table-capacities.ensures.table

pub returns : goal.returns
returns g c =
    overfull-whole c.args.capacity.now c.args.self.now c.demands-demands.result.now c.table-capacities.result.now c.in_ok-over.over
    c.demands-demands.ensures.loads c.table-capacities.ensures.tables c.requires.capacity c.demands-demands.ensures.demands c.table-capacities.ensures.table
    c.in_ok-over.ensures.long c.in_ok-over.ensures.each c.in_ok-over.ensures.total
