use Rattle.grid_demand.proofs.OperationLemmas.{demand-sums, marks-sums}
use Rattle.grid_demand.proofs.sums.loads_are_sums.Goals as goal

pub returns-clause-demand : goal.returns-clause-demand
returns-clause-demand c = demand-sums

pub returns-clause-marks : goal.returns-clause-marks
returns-clause-marks c = marks-sums
