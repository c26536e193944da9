use Rattle.grid_demand.proofs.RunLemmas.{part-is}
use Rattle.grid_demand.proofs.capacity.part.Goals as goal

pub returns : goal.returns
returns c = part-is c.args.capacities.now c.args.from c.args.to c.requires.range c.requires.inside
