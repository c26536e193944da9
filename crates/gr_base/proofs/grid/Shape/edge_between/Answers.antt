use Rattle.gr_base.proofs.GridLemmas.{edge_of-joins}
use Rattle.gr_base.proofs.grid.Shape.edge_between.Goals as goal

pub returns-clause-joins : goal.returns-clause-joins
returns-clause-joins c = rw c.edge_of_cells.ensures (edge_of-joins c.args.self c.args.a c.args.b c.requires.a c.requires.b)
