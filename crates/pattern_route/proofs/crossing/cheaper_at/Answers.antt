use Rattle.pattern_route.proofs.ChosenLemmas.{chosen-walk, line-chosen}
use Rattle.pattern_route.proofs.LeastLemmas.{charges, stays-cheaper}
use Rattle.pattern_route.proofs.crossing.cheaper_at.Goals as goal

pub returns-then-best-sweep-clause-walk : goal.returns-then-best-sweep-clause-walk
returns-then-best-sweep-clause-walk g c =
    let shape = c.args.shape in
    let price = g.C.Costs.price c.args.costs.now in
    let least =
    charges shape (g.C.Costs.grid c.args.costs.now) (g.C.Costs.ways c.args.costs.now) price c.requires.grid c.requires.flat (g.met.C.Costs.prices c.args.costs.now) in
    stays-cheaper shape price c.args.sweep c.args.best c.steps_across.result least c.requires.sweep c.requires.best c.steps_across.ensures c.if-best-sweep.true

pub returns-clause-crossing : goal.returns-clause-crossing
returns-clause-crossing g c =
    let chosen =
    chosen-walk c.args.shape (g.C.Costs.price c.args.costs.now) c.args.best c.crossing_at.result c.cheaper_of.result c.requires.best c.crossing_at.ensures.crossing c.cheaper_of.ensures in
    chosen.crossing

pub returns-clause-walk : goal.returns-clause-walk
returns-clause-walk g c =
    let price = g.C.Costs.price c.args.costs.now in
    line-chosen c.args.shape price c.args.sweep c.args.best c.crossing_at.result c.cheaper_of.result c.crossing_at.ensures.span c.crossing_at.ensures.at
    (chosen-walk c.args.shape price c.args.best c.crossing_at.result c.cheaper_of.result c.requires.best c.crossing_at.ensures.crossing c.cheaper_of.ensures)
