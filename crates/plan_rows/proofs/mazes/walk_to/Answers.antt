use Rattle.std.proofs.Common.{refl}
use Rattle.gr_base.proofs.GridLemmas.{some_layers}
use Rattle.plan_rows.proofs.mazes.walk_to.Goals as goal

pub least_walk-requires-clause-passable : goal.least_walk-requires-clause-passable
least_walk-requires-clause-passable c =
    let some = some_layers c.args.tree.now.shape in
    record {
      east = λ wide. record { layer = 0; inside = some; goes = refl };
      north = λ high. record { layer = 0; inside = some; goes = refl };
    }
