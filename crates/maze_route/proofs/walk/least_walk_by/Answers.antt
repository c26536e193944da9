use Rattle.std.proofs.Common.{Option, ℕ, subst}
use Rattle.cost_rules.specs.Prices.{ArePrices}
use Rattle.gr_base.specs.declared.grid.Edge.{Edge}
use Rattle.gr_base.specs.declared.grid.Shape.{Shape}
use Rattle.maze_route.proofs.AttachLemmas.{least-attaches-in}
use Rattle.maze_route.proofs.GoalLemmas.{result-then}
use Rattle.maze_route.proofs.KeptLemmas.{ok-both, serves-after}
use Rattle.maze_route.proofs.walk.least_walk_by.Goals as goal

pub returns-clause-attaches : goal.returns-clause-attaches
returns-clause-attaches g c =
    let price : Edge → Option ℕ = g.C.Costs.price c.args.costs.now in
    let P : Shape → Type 0 = λ s. ArePrices s (g.C.Costs.ways c.args.costs.now) price in
    let prices = subst P c.requires.grid (g.met.C.Costs.prices c.args.costs.now) in
    result-then c.walk_in.result _ _ c.walk_in.ensures.walk (λ cells least.
    least-attaches-in c.args.room.now.field.pane c.args.tree.now (g.C.Costs.ways c.args.costs.now) price c.args.goals.now cells c.requires.room.grid prices least)

pub returns-clause-room : goal.returns-clause-room
returns-clause-room g c =
    ok-both c.walk_in.result _ _ _ c.walk_in.ensures.size c.walk_in.ensures.kept (λ size kept.
    serves-after c.args.tree.now c.args.window (g.C.Costs.price c.args.costs.now) c.args.room.now c.walk_in.new.room c.requires.room c.walk_in.ensures.field c.walk_in.ensures.scales size kept)
