use Rattle.std.proofs.Common.{arith}
use Rattle.gr_base.proofs.GridLemmas.{place-high, high-below, edge-high, few_cells}
use Rattle.gr_base.proofs.grid.Shape.high.Goals as goal

pub overflow_add-result : goal.overflow_add-result
overflow_add-result c =
    let below = high-below c.args.self c.args.e c.requires in
    let few = few_cells c.args.self in
    omega (arith, c.stride.ensures)

pub returns-clause-cell : goal.returns-clause-cell
returns-clause-cell c = rw c.stride.ensures (high-below c.args.self c.args.e c.requires)

pub returns-clause-place : goal.returns-clause-place
returns-clause-place c = rw c.stride.ensures (place-high c.args.self c.args.e c.requires)

pub returns-clause-joined : goal.returns-clause-joined
returns-clause-joined c = rw c.stride.ensures (edge-high c.args.self c.args.e c.requires)
