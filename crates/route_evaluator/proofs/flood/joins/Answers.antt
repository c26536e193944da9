use Rattle.std.proofs.Common.{refl}
use Rattle.route_evaluator.specs.EdgeNumbers.{edges_numbered}
use Rattle.route_evaluator.proofs.FloodLemmas.{flood-leads, joined-is}
use Rattle.route_evaluator.proofs.flood.joins.Goals as goal

pub returns-clause-joined : goal.returns-clause-joined
returns-clause-joined c =
    joined-is c.args.shape (edges_numbered c.args.edges.now.numbers) _ c.args.pins.now c.flood.new.reached.cells.numbers c.has_all-joined.result
    c.requires.driver refl
    (flood-leads c.args.shape (edges_numbered c.args.edges.now.numbers) _ c.flood.new.reached.cells.numbers c.flood.new.reached.parents.items c.requires.grid
    c.in_ok-flood.ensures.flood) c.has_all-joined.ensures
