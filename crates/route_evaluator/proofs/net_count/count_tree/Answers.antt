use Rattle.route_evaluator.proofs.NetCountLemmas.{tree-count}
use Rattle.route_evaluator.proofs.net_count.count_tree.Goals as goal

pub returns-clause-count : goal.returns-clause-count
returns-clause-count c =
    tree-count c.args.tree.now c.args.pins.now _ c.count_ways-wires.ensures.tree c.count_ways-wires.ensures.wires c.count_ways-wires.ensures.vias c.joins_pins.ensures
