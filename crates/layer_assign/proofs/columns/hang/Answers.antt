use Rattle.layer_assign.proofs.ColumnLemmas.{on_ok, early-held, walk-one, hung}
use Rattle.layer_assign.proofs.columns.hang.Goals as goal

pub hang-requires-clause-walk : goal.hang-requires-clause-walk
hang-requires-clause-walk c =
    let held = early-held c.args.tree.now c.args.on c.args.end c.last_node_at-parent.ensures.tree c.requires.on in
    walk-one c.args.tree.now c.args.cell c.args.on c.requires.inside c.requires.outside held c.requires.near

pub returns-clause-grows : goal.returns-clause-grows
returns-clause-grows c =
    let held = early-held c.args.tree.now c.args.on c.args.end c.last_node_at-parent.ensures.tree c.requires.on in
    on_ok c.hang.result _ _ _ c.hang.ensures.cells c.hang.ensures.edges
    (λ cells edges. hung c.args.tree.now c.hang.new.self c.args.cell c.args.on held c.hang.ensures.begins cells edges)
