use Rattle.std.proofs.Common.{◌-◌, length, get_or, sym, ◌∙◌, arith}
use Rattle.std.proofs.lemmas.Option.{slice_get-get_or}
use Rattle.gr_base.proofs.TreeLemmas.{node_with-at}
use Rattle.gr_base.proofs.TreeGrowth.{walk-last}
use Rattle.net_plan.proofs.JoinLemmas.{some-walk, last-inside, begin-indexed}
use Rattle.net_plan.proofs.join.attach.Goals as goal

pub node_at-requires-clause-cell : goal.node_at-requires-clause-cell
node_at-requires-clause-cell c =
    let inside = last-inside c.args.tree.now c.args.walk.now c.len-first.ensures.tree c.requires.walk in
    let long = c.requires.cells in
    omega arith

pub unwrap-parent-requires : goal.unwrap-parent-requires
unwrap-parent-requires c =
    let some = some-walk c.args.tree.now c.args.walk.now c.requires.walk in
    c.node_at.ensures.some.1 (walk-last c.args.tree.now c.args.walk.now c.requires.walk (length c.args.walk.now - 1) 0 (omega arith))

pub hang-requires-clause-parent : goal.hang-requires-clause-parent
hang-requires-clause-parent c =
    let walk = c.args.walk.now in
    let some = some-walk c.args.tree.now walk c.requires.walk in
    let last = get_or walk (length walk - 1) 0 in
    node_with-at c.args.tree.now.nodes last c.unwrap-parent.result (sym c.node_at.ensures.node ∙ c.unwrap-parent.ensures) ∙
    sym (slice_get-get_or walk (length walk - 1) 0 (omega arith))

pub extend-requires-clause-before : goal.extend-requires-clause-before
extend-requires-clause-before c =
    begin-indexed c.args.index.now c.args.tree.now c.hang.new.self c.len-first.result c.len-first.ensures.len c.hang.ensures.begins c.requires.index
