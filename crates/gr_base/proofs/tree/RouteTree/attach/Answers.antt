use Rattle.std.proofs.Common.{◌-◌, length, get_or, sym, ◌∙◌, arith}
use Rattle.std.proofs.lemmas.Option.{slice_get-get_or}
use Rattle.gr_base.proofs.TreeLemmas.{node_with-at}
use Rattle.gr_base.proofs.TreeGrowth.{some-walk, walk-last}
use Rattle.gr_base.proofs.tree.RouteTree.attach.Goals as goal

pub unwrap-parent-requires : goal.unwrap-parent-requires
unwrap-parent-requires c =
    let some = some-walk c.args.self.now c.args.walk.now c.requires in
    c.node_at.ensures.some.1 (walk-last c.args.self.now c.args.walk.now c.requires (length c.args.walk.now - 1) 0 (omega arith))

pub hang-requires-clause-parent : goal.hang-requires-clause-parent
hang-requires-clause-parent c =
    let walk = c.args.walk.now in
    let some = some-walk c.args.self.now walk c.requires in
    let last = get_or walk (length walk - 1) 0 in
    node_with-at c.args.self.now.nodes last c.unwrap-parent.result (sym c.node_at.ensures.node ∙ c.unwrap-parent.ensures)
    ∙ sym (slice_get-get_or walk (length walk - 1) 0 (omega arith))
