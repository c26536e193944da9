use Rattle.std.proofs.Common.{sym, ◌∙◌}
use Rattle.buffer_plan.proofs.PlansLemmas.{tree-shape}
use Rattle.buffer_plan.proofs.nets.routed_tree.Goals as goal

pub returns-then-routed-clause-shape : goal.returns-then-routed-clause-shape
returns-then-routed-clause-shape c =
    tree-shape c.args.design.now c.args.routes.now c.args.net c.get.result
    (sym c.routed.ensures ∙ c.if-routed.true) c.requires.net c.requires.routes c.get.ensures
