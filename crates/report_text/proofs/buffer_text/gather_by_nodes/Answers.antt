use Rattle.std.proofs.Common.{List, [], ◌∷◌, ◌++◌, sym, ap, ◌∙◌}
use Rattle.report_text.specs.declared.buffer_text.Buffered.{Buffered}
use Rattle.report_text.proofs.PlacedLemmas.{before-none, before-some}
use Rattle.report_text.proofs.buffer_text.gather_by_nodes.Goals as goal

pub loop-node-preserved-in_default : goal.loop-node-preserved-in_default
loop-node-preserved-in_default c =
    c.loop-node.invariant ∙ before-none c.args.tree.now c.args.placement.now c.loop-node.node (sym c.at.ensures.placed ∙ c.in_default.is)

pub loop-node-preserved : goal.loop-node-preserved
loop-node-preserved c =
    c.in_ok-push.ensures.items
    ∙ ap (λ (bs : List Buffered). bs ++ record { cell = c.cell.result; kind = c.in-Some.kind } ∷ []) c.loop-node.invariant
    ∙ before-some c.args.tree.now c.args.placement.now c.loop-node.node c.cell.result c.in-Some.kind (sym c.at.ensures.placed ∙ c.in-Some.is) c.cell.ensures.cell
