use Rattle.std.proofs.Common.{◌+◌, ◌<◌, Some, IfErr, length, sym, subst, ap, ◌∙◌, arith}
use Rattle.std.proofs.lemmas.List.{length-set}
use Rattle.route_reader.specs.Solutions.{edges_by}
use Rattle.text_commands.specs.Buffering.{StopsAtTrees}
use Rattle.command_form.proofs.StopLemmas.{handed-on}
use Rattle.text_commands.proofs.BufferingLemmas.{AreTreesBelow, stops-at, below-next, below-all}
use Rattle.text_commands.proofs.buffering.set_trees_with.Goals as goal

pub returns-in_err-tree-clause-stops : goal.returns-in_err-tree-clause-stops
returns-in_err-tree-clause-stops c =
    let d = c.args.design.now in
    let sets = edges_by c.args.solution.now in
    subst (λ r. IfErr r (StopsAtTrees d sets)) (sym (handed-on c.from_residual.result _ c.from_residual.ensures))
    (stops-at d sets c.loop-net.net _ (sym c.routed.ensures ∙ c.if-not-routed.false) c.loop-net.invariant.trees.have c.in_err-tree.ensures.tree)

pub loop-net-preserved : goal.loop-net-preserved
loop-net-preserved c =
    let d = c.args.design.now in
    let sets = edges_by c.args.solution.now in
    let kept = c.loop-net.invariant in
    let trees = c.loop-net.trees in
    let net = c.loop-net.net in
    let t = c.in_ok-tree.tree in
    let within : net < length trees = omega (arith, kept.long, c.loop-net-test.true, c.nets-net-end.ensures.nets) in
    record {
      long = omega (arith, kept.long, ap length c.set.ensures, length-set trees net (Some t));
      sets = c.in_ok-tree.ensures.sets;
      trees = subst (AreTreesBelow (net + 1) d sets) (sym c.set.ensures) (below-next d sets trees net t within c.in_ok-tree.ensures.tree kept.trees);
    }

pub returns-clause-trees : goal.returns-clause-trees
returns-clause-trees c =
    below-all c.args.design.now (edges_by c.args.solution.now) c.loop-net.trees c.loop-net.net
    (omega (arith, c.loop-net-test.false, c.nets-net-end.ensures.nets)) c.loop-net.invariant.trees
