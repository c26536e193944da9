use Rattle.std.proofs.Common.{sym, subst}
use Rattle.route_reader.specs.Solutions.{edges_by}
use Rattle.text_commands.specs.Buffering.{GiveTrees}
use Rattle.command_form.proofs.StopLemmas.{handed-on}
use Rattle.text_commands.proofs.buffering.solution_trees.Goals as goal

pub returns-in_err-set_trees : goal.returns-in_err-set_trees
returns-in_err-set_trees c =
    subst (GiveTrees c.args.design.now (edges_by c.args.solution.now)) (sym (handed-on c.from_residual.result _ c.from_residual.ensures)) c.in_err-set_trees.ensures.stops
