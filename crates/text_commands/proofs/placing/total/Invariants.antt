use Rattle.text_commands.proofs.PlacingLemmas.{AreSummed}
use Rattle.text_commands.proofs.placing.total.Given as goal

abbrev pub invariant-loop-block : goal.invariant-loop-block
invariant-loop-block g l = AreSummed g.P.NetPlanner.rule l.nets.design.now l.nets.library.now l.nets.routes.now l.size l.block-index l.sum
