use Rattle.layer_assign.specs.Tables.{priced}
use Rattle.layer_assign.proofs.ThinLemmas.{Thinning}
use Rattle.layer_assign.proofs.limbs.run_costs.Given as goal

abbrev pub invariant-loop-layer : goal.invariant-loop-layer
invariant-loop-layer g l = Thinning (priced l.shape (g.C.Costs.price l.costs) l.limb) l.thin l.layer l.best
