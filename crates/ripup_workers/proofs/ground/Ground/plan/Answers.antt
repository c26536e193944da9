use Rattle.std.proofs.Common.{sym, subst}
use Rattle.net_plan.specs.Prices.{HasBoundedDemand}
use Rattle.run_histories.proofs.TurnLemmas.{bounded-loads}
use Rattle.ripup_workers.proofs.ground.Ground.plan.Goals as goal

pub plan-requires-clause-demand : goal.plan-requires-clause-demand
plan-requires-clause-demand g c =
    subst HasBoundedDemand (sym c.loads.ensures) (bounded-loads _ _ _ _ c.requires.design.design c.requires.design.capacity_is c.requires.stands.loads)
