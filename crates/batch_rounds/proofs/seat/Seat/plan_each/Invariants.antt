use Rattle.std.specs.Prelude.{◌-◌, length}
use Rattle.batch_rounds.proofs.SeatSteps.{ArePlanned}
use Rattle.batch_rounds.proofs.seat.Seat.plan_each.Given as goal

-- the nets before this place are planned
abbrev pub invariant-loop-at : goal.invariant-loop-at
invariant-loop-at g l =
    ArePlanned l.basis.design.now l.basis.rule.now.formula l.basis.round l.basis.loads.now l.nets l.first l.count l.at l.self.plans.items

abbrev pub decreases-loop-at : goal.decreases-loop-at
decreases-loop-at g l = length l.nets - l.at
