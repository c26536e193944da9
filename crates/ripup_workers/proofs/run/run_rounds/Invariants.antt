use Rattle.std.specs.Prelude.{◌<◌, ◌≤◌, map, All, IsTrue}
use Rattle.gr_base.specs.Designs.{is_routed}
use Rattle.ripup_workers.specs.Rounding.{setting_of, AreBefore, HaveRun}
use Rattle.ripup_workers.proofs.run.run_rounds.Given as goal

-- the callers stand before this round, whose nets are routed, or after the last one
abbrev pub invariant-loop-round : goal.invariant-loop-round
invariant-loop-round g l = record {
  before : l.round ≤ l.asked.rounds → AreBefore (setting_of l.asked) l.round l.nets.items l.before l.coordinator.pass (map (λ w. w.pass) l.workers.items);
  over : l.asked.rounds < l.round → HaveRun (setting_of l.asked) l.coordinator.pass (map (λ w. w.pass) l.workers.items);
  routed : All (λ net. IsTrue (is_routed l.asked.design.now net)) l.nets.items;
}
