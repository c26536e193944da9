use Rattle.std.proofs.Common.{◌≡◌, ℕ, ◌<◌, List, take}
use Rattle.panel_text.specs.Chains.{AreInGrid, HaveChains, with_runs}
use Rattle.panel_text.proofs.starts.Starts.add_all.Given as goal

abbrev pub invariant-loop-run : goal.invariant-loop-run
invariant-loop-run l = record {
  grid : AreInGrid l.shape l.self;
  chains : (chains : ℕ → List (ℕ × ℕ)) → HaveChains chains l.initial.self → HaveChains (with_runs l.net (take l.run-index l.runs) chains) l.self;
}
