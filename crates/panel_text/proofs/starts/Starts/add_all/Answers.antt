use Rattle.std.proofs.Common.{◌≡◌, ℕ, ◌<◌, List, take, sym, subst}
use Rattle.solution_text.specs.declared.run.Run.{Run}
use Rattle.panel_text.specs.Chains.{HaveChains, with_runs}
use Rattle.panel_text.proofs.ChainLemmas.{runs-more}
use Rattle.panel_text.proofs.starts.Starts.add_all.Goals as goal

pub loop-run-preserved : goal.loop-run-preserved
loop-run-preserved c =
    let at = c.loop-run.run-index in
    let runs = c.args.runs.now in
    record {
      grid = c.in_ok-add.ensures.grid;
      chains = λ chains before.
          let e : Run = record { from = 0; to = 0 } in
          subst (λ (more : ℕ → List (ℕ × ℕ)). HaveChains more c.add.new.self) (sym (runs-more c.args.net runs at e chains c.loop-run-test.true))
          (c.in_ok-add.ensures.chains (with_runs c.args.net (take at runs) chains) (c.loop-run.invariant.chains chains before));
    }
