use Rattle.std.proofs.Common.{◌≡◌, ◌<◌, sym, subst, ◌∙◌}
use Rattle.run_histories.specs.RunHistories.{IsRunHistory}
use Rattle.round_core.specs.Worlds.{WorldView, phase_at}
use Rattle.round_core.proofs.WorldFields.{phase-read, over-ended}
use Rattle.round_core.proofs.WorldEnds.{ended-run}
use Rattle.round_core.proofs.world.World.phase.Goals as goal

pub returns-then-self-clause-ended : goal.returns-then-self-clause-ended
returns-then-self-clause-ended c = λ is.
    subst (λ (v : WorldView). IsRunHistory v.setting v.history) c.self.view_is
    (over-ended c.self.inside c.args.worker c.self.invariant c.if-self.true)

pub returns-clause-phase : goal.returns-clause-phase
returns-clause-phase c =
    subst (λ (v : WorldView). c.index.result.now ≡ phase_at v c.args.worker) c.self.view_is
    (phase-read c.self.inside c.args.worker c.index.result.now c.if-self.false
    (subst (λ (v : WorldView). c.args.worker < v.setting.workers) (sym c.self.view_is) c.requires) c.index.ensures)

pub returns-clause-ended : goal.returns-clause-ended
returns-clause-ended c = λ is.
    subst (λ (v : WorldView). IsRunHistory v.setting v.history) c.self.view_is
    (ended-run _ c.args.worker c.self.invariant.world
    (sym (phase-read c.self.inside c.args.worker c.index.result.now c.if-self.false
    (subst (λ (v : WorldView). c.args.worker < v.setting.workers) (sym c.self.view_is) c.requires) c.index.ensures) ∙ is))
