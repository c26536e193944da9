use Rattle.std.proofs.Common.{sym, ◌∙◌}
use Rattle.round_core.proofs.WorldSpan.{step-kept}
use Rattle.round_core.proofs.world.World.apply.Goals as goal

pub returns-clause-keeps : goal.returns-clause-keeps
returns-clause-keeps c =
    step-kept c.carry_out.result c.args.self.now c.carry_out.new.self c.args.step c.allows.ensures.keeps c.requires (sym c.allows.ensures.allowed ∙ c.if-not-allows.false) c.carry_out.ensures.happens c.carry_out.ensures.same
