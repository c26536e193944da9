use Rattle.std.proofs.Common.{sym, ◌∙◌}
use Rattle.elmore_delay.specs.Loadings.{rc_of}
use Rattle.buffer_plan.proofs.TimeKnown.{no-pair}
use Rattle.buffer_plan.proofs.lists.of_sinks.Goals as goal

pub returns-in_default : goal.returns-in_default
returns-in_default c = no-pair (rc_of c.args.loading.now) c.args.node (sym c.time.ensures.time ∙ c.in_default.is)
