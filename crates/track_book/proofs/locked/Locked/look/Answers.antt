use Rattle.std.proofs.Common.{◌∙◌}
use Rattle.track_book.proofs.PassSteps.{pass-begins}
use Rattle.track_book.proofs.locked.Locked.look.Goals as goal

pub returns-clause-begins : goal.returns-clause-begins
returns-clause-begins g c = pass-begins _ _ c.pass.inside.seat _ _ _ _ c.pass.view_is c.learn.ensures.begins (c.self.invariant.seen ∙ c.self.view_is)
