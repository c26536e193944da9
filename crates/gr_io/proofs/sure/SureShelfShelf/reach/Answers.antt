use Rattle.std.proofs.Common.{arith}
use Rattle.gr_io.proofs.SureLemmas.{AreWithin-set_slot}
use Rattle.gr_io.proofs.sure.SureShelfShelf.reach.Goals as goal

pub invariant_of-self : goal.invariant_of-self
invariant_of-self c =
    AreWithin-set_slot c.self.inside.texts c.self.inside.places c.set.new.self c.args.slot _ c.set.ensures c.self.invariant (omega arith)
