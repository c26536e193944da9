use Rattle.std.proofs.Common.{take}
use Rattle.kept_routes.specs.Cuts.{AreMarked}
use Rattle.kept_routes.proofs.wanted.mark_pins.Given as goal

abbrev pub invariant-loop-pin : goal.invariant-loop-pin
invariant-loop-pin l = AreMarked l.tree (take l.pin-index l.pins) l.wanted.items
