use Rattle.std.proofs.Common.{◌≡◌}
use Rattle.design_maker.specs.Texts.{written_middles}
use Rattle.design_maker.proofs.middles.write_middles.Given as goal

abbrev pub invariant-loop-tile : goal.invariant-loop-tile
invariant-loop-tile l = l.middles.items ≡ written_middles l.tile
