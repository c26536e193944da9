use Rattle.std.proofs.Common.{◌≡◌, map, take}
use Rattle.net_prices.specs.Folds.{folded}
use Rattle.net_prices.proofs.fold.fold_pins.Given as goal

abbrev pub invariant-loop-pin : goal.invariant-loop-pin
invariant-loop-pin l = l.folds.items ≡ map (folded l.fold.flat l.fold.shape) (take l.pin-index l.pins)
