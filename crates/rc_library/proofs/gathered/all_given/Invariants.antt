use Rattle.std.proofs.Common.{◌≡◌, ◌++◌, drop, option_map, List}
use Rattle.rc_library.specs.Gathered.{all_given}
use Rattle.rc_library.specs.declared.parts.Wire.{Wire}
use Rattle.rc_library.proofs.gathered.all_given.Given as goal

abbrev pub invariant-loop-wire : goal.invariant-loop-wire
invariant-loop-wire l = option_map (λ (rest : List Wire). l.given.items ++ rest) (all_given (drop l.wire-index l.wires)) ≡ all_given l.wires
