use Rattle.std.proofs.Common.{◌≡◌, ◌++◌}
use Rattle.design_maker.proofs.TextLemmas.{pins_before, pins_text}
use Rattle.design_maker.proofs.nets.put_pins.Given as goal

abbrev pub invariant-loop : goal.invariant-loop
invariant-loop l = record {
  text : l.text ≡ l.fn.text ++ pins_text l.made l.start l.fn.draws.state l.counter;
  draws : l.draws.state ≡ (pins_before l.made l.start l.fn.draws.state l.counter).1;
}
