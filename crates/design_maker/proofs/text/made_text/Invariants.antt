use Rattle.std.proofs.Common.{◌≡◌}
use Rattle.design_maker.proofs.TextLemmas.{nets_before, text_before}
use Rattle.design_maker.proofs.text.made_text.Given as goal

abbrev pub invariant-loop-net : goal.invariant-loop-net
invariant-loop-net l = record {
  text : l.text ≡ text_before l.made l.net;
  draws : l.draws.state ≡ (nets_before l.made l.net).1;
}
