use Rattle.std.proofs.Common.{◌≡◌, ◌++◌}
use Rattle.report_text.specs.BufferTexts.{net_lines}
use Rattle.report_text.proofs.buffer_text.put_nets.Given as goal

abbrev pub invariant-loop-net : goal.invariant-loop-net
invariant-loop-net l = l.text ≡ l.fn.text ++ net_lines l.design l.library l.routes l.plans 0 l.net
