use Rattle.std.proofs.Common.{◌≡◌, ◌++◌}
use Rattle.route_writer.specs.RouteTexts.{nets_text}
use Rattle.route_writer.proofs.nets.put_nets.Given as goal

abbrev pub invariant-loop-net : goal.invariant-loop-net
invariant-loop-net l = l.draft.text ≡ l.fn.draft.text ++ nets_text l.design l.routes l.fn.first l.net
