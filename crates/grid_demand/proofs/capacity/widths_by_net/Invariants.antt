use Rattle.std.proofs.Common.{◌≡◌, map, take}
use Rattle.gr_base.specs.declared.frame.Net.{Net}
use Rattle.grid_demand.proofs.capacity.widths_by_net.Given as goal

abbrev pub invariant-loop-net : goal.invariant-loop-net
invariant-loop-net l = l.widths.items ≡ map (λ (net : Net). net.width) (take l.net l.design.nets)
