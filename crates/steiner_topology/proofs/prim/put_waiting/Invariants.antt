use Rattle.std.proofs.Common.{◌≡◌, ◌-◌, map}
use Rattle.std.specs.List.{range_with_len}
use Rattle.steiner_topology.specs.Joins.{pair}
use Rattle.steiner_topology.specs.Waits.{waits}
use Rattle.steiner_topology.proofs.prim.put_waiting.Given as goal

abbrev pub invariant-loop-point : goal.invariant-loop-point
invariant-loop-point l = l.waiting.items ≡ map (λ v. waits l.fn.tiles (pair v 0)) (range_with_len 1 (l.point - 1))
