use Rattle.std.proofs.Common.{◌≡◌, ◌≤◌, ◌*◌, ◌++◌, drop}
use Rattle.maze_route.specs.Positions.{sums_from}
use Rattle.maze_route.proofs.positions.sums.Given as goal

abbrev pub invariant-loop-number : goal.invariant-loop-number
invariant-loop-number l = record {
  so_far : l.sums.items ++ sums_from l.total (drop l.number-index l.numbers) ≡ sums_from 0 l.numbers;
  few : l.total ≤ l.number-index * 1048576;
}
