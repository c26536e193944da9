use Rattle.std.proofs.Common.{◌≡◌, ◌+◌, ◌*◌}
use Rattle.gr_base.specs.Grid.{stride}
use Rattle.maze_route.specs.Fields.{IsUnderPrices}
use Rattle.maze_route.specs.Positions.{AreLowered}
use Rattle.maze_route.proofs.positions.lower_line.Given as goal

abbrev pub invariant-loop-place : goal.invariant-loop-place
invariant-loop-place l = record {
  at : l.at ≡ l.fn.first + l.place * stride l.fn.shape l.fn.way;
  lowered : AreLowered l.fn.numbers l.numbers;
  under : IsUnderPrices l.fn.prices l.fn.shape l.fn.way l.fn.first l.place l.numbers;
}
