use Rattle.std.proofs.Common.{ℕ, Option}
use Rattle.gr_base.specs.declared.grid.Edge.{Edge}
use Rattle.maze_route.specs.Fields.{IsTable}
use Rattle.maze_route.specs.Positions.{AreLowered, AreUnder}
use Rattle.maze_route.proofs.PositionLemmas.{IsOnLines}
use Rattle.maze_route.proofs.positions.lower_layer.Given as goal

abbrev pub invariant-loop-line : goal.invariant-loop-line
invariant-loop-line l = record {
  lowered : AreLowered l.fn.numbers l.numbers;
  under : (price : Edge → Option ℕ) → IsTable l.pane price l.way l.prices →
      AreUnder l.pane.grid l.pane.window price l.way (IsOnLines l.pane.window l.way l.layer l.line) l.numbers;
}
