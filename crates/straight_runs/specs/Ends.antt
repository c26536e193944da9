-- Runs whose ends are cells of the grid.
use Rattle.std.specs.Prelude.{◌<◌}
use Rattle.gr_base.specs.declared.grid.Shape.{Shape}
use Rattle.gr_base.specs.Grid.{cells_of}
use Rattle.solution_text.specs.declared.run.Run.{Run}

-- the run's ends are cells of the grid
pub record LiesInside (g : Shape) (run : Run) : Type 0 where
  pub from : run.from < cells_of g
  pub to : run.to < cells_of g
