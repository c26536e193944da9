-- The cells of a window as a grid of their own.
use Rattle.std.specs.Prelude.{◌≡◌, ◌+◌, ◌-◌}
use Rattle.gr_base.specs.declared.grid.Cell.{Cell}
use Rattle.gr_base.specs.declared.grid.Shape.{Shape}
use Rattle.maze_route.specs.declared.window.Window.{Window}
use Rattle.maze_route.specs.Windows.{IsWindow}

-- the shape has the window's columns and rows, and the grid's layers
pub record IsPane (g : Shape) (w : Window) (s : Shape) : Type 0 where
  pub window : IsWindow g w
  pub columns : w.x0 + s.columns ≡ w.x1 + 1
  pub rows : w.y0 + s.rows ≡ w.y1 + 1
  pub layers : s.layers ≡ g.layers

-- a place counted from the window's first column and row, and counted from the grid's
abbrev pub out_of : Window → Cell → Cell
out_of w p = record { x = w.x0 + p.x; y = w.y0 + p.y; layer = p.layer }

abbrev pub into : Window → Cell → Cell
into w p = record { x = p.x - w.x0; y = p.y - w.y0; layer = p.layer }
