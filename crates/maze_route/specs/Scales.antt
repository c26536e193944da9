-- Scales of a window: positions of its columns and rows by which no step costs less than its ends lie apart.
use Rattle.std.specs.Prelude.{◌≡◌, ℕ, ◌+◌, ◌-◌, ◌≤◌, length, Option, Some}
use Rattle.gr_base.specs.declared.grid.Edge.{Edge}
use Rattle.gr_base.specs.declared.grid.Shape.{Shape}
use Rattle.gr_base.specs.Grid.{gap, place_at}
use Rattle.maze_route.specs.Positions.{at}
use Rattle.maze_route.specs.Windows.{window_step}
use Rattle.maze_route.specs.declared.scales.Scales.{Scales}
use Rattle.maze_route.specs.declared.window.Window.{Window}

-- how far apart two cells of a window lie, by the positions of their columns and of their rows
abbrev pub apart : Shape → Window → Scales → ℕ → ℕ → ℕ
apart g w s u v =
    gap (at s.columns.items ((place_at g u).x - w.x0)) (at s.columns.items ((place_at g v).x - w.x0))
    + gap (at s.rows.items ((place_at g u).y - w.y0)) (at s.rows.items ((place_at g v).y - w.y0))

-- each column and each row of the window has a position, and no step costs less than its ends lie apart
pub record AreScales (g : Shape) (w : Window) (price : Edge → Option ℕ) (s : Scales) : Type 0 where
  pub columns : w.x0 + length s.columns.items ≡ w.x1 + 1
  pub rows : w.y0 + length s.rows.items ≡ w.y1 + 1
  pub below : (u v cost : ℕ) → window_step g w price u v ≡ Some cost → apart g w s u v ≤ cost
