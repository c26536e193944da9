-- Trees that lie beyond a window.
use Rattle.std.specs.Prelude.{◌≡◌, ℕ, ◌+◌, ◌-◌, false, max, IsTrue}
use Rattle.gr_base.specs.Trees.{TreeView, edges_of}
use Rattle.gr_base.specs.declared.grid.Cell.{Cell}
use Rattle.gr_base.specs.declared.grid.Edge.{Edge}
use Rattle.maze_route.specs.Windows.{in_window}
use Rattle.maze_route.specs.declared.window.Window.{Window}

-- how many columns and rows a place lies outside a window, together
abbrev pub outside : Window → Cell → ℕ
outside w cell = max (w.x0 - cell.x) (cell.x - w.x1) + max (w.y0 - cell.y) (cell.y - w.y1)

-- no edge of the tree begins in the window
abbrev pub BeginsNone : TreeView → Window → Type 0
BeginsNone t w = (e : Edge) → IsTrue (edges_of t e) → in_window t.shape w e.low ≡ false
