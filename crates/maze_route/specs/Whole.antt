-- The graph of a pane by numbers in the grid.
use Rattle.std.specs.Prelude.{ℕ, Option}
use Rattle.gr_base.specs.declared.grid.Edge.{Edge}
use Rattle.gr_base.specs.Trees.{TreeView, holds}
use Rattle.maze_route.specs.Walks.{Graph}
use Rattle.maze_route.specs.Windows.{window_step}
use Rattle.maze_route.specs.declared.pane.Pane.{Pane}

-- walks in a pane's window from the tree, by numbers in the grid
abbrev pub whole : Pane → TreeView → (Edge → Option ℕ) → Graph
whole p t price = record { source = holds t; step = window_step p.grid p.window price }
