-- What is kept of a search for the next walk in the same window.
use Rattle.std.specs.Prelude.{◌≡◌, ℕ, ◌+◌, ◌≤◌, List, map, length, Option, Some, Contains, IsSomeAnd, IsTrue}
use Rattle.std.specs.List.{filter_map}
use Rattle.gr_base.specs.declared.grid.Edge.{Edge}
use Rattle.gr_base.specs.Trees.{TreeView, is_among}
use Rattle.maze_route.specs.Buckets.{pair_in}
use Rattle.maze_route.specs.Fields.{IsPriced}
use Rattle.maze_route.specs.Labels.{label_at}
use Rattle.maze_route.specs.Scales.{AreScales}
use Rattle.maze_route.specs.Search.{IsSearching}
use Rattle.maze_route.specs.Steps.{size_of, pane_graph}
use Rattle.maze_route.specs.Walks.{Graph}
use Rattle.maze_route.specs.declared.front.Frontier.{Frontier}
use Rattle.maze_route.specs.declared.pane.Pane.{Pane}
use Rattle.maze_route.specs.declared.room.MazeRoom.{MazeRoom}
use Rattle.maze_route.specs.declared.slot.Slot.{Slot}
use Rattle.maze_route.specs.declared.window.Window.{Window}

-- the cells of the pairs that wait
abbrev pub cells_of_pairs : List (ℕ × ℕ) → List ℕ
cells_of_pairs pairs = map (λ (pair : ℕ × ℕ). pair.1) pairs

abbrev pub cells_waiting : List Slot → List ℕ
cells_waiting slots = cells_of_pairs (filter_map pair_in slots)

-- these cells wait with their labels and a bound on the rest of the way as keys, and no others
pub record AreWaiting (rest : ℕ → ℕ) (label : ℕ → Option ℕ) (pairs : List (ℕ × ℕ)) (cells : List ℕ) : Type 0 where
  pub all : (cell cost : ℕ) → IsTrue (is_among cells cell) → label cell ≡ Some cost →
      Contains pairs (cost + rest cell, cell)
  pub only : (key cell : ℕ) → Contains pairs (key, cell) → IsSomeAnd (label cell) (λ cost. cost + rest cell ≤ key)

-- labels are costs of walks, and each labelled cell waits or has handed its label on
pub record IsKept (graph : Graph) (nowhere : ℕ) (front : Frontier) : Type 0 where
  pub rest : ℕ → ℕ
  pub searching : IsSearching graph rest (label_at front.labels.costs.items) front.queue.pairs nowhere

-- so it is by some prices
pub record IsResumable (p : Pane) (t : TreeView) (front : Frontier) : Type 0 where
  pub price : Edge → Option ℕ
  pub kept : IsKept (pane_graph p t price) (size_of p) front

-- some cell of these has this label
pub record IsLabelOf (label : ℕ → Option ℕ) (ends : List ℕ) (cost : ℕ) : Type 0 where
  pub cell : ℕ
  pub among : IsTrue (is_among ends cell)
  pub labelled : label cell ≡ Some cost

-- a room in which least walks to a tree in a window can be searched: what it holds of earlier walks stands for this tree
pub record Serves (t : TreeView) (w : Window) (price : Edge → Option ℕ) (room : MazeRoom) : Type 0 where
  pub grid : room.field.pane.grid ≡ t.shape
  pub window : room.field.pane.window ≡ w
  pub priced : IsPriced price room.field
  pub scales : AreScales room.field.pane.grid w price room.scales
  pub size : length room.front.labels.costs.items ≡ size_of room.field.pane
  pub kept : IsKept (pane_graph room.field.pane t price) (size_of room.field.pane) room.front
