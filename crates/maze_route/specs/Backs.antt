-- Steps back along a least walk, by labels.
use Rattle.std.specs.Prelude.{◌≡◌, ℕ, ◌+◌, ◌<◌, ◌≤◌, Bool, false, ◌==◌, List, [], ◌∷◌, map, Option, Some, None, if◌then◌else◌}
use Rattle.gr_base.specs.declared.grid.Edge.{Edge}
use Rattle.gr_base.specs.Trees.{TreeView}
use Rattle.maze_route.specs.Search.{IsConsistent, AreGuided}
use Rattle.maze_route.specs.Steps.{Step, size_of, cell_in, rest_of, pane_graph, steps_from}
use Rattle.maze_route.specs.Walks.{LeadsBack}
use Rattle.maze_route.specs.declared.pane.Aim.{Aim}
use Rattle.maze_route.specs.declared.pane.Pane.{Pane}

-- the label and the cost make up the label that is left
abbrev pub makes_up : Option ℕ → ℕ → ℕ → Bool
makes_up None cost left = false
makes_up (Some label) cost left = label + cost == left

abbrev pub closer_of : (ℕ → Option ℕ) → ℕ → Option Step → Option Step
closer_of label left None = None
closer_of label left (Some step) = if makes_up (label step.cell) step.cost left then Some step else None

-- the first of two steps that is there
abbrev pub either_of : Option Step → Option Step → Option Step
either_of None second = second
either_of (Some step) second = Some step

abbrev pub first_some : List (Option Step) → Option Step
first_some [] = None
first_some (step ∷ steps) = either_of step (first_some steps)

-- the first step back, by rising number of the neighbour
abbrev pub first_closer : Pane → (Edge → Option ℕ) → Aim → (ℕ → Option ℕ) → ℕ → ℕ → Option Step
first_closer p price aim label cell left = first_some (map (closer_of label left) (steps_from p price aim cell))

-- a cell whose label is within the bound of the search
pub record IsNear (p : Pane) (t : TreeView) (price : Edge → Option ℕ) (label : ℕ → Option ℕ) (cell left : ℕ) : Type 0 where
  pub aim : Aim
  pub inside : cell < size_of p
  pub labelled : label cell ≡ Some left
  pub bound : ℕ
  pub consistent : IsConsistent (pane_graph p t price) (rest_of p aim)
  pub guided : AreGuided (pane_graph p t price) (rest_of p aim) label bound
  pub near : left + rest_of p aim cell ≤ bound

-- the cells of a walk back from this cell, by numbers in the window
pub record IsWalkBack (p : Pane) (t : TreeView) (price : Edge → Option ℕ) (cell : ℕ) (cells : List ℕ) : Type 0 where
  pub locals : List ℕ
  pub are : cells ≡ map (cell_in p) locals
  pub rest : List ℕ
  pub begins : locals ≡ cell ∷ rest
  pub leads : LeadsBack (pane_graph p t price) locals
