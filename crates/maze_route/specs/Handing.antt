-- What it does to a frontier that a cell hands its label on.
use Rattle.std.specs.Prelude.{◌≡◌, ℕ, ◌+◌, Bool, true, false, ◌&&◌, nat_le, List, [], ◌∷◌, Option, Some, None, slice_set}
use Rattle.gr_base.specs.declared.grid.Edge.{Edge}
use Rattle.maze_route.specs.Labels.{label_at, is_lower}
use Rattle.maze_route.specs.Queues.{IsPushed}
use Rattle.maze_route.specs.Search.{most_distance}
use Rattle.maze_route.specs.declared.front.Frontier.{Frontier}
use Rattle.maze_route.specs.declared.pane.Aim.{Aim}
use Rattle.maze_route.specs.declared.pane.Pane.{Pane}
use Rattle.maze_route.specs.Steps.{Step, steps_from}

-- the step's end has its label lowered to the cost, and waits with the cost and the rest as key
pub record Lowers (cost : ℕ) (step : Step) (before after : Frontier) : Type 0 where
  pub lower : is_lower (label_at before.labels.costs.items step.cell) cost ≡ true
  pub costs : after.labels.costs.items ≡ slice_set before.labels.costs.items step.cell cost
  pub queue : IsPushed (cost + step.rest) step.cell before.queue after.queue

-- the frontier is as it was
pub record Stands (before after : Frontier) : Type 0 where
  pub costs : after.labels.costs.items ≡ before.labels.costs.items
  pub queue : after.queue ≡ before.queue

abbrev pub IsReachIf : Bool → ℕ → Step → Frontier → Frontier → Type 0
IsReachIf true cost step before after = Lowers cost step before after
IsReachIf false cost step before after = Stands before after

-- a cost within the limit lowers a label that is higher
abbrev pub does_lower : ℕ → Step → Frontier → Bool
does_lower cost step before = nat_le cost most_distance && is_lower (label_at before.labels.costs.items step.cell) cost

-- what a step from a cell with this label does
abbrev pub IsReach : ℕ → Option Step → Frontier → Frontier → Type 0
IsReach from None before after = Stands before after
IsReach from (Some step) before after =
    IsReachIf (does_lower (from + step.cost) step before) (from + step.cost) step before after

-- what these steps do one after another
abbrev pub AreReaches : ℕ → List (Option Step) → Frontier → Frontier → Type 0
AreReaches from [] before after = Stands before after
AreReaches from (step ∷ []) before after = IsReach from step before after
AreReaches from (step ∷ next ∷ rest) before after =
    (between : Frontier) × (IsReach from step before between × AreReaches from (next ∷ rest) between after)

-- what the steps from a cell with this label do
abbrev pub HandsOn : Pane → (Edge → Option ℕ) → Aim → ℕ → ℕ → Frontier → Frontier → Type 0
HandsOn p price aim cell from before after = AreReaches from (steps_from p price aim cell) before after
