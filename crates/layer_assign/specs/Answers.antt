-- The answer of the assignment: layers that are the first least assignment.
use Rattle.std.specs.Prelude.{◌≡◌, ℕ, Bool, List, length, Option, slice_index}
use Rattle.gr_base.specs.Trees.{TreeView}
use Rattle.gr_base.specs.declared.grid.Edge.{Edge}
use Rattle.gr_base.specs.declared.grid.Shape.{Shape}
use Rattle.gr_base.specs.declared.grid.Way.{Way}
use Rattle.layer_assign.specs.Assignments.{IsAssignment, IsLeast, IsFirst}

-- the layers by the nodes are the first least assignment
pub record IsFirstLeast (g : Shape) (ways : ℕ → Way → Bool) (price : Edge → Option ℕ) (t : TreeView) (pins : List ℕ)
    (layers : List ℕ) : Type 0 where
  pub nodes : length layers ≡ length t.nodes
  pub assignment : IsAssignment g ways t (λ node. slice_index layers node)
  pub least : IsLeast g ways price t pins (λ node. slice_index layers node)
  pub first : IsFirst g ways price t pins (λ node. slice_index layers node)
