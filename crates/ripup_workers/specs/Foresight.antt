-- Plans for a net that are made before it is released.
use Rattle.std.specs.Prelude.{List, [], ◌∷◌, ◌++◌, ◌≡◌, ℕ, length}
use mathlib.Core.List.{IsPrefix}
use Rattle.cost_rules.specs.declared.site.Formula.{Formula}
use Rattle.gr_base.specs.Designs.{DesignView}
use Rattle.grid_demand.specs.Tables.{capacity_of}
use Rattle.book_state.specs.Lifted.{IsFreeing}
use Rattle.book_state.specs.Still.{StaysBest}
use Rattle.book_state.specs.declared.entry.Entry.{Entry}
use Rattle.book_state.specs.declared.entry.PlanKind.{PlanKind}
use Rattle.ripup_workers.specs.Turning.{IsPlanWithout, IsWindowOf}
use Rattle.ripup_workers.specs.declared.foresight.Foreseen.{Foreseen}

-- a tree was a net's plan in a window over a history behind which the net is freed; so it is behind a later history, of
-- this length, for it stays the best in the window between them; and that history begins what was seen
pub record IsForeseen (d : DesignView) (formula : Formula) (net : ℕ) (kind : PlanKind) (seen : List Entry)
    (f : Foreseen) : Type 0 where
  pub window_of_net : IsWindowOf d net kind f.window
  pub first : List Entry
  pub plan : IsPlanWithout d formula first net kind f.tree
  pub later : List Entry
  pub still : (e : Entry) → IsFreeing net e →
      StaysBest (capacity_of d) formula net f.window f.tree (first ++ e ∷ []) (later ++ e ∷ [])
  pub front_is : f.front ≡ length later
  pub begins : IsPrefix later seen
