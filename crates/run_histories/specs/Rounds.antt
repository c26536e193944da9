-- What the entries of a round are made of: who marks, the plans and the routes of nets, and the slacks of claims.
use Rattle.std.specs.Prelude.{◌≡◌, ℕ, List, [], ◌∷◌, Option, Some, None, slice_get, IsTrue}
use Rattle.cost_rules.specs.declared.site.Formula.{Formula}
use Rattle.gr_base.specs.Designs.{DesignView, pins_at}
use Rattle.gr_base.specs.Plans.{IsRouteOf, IsRouteOfNet}
use Rattle.gr_base.specs.Trees.{TreeView}
use Rattle.gr_base.specs.declared.frame.Net.{Net}
use Rattle.grid_demand.specs.LoadSums.{LoadsView}
use Rattle.grid_demand.specs.Tables.{CapacityView, capacity_of}
use Rattle.net_plan.specs.Mazes.{IsMaze}
use Rattle.net_plan.specs.Patterns.{IsPattern}
use Rattle.book_state.specs.Books.{AreLoadsOf}
use Rattle.book_state.specs.Entries.{is_full_reply}
use Rattle.book_state.specs.declared.entry.Claim.{Claim}
use Rattle.book_state.specs.declared.entry.Entry.{Entry}
use Rattle.book_state.specs.declared.entry.PlanKind.{PlanKind}
use Rattle.book_state.specs.declared.entry.PlanKind.TheVariants.{Pattern, Maze, Given}
use Rattle.book_state.specs.declared.entry.Reply.{Reply}

-- the number of the one who marks, and that of the first worker, who claims the given trees
abbrev pub marker : ℕ
marker = 0

abbrev pub first_worker : ℕ
first_worker = 1

-- a net's plan of a kind over loads; for a given tree none is made
abbrev pub IsPlan : CapacityView → LoadsView → Formula → ℕ → List ℕ → PlanKind → TreeView → Type 0
IsPlan c l formula net pins Pattern t = IsPattern c l formula net pins t
IsPlan c l formula net pins (Maze margin) t = IsMaze c l formula net pins margin t
IsPlan c l formula net pins Given t = Unit {0}

-- a net's plan of a kind over the demand and the marks of a history
pub record IsPlanAfter (d : DesignView) (formula : Formula) (h : List Entry) (net : ℕ) (kind : PlanKind)
    (t : TreeView) : Type 0 where
  pub loads : LoadsView
  pub there : AreLoadsOf (capacity_of d) h loads
  pub plan : IsPlan (capacity_of d) loads formula net (pins_at d net) kind t

-- a tree is a net's plan of a kind over a history, and routes the net
pub record IsPlanFor (d : DesignView) (formula : Formula) (h : List Entry) (net : ℕ) (kind : PlanKind)
    (t : TreeView) : Type 0 where
  pub plan : IsPlanAfter d formula h net kind t
  pub routes : IsRouteOfNet d net t

abbrev pub claim_of : ℕ → TreeView → Option ℕ → ℕ → PlanKind → Claim
claim_of net tree slack front kind = record { net = net; tree = tree; slack = slack; front = front; kind = kind }

abbrev pub IsFull : Reply → Type 0
IsFull reply = IsTrue (is_full_reply reply)

-- two claims ask for room within capacity; the third always gets it
abbrev pub slacks_of_turn : List (Option ℕ)
slacks_of_turn = Some 0 ∷ Some 0 ∷ None ∷ []
