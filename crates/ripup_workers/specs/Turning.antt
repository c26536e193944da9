-- The steps of a net's turn in a round, as a worker adds them.
use Rattle.std.specs.Prelude.{◌≡◌, ℕ, List, [], ◌∷◌, ◌++◌, length, Option, Some, None}
use mathlib.Core.List.{IsPrefix}
use Rattle.cost_rules.specs.declared.site.Formula.{Formula}
use Rattle.gr_base.specs.Designs.{DesignView, IsDesign, pins_at}
use Rattle.gr_base.specs.Trees.{TreeView}
use Rattle.grid_demand.specs.Tables.{CapacityView, capacity_of}
use Rattle.book_state.specs.Lifted.{IsFreeing}
use Rattle.book_state.specs.declared.entry.Call.TheVariants.{Claim as Claims}
use Rattle.book_state.specs.declared.entry.Claim.{Claim}
use Rattle.book_state.specs.declared.entry.Entry.{Entry}
use Rattle.book_state.specs.declared.entry.PlanKind.{PlanKind}
use Rattle.book_state.specs.declared.entry.PlanKind.TheVariants.{Maze}
use Rattle.book_state.specs.declared.entry.Reply.{Reply}
use Rattle.maze_route.specs.declared.window.Window.{Window}
use Rattle.net_plan.specs.Mazes.{window_of}
use Rattle.run_histories.specs.Attempts.{Rests, Claiming}
use Rattle.run_histories.specs.Rounds.{IsPlanFor}
use Rattle.run_histories.specs.RunHistories.{Setting}
use Rattle.track_book.specs.Passes.{PassView, IsAnswered, HasLearnt}
use Rattle.ripup_workers.specs.Working.{ArePlanned, HasLed, HasAttempted}

-- a design, and its capacity
pub record HasCapacity (d : DesignView) (c : CapacityView) : Type 0 where
  pub design : IsDesign d
  pub capacity_is : c ≡ capacity_of d

-- what is asked for over this design by this formula
pub record IsOver (d : DesignView) (formula : Formula) (t : Setting) : Type 0 where
  pub design : t.design ≡ d
  pub formula_is : t.formula ≡ formula

-- after a claim with room within capacity alone: where there is a next plan, the claims go on at the slacks that are
-- left, and else the net's attempt is whole
abbrev pub HasLedOn : Setting → ℕ → ℕ → List (Option ℕ) → PassView → PassView → Option TreeView → Type 0
HasLedOn t round net slacks old new None = HasLed t round (Claiming net (Some 0 ∷ slacks)) Rests [] old new
HasLedOn t round net slacks old new (Some next) =
    HasLed t round (Claiming net (Some 0 ∷ slacks)) (Claiming net slacks) [] old new

-- a pass has seen more, and added nothing; its claims are planned
pub record HasFollowed (t : Setting) (old new : PassView) : Type 0 where
  pub learnt : HasLearnt (capacity_of t.design) old new
  pub planned : ArePlanned t old → ArePlanned t new

-- a tree is a net's plan of a kind over a history behind which the net is freed
abbrev pub IsPlanWithout : DesignView → Formula → List Entry → ℕ → PlanKind → TreeView → Type 0
IsPlanWithout d formula h net kind tree =
    (e : Entry) → IsFreeing net e → IsPlanFor d formula (h ++ e ∷ []) net kind tree

-- the window in which a net's plan of a kind grows
pub record IsWindowOf (d : DesignView) (net : ℕ) (kind : PlanKind) (w : Window) : Type 0 where
  pub margin : ℕ
  pub kind_is : kind ≡ Maze margin
  pub window_is : w ≡ window_of d.frame.shape (pins_at d net) margin

-- a tree was a net's plan over a first part of what was seen, of this length
pub record WasPlanned (d : DesignView) (formula : Formula) (net : ℕ) (kind : PlanKind) (tree : TreeView) (front : ℕ)
    (seen : List Entry) : Type 0 where
  pub first : List Entry
  pub plan : IsPlanFor d formula first net kind tree
  pub front_is : front ≡ length first
  pub begins : IsPrefix first seen

-- a pass has claimed a net at a slack for a plan of a kind, and got this reply; its claims are planned
pub record HasTried (t : Setting) (net : ℕ) (kind : PlanKind) (slack : Option ℕ) (reply : Reply) (old new : PassView)
    : Type 0 where
  pub claim : Claim
  pub net_is : claim.net ≡ net
  pub kind_is : claim.kind ≡ kind
  pub slack_is : claim.slack ≡ slack
  pub answered : IsAnswered (capacity_of t.design) old new (Claims claim) reply
  pub planned : ArePlanned t old → ArePlanned t new

-- a worker has taken some nets, and attempted just these
pub record HasWorked (t : Setting) (round : ℕ) (taken_before taken : List ℕ) (old new : PassView) : Type 0 where
  pub nets : List ℕ
  pub taken_is : taken ≡ taken_before ++ nets
  pub attempted : HasAttempted t round nets old new
