-- Which plans seats hold for the nets of a batch.
use Rattle.std.specs.Prelude.{◌≡◌, ℕ, ◌+◌, ◌*◌, ◌/◌, ◌%◌, ◌<◌, ◌≤◌, List, length, Option, Some, slice_get, IsSomeAnd}
use Rattle.std.specs.Option.{option_and_then}
use Rattle.cost_rules.specs.declared.site.Formula.{Formula}
use Rattle.gr_base.specs.Designs.{DesignView}
use Rattle.gr_base.specs.Limits.{most_nets, most_workers}
use Rattle.grid_demand.specs.LoadSums.{LoadsView}
use Rattle.grid_demand.specs.Tables.{capacity_of}
use Rattle.book_state.specs.Books.{AreLoadsOf}
use Rattle.book_state.specs.declared.entry.Entry.{Entry}
use Rattle.batch_rounds.specs.SecondTries.{IsNoted}
use Rattle.batch_rounds.specs.declared.seat.Planned.{Planned}
use Rattle.batch_rounds.specs.declared.seat.Seat.{Seat}

-- the plan at a place of a seat, if it holds one there
abbrev pub plan_in : Seat → ℕ → Option Planned
plan_in seat at = option_and_then (λ plan. plan) (slice_get seat.plans.items at)

-- the plan for a place in a batch, whose places go to the seats in turn
abbrev pub plan_for : List Seat → ℕ → Option Planned
plan_for seats place =
    option_and_then (λ seat. plan_in seat (place / length seats)) (slice_get seats (place % length seats))

-- a seat's share of a batch: the nets from its first on, each so many places behind the one before
pub record IsShare (start step : ℕ) (batch : List ℕ) : Type 0 where
  pub first : start < step
  pub count : step ≤ most_workers
  pub nets : length batch ≤ most_nets

-- a seat holds plans over loads for the nets of a batch from its first on, each so many places behind the one before
abbrev pub HasPlanned : DesignView → Formula → ℕ → LoadsView → List ℕ → (first count : ℕ) → Seat → Type 0
HasPlanned d formula round loads nets first count seat =
    (h : List Entry) → AreLoadsOf (capacity_of d) h loads →
    (at net : ℕ) → slice_get nets (first + at * count) ≡ Some net →
    IsSomeAnd (plan_in seat at) (IsNoted d formula round h net)

-- the seats hold plans over a history for the nets of a batch from a place on
abbrev pub HavePlans : DesignView → Formula → ℕ → List Entry → List ℕ → (from : ℕ) → List Seat → Type 0
HavePlans d formula round h nets from seats = (place net : ℕ) → from ≤ place → slice_get nets place ≡ Some net →
    IsSomeAnd (plan_for seats place) (IsNoted d formula round h net)
