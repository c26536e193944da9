-- Histories of rounds by any number of workers, whose turns interleave in any way.
use Rattle.std.specs.Prelude.{◌≡◌, ℕ, zero, suc, ◌+◌, ◌<◌, ◌≤◌, ◌⊎◌, Bool, false, ◌&&◌, List, [], ◌++◌, All, length, take, Option, Some, None, is_none, slice_get, if◌then◌else◌, IsTrue}
use Rattle.std.specs.List.{fold, filter, range_with_len}
use Rattle.cost_rules.specs.declared.site.Formula.{Formula}
use Rattle.cost_rules.specs.declared.sight.Going.{Going}
use Rattle.cost_rules.specs.declared.sight.Going.TheVariants.{On, Stop}
use Rattle.cost_rules.specs.declared.sight.Watch.{Watch}
use Rattle.cost_rules.specs.declared.sight.Watch.TheVariants.{Never}
use Rattle.cost_rules.specs.Watching.{watch_says}
use Rattle.gr_base.specs.Designs.{DesignView, is_routed}
use Rattle.gr_base.specs.Trees.{TreeView}
use Rattle.grid_demand.specs.Tables.{capacity_of}
use Rattle.book_state.specs.Books.{booked, IsLegal, is_victim, victims}
use Rattle.book_state.specs.Cuts.{Cut, cut, AtMarks}
use Rattle.book_state.specs.Entries.{AtEach, is_mark, is_given, calls_of}
use Rattle.book_state.specs.Marks.{overflow_of}
use Rattle.book_state.specs.declared.entry.Call.{Call}
use Rattle.book_state.specs.declared.entry.Call.TheVariants.{Claim as Claims, Mark}
use Rattle.book_state.specs.declared.entry.Claim.{Claim}
use Rattle.book_state.specs.declared.entry.Entry.{Entry}
use Rattle.book_state.specs.declared.entry.PlanKind.TheVariants.{Pattern}
use Rattle.run_histories.specs.Attempts.{Rests, stage_of, attempts_at, IsGranted}
use Rattle.run_histories.specs.GivenRoutes.{given_claims}
use Rattle.run_histories.specs.Rounds.{marker, IsPlanFor}

-- what rounds are asked for: the design, the trees that nets are given, the formula of the plans, how many workers, at
-- most how many rounds after round 0, and the watch with its goal, which may end them earlier
pub record Setting : Type 0 where
  pub design : DesignView
  pub given : List (Option TreeView)
  pub formula : Formula
  pub workers : ℕ
  pub rounds : ℕ
  pub watch : Watch
  pub goal : ℕ

-- rounds that are asked for so
abbrev pub asked_for : DesignView → List (Option TreeView) → Formula → ℕ → ℕ → Watch → ℕ → Setting
asked_for d given formula workers rounds watch goal = record {
  design = d;
  given = given;
  formula = formula;
  workers = workers;
  rounds = rounds;
  watch = watch;
  goal = goal;
}

-- the claims of the given trees
abbrev pub claims_given : Setting → List Entry
claims_given t = given_claims t.design t.given

-- marks are the marker's, and all other calls those of workers
abbrev pub IsNumbered : ℕ → Call → ℕ → Type 0
IsNumbered workers Mark number = number ≡ marker
IsNumbered workers _ number = (marker < number) × (number ≤ workers)

-- a claim's tree is the plan of its kind over a history, and routes the net
abbrev pub IsPlanOver : Setting → List Entry → Claim → Type 0
IsPlanOver t h claim = IsPlanFor t.design t.formula h claim.net claim.kind claim.tree

-- a claim's front lies behind each earlier entry of the same number, that of a pattern plan behind the claims of the
-- given trees too, and its tree is planned from the entries before the front
pub record IsPlanned (t : Setting) (before : List Entry) (number : ℕ) (claim : Claim) : Type 0 where
  pub front : (place : ℕ) (own : Entry) → slice_get before place ≡ Some own → own.number ≡ number →
      place < claim.front
  pub behind : claim.kind ≡ Pattern → length (claims_given t) ≤ claim.front
  pub tree : IsPlanOver t (take claim.front before) claim

-- a net is due in a round: in round 0 where it is routed and wasn't booked before, and later where it was a victim at
-- the mark before
abbrev pub is_due : DesignView → ℕ → List Entry → ℕ → Bool
is_due d zero before net = is_routed d net && is_none (booked before net)
is_due d (suc r) before net = is_victim (capacity_of d) before net

-- in a segment each number's entries are whole attempts, one after another
abbrev pub AreWhole : Cut → Type 0
AreWhole s = (number : ℕ) → stage_of s.round (calls_of number s.segment) ≡ Rests

-- in a segment there is one attempt at each net that is due, and none at any other
abbrev pub AreOfDue : DesignView → Cut → Type 0
AreOfDue d s = (net : ℕ) → attempts_at s.round net s.segment ≡ (if is_due d s.round s.before net then 1 else 0)

-- a history begins with the claims of the given trees, and there are no others of such trees
pub record BeginsGiven (t : Setting) (h : List Entry) : Type 0 where
  pub rest : List Entry
  pub history_is : h ≡ claims_given t ++ rest
  pub others : All (λ (e : Entry). is_given e ≡ false) rest

-- the last entry is a mark
abbrev pub ends_with_mark : List Entry → Bool
ends_with_mark h = fold (λ (last : Bool) (e : Entry). is_mark e) false h

-- a legal history that begins with the claims of the given trees and ends with a mark, of planned claims, and of one
-- attempt in each segment at each net that is due
pub record AreAttempts (t : Setting) (h : List Entry) : Type 0 where
  pub legal : IsLegal (capacity_of t.design) h
  pub given : BeginsGiven t h
  pub last : IsTrue (ends_with_mark h)
  pub numbers : AtEach (λ before e. IsNumbered t.workers e.call e.number) h
  pub plans : AtEach (λ before e. (claim : Claim) → e.call ≡ Claims claim → IsPlanned t before e.number claim) h
  pub whole : AtMarks AreWhole h
  pub due : AtMarks (AreOfDue t.design) h

-- each release and each claim gets what a turn is to get
abbrev pub AreGranted : List Entry → Type 0
AreGranted h = AtEach (λ before e. IsGranted e.call e.reply) h

-- the overflow at the last mark, and at the mark before it
pub record Overflows : Type 0 where
  pub last : Option ℕ
  pub before : Option ℕ

abbrev pub no_overflows : Overflows
no_overflows = record { last = None; before = None }

abbrev pub overflows_after : Overflows → Option ℕ → Overflows
overflows_after o None = o
overflows_after o (Some overflow) = record { last = Some overflow; before = o.last }

abbrev pub overflows_of : List Entry → Overflows
overflows_of h = fold (λ (o : Overflows) (e : Entry). overflows_after o (overflow_of e)) no_overflows h

-- what a watch says at the sight of these
abbrev pub says_at : Watch → ℕ → Option ℕ → Option ℕ → Going
says_at watch goal before None = On
says_at watch goal before (Some overflow) = watch_says watch (record { overflow = overflow; before = before; goal = goal })

-- what the watch says at the last mark of a history
abbrev pub says : Setting → List Entry → Going
says t h = says_at t.watch t.goal (overflows_of h).before (overflows_of h).last

-- a later round has victims, is one of those asked for, and the watch said On at the mark before it
pub record IsAsked (t : Setting) (s : Cut) : Type 0 where
  pub some : 0 < length (victims (capacity_of t.design) s.before)
  pub most : s.round ≤ t.rounds
  pub on : says t s.before ≡ On

-- a history of which all finished segments are those of a run history
pub record KeepsRules (t : Setting) (h : List Entry) : Type 0 where
  pub legal : IsLegal (capacity_of t.design) h
  pub given : BeginsGiven t h
  pub numbers : AtEach (λ before e. IsNumbered t.workers e.call e.number) h
  pub plans : AtEach (λ before e. (claim : Claim) → e.call ≡ Claims claim → IsPlanned t before e.number claim) h
  pub granted : AreGranted h
  pub whole : AtMarks AreWhole h
  pub due : AtMarks (AreOfDue t.design) h
  pub asked : AtMarks (λ s. 0 < s.round → IsAsked t s) h

-- at its last mark a history has had all rounds asked for, or has no victims, or the watch says Stop
abbrev pub IsOver : Setting → List Entry → Type 0
IsOver t h = ((cut h).round ≡ t.rounds + 1) ⊎ ((victims (capacity_of t.design) h ≡ []) ⊎ (says t h ≡ Stop))

-- a run history: turns of the nets that are due, round by round, for as long as rounds are asked for
pub record IsRunHistory (t : Setting) (h : List Entry) : Type 0 where
  pub attempts : AreAttempts t h
  pub granted : AreGranted h
  pub asked : AtMarks (λ s. 0 < s.round → IsAsked t s) h
  pub over : IsOver t h

-- what one worker is asked for, without given trees and without a watch
abbrev pub one_worker : DesignView → Formula → ℕ → Setting
one_worker d formula rounds = asked_for d [] formula 1 rounds Never 0

-- the nets that are due in round 0 where no trees are given, in the design's order
abbrev pub routed_nets : DesignView → List ℕ
routed_nets d = filter (is_routed d) (range_with_len 0 (length d.nets))
