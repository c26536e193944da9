-- What every state of the machine keeps.
use Rattle.std.specs.Prelude.{◌≡◌, ℕ, zero, suc, ◌+◌, ◌<◌, ◌≤◌, Bool, true, false, ◌==◌, List, [], length, drop, slice_get, Some, if◌then◌else◌, IsTrue}
use Rattle.std.specs.List.{count_by}
use Rattle.book_state.specs.Cuts.{Cut, cut}
use Rattle.book_state.specs.Entries.{calls_of}
use Rattle.book_state.specs.declared.entry.Entry.{Entry}
use Rattle.run_histories.specs.Apart.{AreApartIn}
use Rattle.run_histories.specs.Attempts.{Stage, Rests, Claiming, stage_of, attempts_at}
use Rattle.run_histories.specs.Rounds.{slacks_of_turn}
use Rattle.run_histories.specs.RunHistories.{Setting, is_due, ends_with_mark, IsAsked, IsOver, KeepsRules}
use Rattle.round_core.specs.Worlds.{WorldView, phase_before_end, since_of}
use Rattle.round_core.specs.declared.steps.Phase.{Phase}
use Rattle.round_core.specs.declared.steps.Phase.TheVariants.{Idle, Holding, Trying, Ended}

-- where the entries of a worker in a phase have led
abbrev pub stage_in : Phase → Stage
stage_in (Trying net tries since) = Claiming net (drop tries slacks_of_turn)
stage_in _ = Rests

-- and the entries of a number: the workers' are counted from 1
abbrev pub stage_at : WorldView → ℕ → Stage
stage_at v zero = Rests
stage_at v (suc worker) = stage_in (phase_before_end v worker)

-- a worker holds the net
abbrev pub is_holding_net : ℕ → Phase → Bool
is_holding_net net (Holding other) = net == other
is_holding_net net _ = false

-- how often in all a net is left, held by a worker, or begun in a segment
abbrev pub times_in : WorldView → Cut → ℕ → ℕ
times_in v s net =
    count_by (λ (left : ℕ). left == net) v.left + count_by (is_holding_net net) v.phases + attempts_at s.round net s.segment

-- before the end a worker tries in later rounds alone, has tried at most twice, and knows its last entry
abbrev pub IsPhaseRight : ℕ → ℕ → Phase → Type 0
IsPhaseRight round last Idle = Unit {0}
IsPhaseRight round last (Holding net) = Unit {0}
IsPhaseRight round last (Trying net tries since) = (0 < round) × (tries ≤ 2) × (since ≡ last)
IsPhaseRight round last Ended = ⊥

-- the entry just before so many is the worker's
pub record HasOwnBefore (h : List Entry) (worker since : ℕ) : Type 0 where
  pub place : ℕ
  pub since_is : since ≡ suc place
  pub own : Entry
  pub there : slice_get h place ≡ Some own
  pub number : own.number ≡ suc worker

-- before the end, with the history cut at its last mark: each net that is due is once left, or held, or begun, and no
-- other is; each worker's entries in the last segment have led to its phase, and its last entry lies where the state
-- says
pub record IsRunning (v : WorldView) (s : Cut) : Type 0 where
  pub round : s.round ≡ v.round
  pub asked : 0 < s.round → IsAsked v.setting s
  pub phases : length v.phases ≡ v.setting.workers
  pub since : length v.since ≡ v.setting.workers
  pub stages : (number : ℕ) → stage_of s.round (calls_of number s.segment) ≡ stage_at v number
  pub nets : (net : ℕ) → times_in v s net ≡ (if is_due v.setting.design s.round s.before net then 1 else 0)
  pub last : (worker place : ℕ) (own : Entry) → slice_get v.history place ≡ Some own →
      own.number ≡ suc worker → place < since_of v worker
  pub exact : (worker : ℕ) → 0 < since_of v worker → HasOwnBefore v.history worker (since_of v worker)
  pub right : (worker : ℕ) → IsPhaseRight s.round (since_of v worker) (phase_before_end v worker)
  pub apart : AreApartIn v.setting.design v.history s

-- at the end the last entry is a mark at which the rounds are over
pub record HasEnded (t : Setting) (h : List Entry) : Type 0 where
  pub last : IsTrue (ends_with_mark h)
  pub over : IsOver t h

-- what every state keeps: no trees are given
pub record IsWorld (v : WorldView) : Type 0 where
  pub plain : v.setting.given ≡ []
  pub rules : KeepsRules v.setting v.history
  pub running : v.over ≡ false → IsRunning v (cut v.history)
  pub ended : v.over ≡ true → HasEnded v.setting v.history
