-- What stands between rounds, and what a round leaves.
use Rattle.std.specs.Prelude.{◌≡◌, ℕ, ◌+◌, ◌<◌, ◌≤◌, Bool, true, false, ◌||◌, ◌==◌, List, [], All, length, Option, Some, slice_get, sum_by, if◌then◌else◌, IsTrue}
use Rattle.std.specs.List.{filter}
use denote.Param.Members.{Mut}
use mathlib.Core.List.{IsPrefix}
use Rattle.cost_rules.specs.declared.sight.Going.{Going}
use Rattle.cost_rules.specs.declared.sight.Going.TheVariants.{On, Stop}
use Rattle.cost_rules.specs.declared.sight.Sight.{Sight}
use Rattle.cost_rules.specs.declared.site.Site.{Site}
use Rattle.gr_base.specs.Designs.{is_routed}
use Rattle.grid_demand.specs.Tables.{CapacityView, capacity_of}
use Rattle.book_state.specs.Books.{victims}
use Rattle.book_state.specs.Cuts.{cut}
use Rattle.book_state.specs.Entries.{calls_of}
use Rattle.book_state.specs.declared.entry.Entry.{Entry}
use Rattle.run_histories.specs.Rounds.{marker}
use Rattle.run_histories.specs.RunHistories.{Setting, Overflows, asked_for, is_due, ends_with_mark, overflows_of, says_at, IsAsked, IsRunHistory}
use Rattle.run_histories.specs.Standing.{Stands}
use Rattle.track_book.specs.Passes.{PassView, IsPass}
use Rattle.work_share.specs.Views.{times}
use Rattle.ripup_workers.specs.Working.{HasAttempted, ArePlanned}
use Rattle.ripup_workers.specs.declared.asked.Asked.{Asked}
use Rattle.run_histories.specs.RunHistories.{KeepsRules}

-- what is asked for, as run histories know it
abbrev pub setting_of : {X Y : Type 0} {price : Mut X (Site × Unit {0}) ℕ} {look : Mut Y (Sight × Unit {0}) Going} →
    Asked X Y price look → Setting
setting_of a =
    asked_for a.design.now a.given.now a.rule.now.formula a.workers a.rounds a.watcher.now.watch a.goal

-- the watch says Stop at this overflow, after that one
abbrev pub is_stop : Going → Bool
is_stop On = false
is_stop Stop = true

abbrev pub is_stop_at : Setting → ℕ → Option ℕ → Bool
is_stop_at t overflow before = is_stop (says_at t.watch t.goal before (Some overflow))

-- how many nets the round after this one has: none where that was the last one, or the watch says Stop
abbrev pub due_after : Setting → (round overflow : ℕ) → Option ℕ → (nets : ℕ) → ℕ
due_after t round overflow before nets = if (round == t.rounds) || is_stop_at t overflow before then 0 else nets

-- each entry is the marker's or a worker's
abbrev pub AreOf : ℕ → List Entry → Type 0
AreOf workers h = All (λ (e : Entry). e.number ≤ workers) h

-- a pass has seen this history, and has no entries of its own behind it
pub record HasSeen (c : CapacityView) (h : List Entry) (p : PassView) : Type 0 where
  pub pass : IsPass c p
  pub begins : IsPrefix h p.seen
  pub own : calls_of p.number p.seen ≡ calls_of p.number h

-- the same, of the worker of this number, each claim of which is planned
pub record IsWorkerAt (t : Setting) (h : List Entry) (number : ℕ) (p : PassView) : Type 0 where
  pub number_is : p.number ≡ number
  pub seen : HasSeen (capacity_of t.design) h p
  pub planned : ArePlanned t p

-- the coordinator and the workers have seen this history, and have no entries of their own behind it
pub record AreAt (t : Setting) (h : List Entry) (coordinator : PassView) (workers : List PassView) : Type 0 where
  pub count : length workers ≡ t.workers
  pub number : coordinator.number ≡ marker
  pub seen : HasSeen (capacity_of t.design) h coordinator
  pub each : (at : ℕ) (p : PassView) → slice_get workers at ≡ Some p → IsWorkerAt t h (at + 1) p

-- the workers have attempted these nets, each as often as it stands among them
pub record HaveAttempted (t : Setting) (round : ℕ) (nets : List ℕ) (old new : List PassView) : Type 0 where
  pub count : length new ≡ length old
  pub parts : List (List ℕ)
  pub parts_count : length parts ≡ length old
  pub each : (at : ℕ) (p q : PassView) (part : List ℕ) → slice_get old at ≡ Some p → slice_get new at ≡ Some q →
      slice_get parts at ≡ Some part → HasAttempted t round part p q
  pub whole : (net : ℕ) → times net nets ≡ sum_by (λ part. times net part) parts

-- whole rounds have come to their last mark, if there was any
pub record AreDone (t : Setting) (rounds : ℕ) (h : List Entry) : Type 0 where
  pub rules : KeepsRules t h
  pub round_is : (cut h).round ≡ rounds
  pub segment : (cut h).segment ≡ []

-- a round of these nets comes after this history, at whose last mark the overflow was this
pub record IsNext (t : Setting) (round : ℕ) (nets : List ℕ) (overflow : Option ℕ) (h : List Entry) : Type 0 where
  pub done : AreDone t round h
  pub due : (net : ℕ) → times net nets ≡ (if is_due t.design round h net then 1 else 0)
  pub asked : 0 < round → IsAsked t (cut h)
  pub overflow_is : (overflows_of h).last ≡ overflow

abbrev pub overflows : ℕ → Option ℕ → Overflows
overflows overflow before = record { last = Some overflow; before = before }

-- a round has ended with a mark of this overflow, after one of that; these are the victims
pub record HasEnded (t : Setting) (round overflow : ℕ) (before : Option ℕ) (nets : List ℕ)
    (h : List Entry) : Type 0 where
  pub done : AreDone t (round + 1) h
  pub last : IsTrue (ends_with_mark h)
  pub stands : Stands t.design h
  pub overflows_are : overflows_of h ≡ overflows overflow before
  pub victims_are : nets ≡ victims (capacity_of t.design) h

-- the callers stand at the end of whole rounds, after which a round of these nets comes, as far as the entries are
-- theirs
pub record AreBefore (t : Setting) (round : ℕ) (nets : List ℕ) (overflow : Option ℕ) (coordinator : PassView)
    (workers : List PassView) : Type 0 where
  pub h : List Entry
  pub at : AreAt t h coordinator workers
  pub next : AreOf t.workers coordinator.seen → IsNext t round nets overflow h

-- they stand at the end of a round
pub record AreBehind (t : Setting) (round overflow : ℕ) (before : Option ℕ) (nets : List ℕ) (coordinator : PassView)
    (workers : List PassView) : Type 0 where
  pub h : List Entry
  pub at : AreAt t h coordinator workers
  pub ended : AreOf t.workers coordinator.seen → HasEnded t round overflow before nets h

-- a round of some nets has been run: where the callers stood before it, they stand at its end, and the nets that are
-- kept for the next one are the victims that are routed
pub record IsRoundOver (t : Setting) (round overflow : ℕ) (nets kept : List ℕ) (coordinator new : PassView)
    (workers after : List PassView) : Type 0 where
  pub victims : List ℕ
  pub kept_are : kept ≡ filter (is_routed t.design) victims
  pub behind : (before : Option ℕ) → AreBefore t round nets before coordinator workers →
      AreBehind t round overflow before victims new after

-- they stand at the end of a run history, as far as the entries are theirs
pub record HaveRun (t : Setting) (coordinator : PassView) (workers : List PassView) : Type 0 where
  pub h : List Entry
  pub at : AreAt t h coordinator workers
  pub run : AreOf t.workers coordinator.seen → IsRunHistory t h
