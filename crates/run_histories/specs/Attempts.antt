-- Attempts at nets: how far a caller's entries in a round have come.
use Rattle.std.specs.Prelude.{◌≡◌, ℕ, zero, suc, ◌*◌, Bool, true, false, ◌==◌, ◌&&◌, ◌⊎◌, List, ◌∷◌, Option, Some, None, IsSome, if◌then◌else◌}
use Rattle.std.specs.List.{fold, count_by}
use Rattle.book_state.specs.declared.entry.Call.{Call}
use Rattle.book_state.specs.declared.entry.Call.TheVariants.{Claim as Claims, Release, Mark}
use Rattle.book_state.specs.declared.entry.Claim.{Claim}
use Rattle.book_state.specs.declared.entry.Entry.{Entry}
use Rattle.book_state.specs.declared.entry.PlanKind.{PlanKind}
use Rattle.book_state.specs.declared.entry.PlanKind.TheVariants.{Pattern, Maze, Given}
use Rattle.book_state.specs.declared.entry.Reply.{Reply}
use Rattle.book_state.specs.declared.entry.Reply.TheVariants.{Claimed, Full, Released}
use Rattle.run_histories.specs.Rounds.{IsFull, slacks_of_turn}

-- where a caller's entries have led: it is at no net; it has released a net and is to claim it at these slacks in turn;
-- or they were no attempts
pub data Stage : Type 0 where
  Rests : Stage
  Claiming : ℕ → List (Option ℕ) → Stage
  Broken : Stage

-- how plans are made in a round: by patterns in round 0, and then by mazes of margin 4 r
abbrev pub kind_of : ℕ → PlanKind
kind_of zero = Pattern
kind_of (suc r) = Maze (4 * suc r)

abbrev pub is_kind : PlanKind → PlanKind → Bool
is_kind Pattern Pattern = true
is_kind (Maze margin) (Maze other) = margin == other
is_kind Given Given = true
is_kind _ _ = false

abbrev pub is_slack : Option ℕ → Option ℕ → Bool
is_slack None None = true
is_slack (Some slack) (Some other) = slack == other
is_slack None (Some other) = false
is_slack (Some slack) None = false

-- a claim of a net for a plan of this kind, at this slack
abbrev pub is_claim_for : ℕ → PlanKind → Option ℕ → Claim → Bool
is_claim_for net kind slack claim = (net == claim.net) && (is_kind kind claim.kind && is_slack slack claim.slack)

-- a claim that is answered Full goes on at the slacks that are left; any other is the last
abbrev pub stage_replied : ℕ → List (Option ℕ) → Reply → Stage
stage_replied net slacks (Full edge demand) = Claiming net slacks
stage_replied net slacks _ = Rests

-- in round 0 an attempt is one claim, at any demand
abbrev pub first_stage : Stage → Call → Stage
first_stage Rests (Claims claim) = if is_claim_for claim.net (kind_of 0) None claim then Rests else Broken
first_stage Rests _ = Broken
first_stage (Claiming net slacks) call = Broken
first_stage Broken call = Broken

-- later it is a release, and then claims at the slacks of a turn, up to the first that isn't answered Full
abbrev pub later_stage : PlanKind → Stage → Call → Reply → Stage
later_stage kind Rests (Release net) reply = Claiming net slacks_of_turn
later_stage kind Rests _ reply = Broken
later_stage kind (Claiming net (slack ∷ slacks)) (Claims claim) reply =
    if is_claim_for net kind slack claim then stage_replied net slacks reply else Broken
later_stage kind (Claiming net _) call reply = Broken
later_stage kind Broken call reply = Broken

abbrev pub stage_after : ℕ → Stage → Entry → Stage
stage_after zero stage e = first_stage stage e.call
stage_after (suc r) stage e = later_stage (kind_of (suc r)) stage e.call e.reply

-- where a caller's entries of a round have led
abbrev pub stage_of : ℕ → List Entry → Stage
stage_of round calls = fold (stage_after round) Rests calls

abbrev pub is_claim_of : ℕ → Call → Bool
is_claim_of net (Claims claim) = net == claim.net
is_claim_of net _ = false

abbrev pub is_release_of : ℕ → Call → Bool
is_release_of net (Release other) = net == other
is_release_of net _ = false

-- an attempt at a net begins with this entry
abbrev pub begins : ℕ → ℕ → Entry → Bool
begins zero net e = is_claim_of net e.call
begins (suc r) net e = is_release_of net e.call

-- how many attempts at a net were begun among the entries of a round
abbrev pub attempts_at : ℕ → ℕ → List Entry → ℕ
attempts_at round net entries = count_by (begins round net) entries

-- a release is answered Released, and a claim Claimed, or Full where it has a slack: an attempt that is answered so is
-- a turn
abbrev pub IsGranted : Call → Reply → Type 0
IsGranted (Claims claim) reply = (reply ≡ Claimed) ⊎ (IsSome claim.slack × IsFull reply)
IsGranted (Release net) reply = reply ≡ Released
IsGranted Mark reply = Unit {0}
