-- What a worker adds to the shared history in a round.
use Rattle.std.specs.Prelude.{◌≡◌, ℕ, ◌≤◌, List, ◌++◌, length}
use Rattle.std.specs.List.{fold}
use mathlib.Core.List.{IsPrefix}
use Rattle.grid_demand.specs.Tables.{capacity_of}
use Rattle.book_state.specs.Books.{IsLegal}
use Rattle.book_state.specs.Entries.{AtEach}
use Rattle.book_state.specs.declared.entry.Call.TheVariants.{Claim as Claims}
use Rattle.book_state.specs.declared.entry.Claim.{Claim}
use Rattle.book_state.specs.declared.entry.Entry.{Entry}
use Rattle.run_histories.specs.Attempts.{Stage, Rests, stage_after, attempts_at}
use Rattle.run_histories.specs.RunHistories.{Setting, claims_given, IsPlanned}
use Rattle.track_book.specs.Passes.{PassView}
use Rattle.work_share.specs.Views.{times}

-- each claim among a pass's own entries is planned from the entries before its front
abbrev pub AreOwnPlanned : Setting → PassView → Type 0
AreOwnPlanned t p =
    AtEach (λ before e. e.number ≡ p.number → (claim : Claim) → e.call ≡ Claims claim →
    IsPlanned t before e.number claim) p.seen

-- so it is, and the pass has seen at least as many entries as there are claims of given trees
pub record ArePlanned (t : Setting) (p : PassView) : Type 0 where
  pub behind : length (claims_given t) ≤ length p.seen
  pub own : AreOwnPlanned t p

-- a pass has added entries of a round that lead from one stage to another, and begun as many attempts at each net as it
-- stands among these; its claims are planned
pub record HasLed (t : Setting) (round : ℕ) (from to : Stage) (nets : List ℕ) (old new : PassView) : Type 0 where
  pub number : new.number ≡ old.number
  pub begins : IsPrefix old.seen new.seen
  pub legal : IsLegal (capacity_of t.design) new.seen
  pub added : List Entry
  pub mine : new.mine ≡ old.mine ++ added
  pub led : fold (stage_after round) from added ≡ to
  pub each : (net : ℕ) → attempts_at round net added ≡ times net nets
  pub planned : ArePlanned t old → ArePlanned t new

-- a pass has added whole attempts of a round, as many at each net as it stands among these, and its claims are planned
abbrev pub HasAttempted : Setting → ℕ → List ℕ → PassView → PassView → Type 0
HasAttempted t round nets old new = HasLed t round Rests Rests nets old new
