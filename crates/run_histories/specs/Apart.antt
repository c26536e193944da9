-- What keeps the turns of several workers apart.
use Rattle.std.specs.Prelude.{◌≡◌, ◌⊎◌, ℕ, ◌<◌, Bool, true, false, nat_lt, List, Option, None, is_some}
use Rattle.gr_base.specs.Designs.{DesignView, is_routed}
use Rattle.gr_base.specs.Trees.{TreeView}
use Rattle.book_state.specs.Books.{booked}
use Rattle.book_state.specs.Cuts.{Cut}
use Rattle.book_state.specs.Entries.{calls_of}
use Rattle.book_state.specs.declared.entry.Entry.{Entry}
use Rattle.run_histories.specs.Attempts.{Stage, Claiming, stage_of, attempts_at}
use Rattle.run_histories.specs.RunHistories.{is_due}

-- a worker claims the net
pub record HasClaimant (stage : ℕ → Stage) (net : ℕ) : Type 0 where
  pub worker : ℕ
  pub slacks : List (Option ℕ)
  pub claims : stage worker ≡ Claiming net slacks

-- by which tree each net is held, where each worker is, and how often each net was begun in this round: a net that is
-- claimed is a routed one that isn't held, is claimed by one worker alone, and was begun; a net that is due and wasn't
-- begun is held in later rounds alone; and of the routed nets alone all that are neither are held
pub record InTurns (later : Bool) (routed due : ℕ → Bool) (held : ℕ → Option TreeView) (stage : ℕ → Stage)
    (begun : ℕ → ℕ) : Type 0 where
  pub free : (worker net : ℕ) (slacks : List (Option ℕ)) →
      stage worker ≡ Claiming net slacks → held net ≡ None
  pub fit : (worker net : ℕ) (slacks : List (Option ℕ)) →
      stage worker ≡ Claiming net slacks → routed net ≡ true
  pub alone : (worker other net : ℕ) (slacks again : List (Option ℕ)) →
      stage worker ≡ Claiming net slacks → stage other ≡ Claiming net again → worker ≡ other
  pub started : (worker net : ℕ) (slacks : List (Option ℕ)) →
      stage worker ≡ Claiming net slacks → 0 < begun net
  pub waiting : (net : ℕ) → due net ≡ true → begun net ≡ 0 → is_some (held net) ≡ later
  pub off : (net : ℕ) → routed net ≡ false → held net ≡ None
  pub missing : (net : ℕ) → routed net ≡ true → held net ≡ None →
      ((due net ≡ true) × (begun net ≡ 0)) ⊎ HasClaimant stage net

-- the turns in a segment of a round are apart, after the history with that segment
abbrev pub AreApart : DesignView → ℕ → (before h segment : List Entry) → Type 0
AreApart d r before h segment =
    InTurns (nat_lt 0 r) (is_routed d) (is_due d r before) (booked h) (λ worker. stage_of r (calls_of worker segment))
    (λ net. attempts_at r net segment)

-- the turns of a history are apart
abbrev pub AreApartIn : DesignView → List Entry → Cut → Type 0
AreApartIn d h s = AreApart d s.round s.before h s.segment
