-- Turns, entry by entry.
use Rattle.std.specs.Prelude.{◌≡◌, ℕ, zero, suc, ◌⊎◌, List, [], ◌∷◌, ◌++◌, Option, None}
use Rattle.book_state.specs.declared.entry.Call.TheVariants.{Claim as Claims, Release}
use Rattle.book_state.specs.declared.entry.Claim.{Claim}
use Rattle.book_state.specs.declared.entry.Entry.{Entry}
use Rattle.book_state.specs.declared.entry.PlanKind.{PlanKind}
use Rattle.book_state.specs.declared.entry.Reply.TheVariants.{Claimed, Released}
use Rattle.run_histories.specs.Attempts.{kind_of}
use Rattle.run_histories.specs.Rounds.{IsFull, slacks_of_turn}

-- the entry is a claim of a net for a plan of this kind, at this slack
pub record IsClaimFor (net : ℕ) (kind : PlanKind) (slack : Option ℕ) (e : Entry) : Type 0 where
  pub claim : Claim
  pub call : e.call ≡ Claims claim
  pub net_is : claim.net ≡ net
  pub kind_is : claim.kind ≡ kind
  pub slack_is : claim.slack ≡ slack

-- claims of a net at these slacks in turn: each is answered Full but the last, which is answered Claimed
abbrev pub AreClaims : ℕ → PlanKind → List (Option ℕ) → List Entry → Type 0
AreClaims net kind slacks [] = ⊥
AreClaims net kind [] (e ∷ es) = ⊥
AreClaims net kind (slack ∷ slacks) (e ∷ es) =
    IsClaimFor net kind slack e ×
    (((e.reply ≡ Claimed) × (es ≡ [])) ⊎ (IsFull e.reply × AreClaims net kind slacks es))

-- a turn of a net: in round 0 a claim of its pattern plan at any demand; later its release, and claims of its maze
-- plans
abbrev pub IsTurnOf : ℕ → ℕ → List Entry → Type 0
IsTurnOf zero net es = AreClaims net (kind_of 0) (None ∷ []) es
IsTurnOf (suc r) net [] = ⊥
IsTurnOf (suc r) net (e ∷ es) =
    (e.call ≡ Release net) × (e.reply ≡ Released) × AreClaims net (kind_of (suc r)) slacks_of_turn es

-- turns in a round, one after another
pub data AreTurnsOf (round : ℕ) : List Entry → Type 0 where
  NoTurns : AreTurnsOf round []
  MoreTurns : (net : ℕ) (turn rest : List Entry) → IsTurnOf round net turn → AreTurnsOf round rest →
      AreTurnsOf round (turn ++ rest)
