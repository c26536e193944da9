-- Histories of rounds that plan their nets in batches.
use Rattle.std.specs.Prelude.{◌≡◌, ℕ, zero, suc, ◌+◌, ◌<◌, Bool, true, false, ◌&&◌, nat_lt, List, [], ◌∷◌, ◌++◌, length, take, drop, Option, Some, None, if◌then◌else◌}
use Rattle.cost_rules.specs.declared.site.Formula.{Formula}
use Rattle.gr_base.specs.Designs.{DesignView}
use Rattle.gr_base.specs.Trees.{TreeView}
use Rattle.grid_demand.specs.Tables.{CapacityView, capacity_of}
use Rattle.book_state.specs.Books.{reply_to, victims}
use Rattle.book_state.specs.Entries.{is_mark, is_full_reply}
use Rattle.book_state.specs.Views.{entry_of}
use Rattle.book_state.specs.declared.entry.Call.{Call}
use Rattle.book_state.specs.declared.entry.Call.TheVariants.{Claim as Claims, Release, Mark}
use Rattle.book_state.specs.declared.entry.Claim.{Claim}
use Rattle.book_state.specs.declared.entry.Entry.{Entry}
use Rattle.run_histories.specs.Attempts.{kind_of}
use Rattle.run_histories.specs.Rounds.{marker, claim_of, IsPlanFor}
use Rattle.run_histories.specs.GivenRoutes.{open_nets, given_claims}

-- what is asked for: the design, the trees that nets are given, the formula of the plans, at most how many rounds after
-- round 0, and how many nets a batch has
pub record Batching : Type 0 where
  pub design : DesignView
  pub given : List (Option TreeView)
  pub formula : Formula
  pub rounds : ℕ
  pub batch : ℕ

abbrev pub batches_of : DesignView → List (Option TreeView) → Formula → ℕ → ℕ → Batching
batches_of d given formula rounds batch =
    record { design = d; given = given; formula = formula; rounds = rounds; batch = batch }

abbrev pub capacity_in : Batching → CapacityView
capacity_in t = capacity_of t.design

-- the number of the one who releases and claims
abbrev pub claimant : ℕ
claimant = 1

-- marks are the marker's, and releases and claims the claimant's
abbrev pub IsNumbered : Entry → Type 0
IsNumbered e = e.number ≡ (if is_mark e then marker else claimant)

-- the history with a call, and the reply that the calls before give it
abbrev pub after_call : CapacityView → List Entry → ℕ → Call → List Entry
after_call c h number call = h ++ entry_of number call (reply_to c h call) ∷ []

abbrev pub after_claim : Batching → List Entry → Claim → List Entry
after_claim t h claim = after_call (capacity_in t) h claimant (Claims claim)

abbrev pub after_mark : Batching → List Entry → List Entry
after_mark t h = after_call (capacity_in t) h marker Mark

-- the history with a release of each of these nets, in order
abbrev pub after_releases : CapacityView → List Entry → List ℕ → List Entry
after_releases c h [] = h
after_releases c h (net ∷ nets) = after_releases c (after_call c h claimant (Release net)) nets

-- a claim after this history finds no room
abbrev pub is_refused : Batching → List Entry → Claim → Bool
is_refused t h claim = is_full_reply (reply_to (capacity_in t) h (Claims claim))

-- a claim of a net at this slack for its plan in a round over this history, whose length is the claim's front
pub record IsClaimOver (t : Batching) (round net : ℕ) (slack : Option ℕ) (h : List Entry) (claim : Claim) : Type 0 where
  pub tree : TreeView
  pub planned : IsPlanFor t.design t.formula h net (kind_of round) tree
  pub claim_is : claim ≡ claim_of net tree slack (length h) (kind_of round)

-- the same claim at any demand, with this history's length as front
abbrev pub at_any_demand : List Entry → Claim → Claim
at_any_demand h claim = claim_of claim.net claim.tree None (length h) claim.kind

-- a net is claimed alone: for its plan over the history so far, within capacity; and where that is answered Full, for
-- the same tree at any demand
pub data IsClaimedAlone (t : Batching) (round net : ℕ) (h : List Entry) : List Entry → Type 0 where
  Fits : (claim : Claim) → IsClaimOver t round net (Some 0) h claim → is_refused t h claim ≡ false →
      IsClaimedAlone t round net h (after_claim t h claim)
  Is_forced : (claim : Claim) → IsClaimOver t round net (Some 0) h claim → is_refused t h claim ≡ true →
      IsClaimedAlone t round net h
      (after_claim t (after_claim t h claim) (at_any_demand (after_claim t h claim) claim))

-- the slack of a net's first claim: in round 0 any demand will do, later the claim has to fit within capacity
abbrev pub first_slack : ℕ → Option ℕ
first_slack zero = None
first_slack (suc round) = Some 0

-- a net's claims in a batch that is planned from `front`: for its plan over that; and where that is answered Full, it
-- is claimed alone
pub data IsTurn (t : Batching) (round : ℕ) (front : List Entry) (net : ℕ) (h : List Entry) : List Entry → Type 0 where
  Is_first : (claim : Claim) → IsClaimOver t round net (first_slack round) front claim →
      is_refused t h claim ≡ false → IsTurn t round front net h (after_claim t h claim)
  Goes_on : {after : List Entry} → (claim : Claim) → IsClaimOver t round net (first_slack round) front claim →
      is_refused t h claim ≡ true → IsClaimedAlone t round net (after_claim t h claim) after →
      IsTurn t round front net h after

-- the claims of these nets, in order
pub data AreTurns (t : Batching) (round : ℕ) (front : List Entry) : List ℕ → List Entry → List Entry → Type 0 where
  No_turns : {h : List Entry} → AreTurns t round front [] h h
  Next_turn : {h between after : List Entry} → (net : ℕ) (nets : List ℕ) → IsTurn t round front net h between →
      AreTurns t round front nets between after → AreTurns t round front (net ∷ nets) h after

-- the history from which a batch is planned: in round 0 the one so far, later that with a release of each of its nets
abbrev pub opened : Batching → ℕ → List ℕ → List Entry → List Entry
opened t zero nets h = h
opened t (suc round) nets h = after_releases (capacity_in t) h nets

abbrev pub IsBatch : Batching → ℕ → List ℕ → List Entry → List Entry → Type 0
IsBatch t round nets h after =
    let front = opened t round nets h in AreTurns t round front nets front after

-- these nets are cut into batches, the last perhaps smaller, which come one after another
pub data AreBatches (t : Batching) (round : ℕ) : List ℕ → List Entry → List Entry → Type 0 where
  No_batch : {h : List Entry} → AreBatches t round [] h h
  Next_batch : {h between after : List Entry} → (nets : List ℕ) → 0 < length nets →
      IsBatch t round (take t.batch nets) h between → AreBatches t round (drop t.batch nets) between after →
      AreBatches t round nets h after

-- the nets that are due after the marks so far: in round 0 the open ones, later the victims
abbrev pub nets_due : Batching → ℕ → List Entry → List ℕ
nets_due t zero h = open_nets t.design t.given
nets_due t (suc round) h = victims (capacity_in t) h

-- a round: the batches of the nets that are due, and a mark
pub record IsRound (t : Batching) (round : ℕ) (h after : List Entry) : Type 0 where
  pub unmarked : List Entry
  pub batches : AreBatches t round (nets_due t round h) h unmarked
  pub marked : after ≡ after_mark t unmarked

-- rounds go on while there are victims and fewer were done after round 0 than may be
abbrev pub goes_on : Batching → ℕ → List Entry → Bool
goes_on t round h = nat_lt round t.rounds && nat_lt 0 (length (victims (capacity_in t) h))

-- this round, and the further ones
pub data AreRounds (t : Batching) : ℕ → List Entry → List Entry → Type 0 where
  Last_round : {round : ℕ} {h after : List Entry} → IsRound t round h after → goes_on t round after ≡ false →
      AreRounds t round h after
  Next_round : {round : ℕ} {h between after : List Entry} → IsRound t round h between →
      goes_on t round between ≡ true → AreRounds t (round + 1) between after → AreRounds t round h after

-- a batched history: the claims of the given trees, and the rounds from round 0 on
abbrev pub claims_given : Batching → List Entry
claims_given t = given_claims t.design t.given

abbrev pub IsBatched : Batching → List Entry → Type 0
IsBatched t h = AreRounds t 0 (claims_given t) h
