-- A batched history begins with the claims of the given trees, then with claims of open nets up to its first mark.
use Rattle.std.proofs.Common.{◌≡◌, ℕ, zero, suc, ◌+◌, true, false, List, [], ◌∷◌, ◌++◌, length, take, drop, All, None, refl, sym, ap, subst, ◌∙◌, arith, append_assoc}
use Rattle.std.specs.List.{range_with_len}
use Rattle.std.proofs.lemmas.Bool.{both_ways}
use Rattle.std.proofs.lemmas.List.{append-nil}
use Rattle.std.proofs.lemmas.List.Elements.{All-nil, All-cons, All-append, All-head, All-tail, All-take, All-drop, filter_passes}
use Rattle.book_state.specs.Books.{reply_to}
use Rattle.book_state.specs.Entries.{is_mark}
use Rattle.book_state.specs.Views.{entry_of}
use Rattle.book_state.specs.declared.entry.Call.TheVariants.{Claim as Claims, Release, Mark}
use Rattle.book_state.specs.declared.entry.Claim.{Claim}
use Rattle.book_state.specs.declared.entry.Entry.{Entry}
use Rattle.run_histories.specs.GivenRoutes.{is_open, open_nets}
use Rattle.run_histories.specs.Rounds.{marker}
use Rattle.batch_rounds.proofs.HeldNets.{forced-fits}
use Rattle.batch_rounds.proofs.RoundSteps.{stops-last}
use Rattle.batch_rounds.specs.BatchedHistories.{Batching, capacity_in, claims_given, claimant, after_call, after_claim, after_mark, after_releases, is_refused, IsClaimOver, IsClaimedAlone, IsTurn, AreTurns, opened, AreBatches, nets_due, IsRound, goes_on, AreRounds, IsBatched}
use Rattle.batch_rounds.specs.BatchedHistories.IsClaimedAlone.{Fits, Is_forced}
use Rattle.batch_rounds.specs.BatchedHistories.IsTurn.{Is_first, Goes_on}
use Rattle.batch_rounds.specs.BatchedHistories.AreTurns.{No_turns, Next_turn}
use Rattle.batch_rounds.specs.BatchedHistories.AreBatches.{No_batch, Next_batch}
use Rattle.batch_rounds.specs.BatchedHistories.AreRounds.{Last_round, Next_round}
use Rattle.given_laws.proofs.OpenClaims.{BeginsOpen, IsGridTree, IsOpenClaim}

-- a history goes on with entries of which each is such a one
record GoesOnWith (P : Entry → Type 0) (h after : List Entry) : Type 0 where
  more : List Entry
  after_is : after ≡ h ++ more
  each : All P more

with-none : (P : Entry → Type 0) (h : List Entry) → GoesOnWith P h h
with-none P h = record { more = []; after_is = sym (append-nil h); each = All-nil P }

with-one : (P : Entry → Type 0) (h : List Entry) (e : Entry) → P e → GoesOnWith P h (h ++ e ∷ [])
with-one P h e is = record { more = e ∷ []; after_is = refl; each = All-cons P e [] is (All-nil P) }

with-both : (P : Entry → Type 0) (h between after : List Entry) → GoesOnWith P h between → GoesOnWith P between after → GoesOnWith P h after
with-both P h between after one two = record {
  more = one.more ++ two.more;
  after_is = two.after_is ∙ ap (λ (k : List Entry). k ++ two.more) one.after_is ∙ append_assoc h one.more two.more;
  each = All-append P one.more two.more one.each two.each;
}

-- ---- rounds only add entries

abbrev IsAny : Entry → Type 0
IsAny e = Unit {0}

alone-on : (t : Batching) (round net : ℕ) (h after : List Entry) → IsClaimedAlone t round net h after → GoesOnWith IsAny h after
alone-on t round net h _ (Fits claim is fits) = with-one IsAny h _ tt
alone-on t round net h _ (Is_forced claim is full) =
    let between = after_claim t h claim in
    with-both IsAny h between _ (with-one IsAny h _ tt) (with-one IsAny between _ tt)

turn-on : (t : Batching) (round net : ℕ) (front h after : List Entry) → IsTurn t round front net h after → GoesOnWith IsAny h after
turn-on t round net front h _ (Is_first claim is fits) = with-one IsAny h _ tt
turn-on t round net front h after (Goes_on claim is full alone) =
    let between = after_claim t h claim in
    with-both IsAny h between after (with-one IsAny h _ tt) (alone-on t round net between after alone)

turns-on : (t : Batching) (round : ℕ) (front : List Entry) (nets : List ℕ) (h after : List Entry) → AreTurns t round front nets h after → GoesOnWith IsAny h after
turns-on t round front _ h _ No_turns = with-none IsAny h
turns-on t round front _ h after (Next_turn {between = between} net nets turn turns) =
    with-both IsAny h between after (turn-on t round net front h between turn) (turns-on t round front nets between after turns)

releases-on : (t : Batching) (nets : List ℕ) (h : List Entry) → GoesOnWith IsAny h (after_releases (capacity_in t) h nets)
releases-on t [] h = with-none IsAny h
releases-on t (net ∷ nets) h =
    let between = after_call (capacity_in t) h claimant (Release net) in
    with-both IsAny h between (after_releases (capacity_in t) between nets) (with-one IsAny h _ tt) (releases-on t nets between)

opened-on : (t : Batching) (round : ℕ) (nets : List ℕ) (h : List Entry) → GoesOnWith IsAny h (opened t round nets h)
opened-on t zero nets h = with-none IsAny h
opened-on t (suc round) nets h = releases-on t nets h

batches-on : (t : Batching) (round : ℕ) (nets : List ℕ) (h after : List Entry) → AreBatches t round nets h after → GoesOnWith IsAny h after
batches-on t round _ h _ No_batch = with-none IsAny h
batches-on t round nets h after (Next_batch {between = between} _ some batch batches) =
    let these : List ℕ = take t.batch nets in
    let front = opened t round these h in
    with-both IsAny h between after
    (with-both IsAny h front between (opened-on t round these h) (turns-on t round front these front between batch))
    (batches-on t round (drop t.batch nets) between after batches)

round-on : (t : Batching) (round : ℕ) (h after : List Entry) → IsRound t round h after → GoesOnWith IsAny h after
round-on t round h after one =
    subst (GoesOnWith IsAny h) (sym one.marked)
    (with-both IsAny h one.unmarked (after_mark t one.unmarked) (batches-on t round (nets_due t round h) h one.unmarked one.batches) (with-one IsAny one.unmarked _ tt))

rounds-on : (t : Batching) (round : ℕ) (h after : List Entry) → AreRounds t round h after → GoesOnWith IsAny h after
rounds-on t round h after (Last_round one over) = round-on t round h after one
rounds-on t round h after (Next_round {between = between} one on rest) =
    with-both IsAny h between after (round-on t round h between one) (rounds-on t (round + 1) between after rest)

-- ---- those of round 0 are claims of open nets

module _ (t : Batching) where
  abbrev IsOpen : ℕ → Type 0
  IsOpen net = is_open t.design t.given net ≡ true

  abbrev IsOf : Entry → Type 0
  IsOf = IsOpenClaim t.design t.given

  claim-of : (net : ℕ) (front h : List Entry) (claim : Claim) → IsOpen net → IsClaimOver t 0 net None front claim → IsOf (entry_of claimant (Claims claim) (reply_to (capacity_in t) h (Claims claim)))
  claim-of net front h claim opens is = record {
    claim = claim;
    call_is = refl;
    is_of_open = ap (λ (c : Claim). is_open t.design t.given c.net) is.claim_is ∙ opens;
    tree = subst (λ (c : Claim). IsGridTree t.design c.tree) (sym is.claim_is) (is.planned.plan.plan.tree, is.planned.plan.plan.shape);
  }

  first-turn : (net : ℕ) (front h after : List Entry) → IsOpen net → IsTurn t 0 front net h after → GoesOnWith IsOf h after
  first-turn net front h _ opens (Is_first claim is fits) = with-one IsOf h _ (claim-of net front h claim opens is)
  first-turn net front h after opens (Goes_on claim is full alone) =
      absurd (both_ways (is_refused t h claim) (forced-fits t h claim (ap (λ (c : Claim). c.slack) is.claim_is)) full)

  first-turns : (front : List Entry) (nets : List ℕ) (h after : List Entry) → All IsOpen nets → AreTurns t 0 front nets h after → GoesOnWith IsOf h after
  first-turns front _ h _ opens No_turns = with-none IsOf h
  first-turns front _ h after opens (Next_turn {between = between} net nets turn turns) =
      with-both IsOf h between after (first-turn net front h between (All-head IsOpen net nets opens) turn)
      (first-turns front nets between after (All-tail IsOpen net nets opens) turns)

  first-batches : (nets : List ℕ) (h after : List Entry) → All IsOpen nets → AreBatches t 0 nets h after → GoesOnWith IsOf h after
  first-batches _ h _ opens No_batch = with-none IsOf h
  first-batches nets h after opens (Next_batch {between = between} _ some batch batches) =
      with-both IsOf h between after (first-turns h (take t.batch nets) h between (All-take IsOpen t.batch nets opens) batch)
      (first-batches (drop t.batch nets) between after (All-drop IsOpen t.batch nets opens) batches)

  open-all : All IsOpen (open_nets t.design t.given)
  open-all = filter_passes (is_open t.design t.given) (range_with_len 0 (length t.design.nets))

  -- a history that goes on behind round 0
  from-round : (h between rest : List Entry) → IsRound t 0 (claims_given t) between → h ≡ between ++ rest → (t.rounds ≡ 0 → All (λ (e : Entry). is_mark e ≡ false) rest) →
      BeginsOpen t.design t.given t.rounds h
  from-round h between rest one is alone =
      let firsts = first-batches (open_nets t.design t.given) (claims_given t) one.unmarked open-all one.batches in
      let mark = entry_of marker Mark (reply_to (capacity_in t) one.unmarked Mark) in
      record {
        firsts = firsts.more;
        mark = mark;
        rest = rest;
        history_is =
            is ∙ ap (λ (k : List Entry). k ++ rest) one.marked ∙ append_assoc one.unmarked (mark ∷ []) rest
            ∙ ap (λ (k : List Entry). k ++ mark ∷ rest) firsts.after_is;
        open_claims = firsts.each;
        marked = refl;
        alone = alone;
      }

  from-rounds : (h : List Entry) → AreRounds t 0 (claims_given t) h → BeginsOpen t.design t.given t.rounds h
  from-rounds h (Last_round one over) = from-round h h [] one (sym (append-nil h)) (λ none. All-nil (λ (e : Entry). is_mark e ≡ false))
  from-rounds h (Next_round {between = between} one on rest) =
      let more = rounds-on t 1 between h rest in
      from-round h between more.more one more.after_is
      (λ none. absurd (both_ways (goes_on t 0 between) (stops-last t 0 between (omega (arith, none))) on))

pub batch-begins : (t : Batching) (h : List Entry) → IsBatched t h → BeginsOpen t.design t.given t.rounds h
batch-begins t h batched = from-rounds t h batched
