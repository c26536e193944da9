-- The steps of rounds in batches: claims, turns, batches, rounds.
use Rattle.std.proofs.Common.{◌≡◌, ℕ, ◌+◌, ◌<◌, ◌≤◌, inl, inr, append-nil, length-append, Bool, true, false, cond, ◌&&◌, nat_lt, ◌==◌, min, List, [], ◌∷◌, ◌++◌, length, get_or, take, drop, filter, Option, Some, None, if◌then◌else◌, refl, sym, ap, subst, ◌∙◌, arith}
use Rattle.std.proofs.Math.Seq.{take-append_seam, drop-append_seam}
use Rattle.std.specs.List.{range_with_len}
use Rattle.std.proofs.lemmas.Bool.{cases_lt, both_ways}
use Rattle.std.proofs.lemmas.Bool.Decides.{nat_tests}
use Rattle.std.proofs.lemmas.List.{at_drop_more, drop_all, take_all, nil_from_length, length-map}
use Rattle.std.proofs.lemmas.List.FromFn.{length-range_with_len}
use Rattle.gr_base.proofs.DesignLemmas.{routed-net}
use Rattle.gr_base.specs.Designs.{DesignView, is_routed}
use Rattle.gr_base.specs.Limits.{most_nets}
use Rattle.gr_base.specs.Trees.{TreeView, tree_at}
use Rattle.gr_base.specs.declared.frame.Net.{Net}
use Rattle.grid_demand.specs.Tables.{CapacityView, capacity_of}
use Rattle.book_state.specs.Books.{nets_of, booked, reply_to, is_victim, victims, IsClaim}
use Rattle.book_state.specs.Entries.{is_full_reply}
use Rattle.book_state.specs.declared.entry.Call.TheVariants.{Claim as Claims, Mark}
use Rattle.book_state.specs.declared.entry.Claim.{Claim}
use Rattle.book_state.specs.declared.entry.Entry.{Entry}
use Rattle.book_state.specs.declared.entry.PlanKind.{PlanKind}
use Rattle.book_state.specs.declared.entry.PlanKind.TheVariants.{Given}
use Rattle.book_state.specs.declared.entry.Reply.{Reply}
use Rattle.book_state.specs.declared.entry.Reply.TheVariants.{Claimed}
use Rattle.book_state.specs.Views.{entry_of}
use Rattle.run_histories.specs.Attempts.{kind_of}
use Rattle.run_histories.specs.Rounds.{marker, claim_of, IsPlanFor}
use Rattle.batch_rounds.specs.BatchedHistories.{Batching, capacity_in, claims_given, claimant, after_call, after_claim, is_refused, IsClaimOver, at_any_demand, first_slack, IsClaimedAlone, IsTurn, AreTurns, IsBatch, AreBatches, nets_due, IsRound, goes_on}
use Rattle.batch_rounds.specs.BatchedHistories.IsClaimedAlone.{Fits, Is_forced}
use Rattle.batch_rounds.specs.BatchedHistories.IsTurn.{Is_first, Goes_on}
use Rattle.batch_rounds.specs.BatchedHistories.AreTurns.{No_turns, Next_turn}
use Rattle.batch_rounds.specs.BatchedHistories.AreBatches.{Next_batch}
use Rattle.batch_rounds.specs.BatchedHistories.AreRounds.{Last_round, Next_round}
use Rattle.batch_rounds.specs.Rounds.{HasRun}
use Rattle.run_histories.specs.GivenRoutes.{IsGivenRoute, given_to, is_open, open_nets, with_given, given_among}
use Rattle.run_histories.proofs.GivenLemmas.{among-more, among-later}
use Rattle.run_histories.proofs.TurnLemmas.{unbounded-claimed, routed-within}

-- a claim that was added, with its reply, after a history
pub record IsAdded (t : Batching) (h : List Entry) (claim : Claim) (reply : Reply) (new : List Entry) : Type 0 where
  pub after : new ≡ after_claim t h claim
  pub refused : is_refused t h claim ≡ is_full_reply reply

pub is-added : (t : Batching) (c : CapacityView) (h : List Entry) (claim : Claim) (reply : Reply) (new : List Entry) → c ≡ capacity_in t →
    reply ≡ reply_to c h (Claims claim) → new ≡ after_call c h claimant (Claims claim) → IsAdded t h claim reply new
is-added t c h claim reply new is said there = record {
  after = there ∙ ap (λ (v : CapacityView). after_call v h claimant (Claims claim)) is;
  refused = sym (ap is_full_reply (said ∙ ap (λ (v : CapacityView). reply_to v h (Claims claim)) is));
}

-- a claim of a net for its plan over a history
pub claim-over : (t : Batching) (round net : ℕ) (want slack : Option ℕ) (front : ℕ) (kind : PlanKind) (h : List Entry) (tree : TreeView) → IsPlanFor t.design t.formula h net (kind_of round) tree →
    slack ≡ want → front ≡ length h → kind ≡ kind_of round → IsClaimOver t round net want h (claim_of net tree slack front kind)
claim-over t round net want slack front kind h tree plan slack_is front_is kind_is = record {
  tree = tree;
  planned = plan;
  claim_is =
      ap (λ (s : Option ℕ). claim_of net tree s front kind) slack_is
      ∙ ap (λ (f : ℕ). claim_of net tree want f kind) front_is
      ∙ ap (λ (k : PlanKind). claim_of net tree want (length h) k) kind_is;
}

-- a net's claims
pub turn-first : (t : Batching) (round net : ℕ) (front h new : List Entry) (claim : Claim) (reply : Reply) → IsClaimOver t round net (first_slack round) front claim →
    IsAdded t h claim reply new → is_full_reply reply ≡ false → IsTurn t round front net h new
turn-first t round net front h new claim reply is added fits =
    subst (IsTurn t round front net h) (sym added.after) (Is_first claim is (added.refused ∙ fits))

pub turn-on : (t : Batching) (round net : ℕ) (front h new after : List Entry) (claim : Claim) (reply : Reply) → IsClaimOver t round net (first_slack round) front claim →
    IsAdded t h claim reply new → is_full_reply reply ≡ true → IsClaimedAlone t round net new after → IsTurn t round front net h after
turn-on t round net front h new after claim reply is added full alone =
    Goes_on claim is (added.refused ∙ full) (subst (λ (x : List Entry). IsClaimedAlone t round net x after) added.after alone)

pub alone-fits : (t : Batching) (round net : ℕ) (h new : List Entry) (claim : Claim) (reply : Reply) → IsClaimOver t round net (Some 0) h claim →
    IsAdded t h claim reply new → is_full_reply reply ≡ false → IsClaimedAlone t round net h new
alone-fits t round net h new claim reply is added fits = subst (IsClaimedAlone t round net h) (sym added.after) (Fits claim is (added.refused ∙ fits))

pub alone-forced : (t : Batching) (round net : ℕ) (h new after : List Entry) (claim forced : Claim) (reply last : Reply) → IsClaimOver t round net (Some 0) h claim →
    IsAdded t h claim reply new → is_full_reply reply ≡ true → forced ≡ at_any_demand new claim → IsAdded t new forced last after → IsClaimedAlone t round net h after
alone-forced t round net h new after claim forced reply last is added full forced_is said =
    let again : after ≡ after_claim t (after_claim t h claim) (at_any_demand (after_claim t h claim) claim) =
    said.after ∙ ap (λ (c : Claim). after_claim t new c) forced_is ∙ ap (λ (x : List Entry). after_claim t x (at_any_demand x claim)) added.after in
    subst (IsClaimedAlone t round net h) (sym again) (Is_forced claim is (added.refused ∙ full))

-- turns, one after another: what goes on from here goes on from the first
module _ (t : Batching) (round : ℕ) (front start : List Entry) (nets : List ℕ) where
  abbrev pub TurnsGoOn : ℕ → List Entry → Type 0
  TurnsGoOn place now = (after : List Entry) → AreTurns t round front (drop place nets) now after → AreTurns t round front nets start after

  pub turns-more : (place d : ℕ) (now new : List Entry) → place < length nets → IsTurn t round front (get_or nets place d) now new → TurnsGoOn place now → TurnsGoOn (place + 1) new
  turns-more place d now new below turn on after rest =
      on after (subst (λ (xs : List ℕ). AreTurns t round front xs now after) (sym (at_drop_more (λ (xs : List ℕ). xs) nets place d below))
      (Next_turn (get_or nets place d) (drop (place + 1) nets) turn rest))

  pub turns-all : (place : ℕ) (now : List Entry) → length nets ≤ place → TurnsGoOn place now → AreTurns t round front nets start now
  turns-all place now past on = on now (subst (λ (xs : List ℕ). AreTurns t round front xs now now) (sym (drop_all place nets past)) No_turns)

-- a list is cut behind its first part
cut-first : (n : ℕ) (first later : List ℕ) → length first ≡ min n (length (first ++ later)) → take n (first ++ later) ≡ first
cut-first n first later long = elim (cases_lt (length (first ++ later)) n) [
  | inl short ↦
      let all = length-append first later in
      let none : later ≡ [] = nil_from_length later (omega (arith, short, all, long)) in
      take_all n (first ++ later) (omega (arith, short)) ∙ ap (λ (xs : List ℕ). first ++ xs) none ∙ append-nil first
  | inr whole ↦
      let is : length first ≡ n = omega (arith, whole, long) in
      ap (λ (k : ℕ). take k (first ++ later)) (sym is) ∙ take-append_seam first later
]

cut-later : (n : ℕ) (first later : List ℕ) → length first ≡ min n (length (first ++ later)) → drop n (first ++ later) ≡ later
cut-later n first later long = elim (cases_lt (length (first ++ later)) n) [
  | inl short ↦
      let all = length-append first later in
      let none : later ≡ [] = nil_from_length later (omega (arith, short, all, long)) in
      drop_all n (first ++ later) (omega (arith, short)) ∙ sym none
  | inr whole ↦
      let is : length first ≡ n = omega (arith, whole, long) in
      ap (λ (k : ℕ). drop k (first ++ later)) (sym is) ∙ drop-append_seam first later
]

-- batches
module _ (t : Batching) (round : ℕ) (start : List Entry) (nets : List ℕ) where
  abbrev pub BatchesGoOn : List ℕ → List Entry → Type 0
  BatchesGoOn rest now = (after : List Entry) → AreBatches t round rest now after → AreBatches t round nets start after

  pub batches-more : (rest batch left : List ℕ) (now new : List Entry) → rest ≡ batch ++ left → length batch ≡ min t.batch (length rest) → 0 < length rest →
      IsBatch t round batch now new → BatchesGoOn rest now → BatchesGoOn left new
  batches-more rest batch left now new parts long some made on after more =
      on after (Next_batch rest some
      (subst (λ (xs : List ℕ). IsBatch t round xs now new) (sym first) made)
      (subst (λ (xs : List ℕ). AreBatches t round xs new after) (sym later) more))
    where
      first : take t.batch rest ≡ batch
      first = ap (take t.batch) parts ∙ cut-first t.batch batch left (long ∙ ap (λ (xs : List ℕ). min t.batch (length xs)) parts)

      later : drop t.batch rest ≡ left
      later = ap (drop t.batch) parts ∙ cut-later t.batch batch left (long ∙ ap (λ (xs : List ℕ). min t.batch (length xs)) parts)

-- a round's batches and its mark
pub round-marked : (t : Batching) (round : ℕ) (h unmarked new : List Entry) (c : CapacityView) (nets : List ℕ) → c ≡ capacity_in t → nets ≡ nets_due t round h → AreBatches t round nets h unmarked →
    new ≡ after_call c unmarked marker Mark → IsRound t round h new
round-marked t round h unmarked new c nets is due batches marked = record {
  unmarked = unmarked;
  batches = subst (λ (ns : List ℕ). AreBatches t round ns h unmarked) due batches;
  marked = marked ∙ ap (λ (v : CapacityView). after_call v unmarked marker Mark) is;
}

-- rounds
pub run-first : (t : Batching) (h : List Entry) → IsRound t 0 (claims_given t) h → HasRun t 0 h
run-first t h one = record {
  more = λ on after rest. Next_round one on rest;
  over = λ off. Last_round one off;
}

pub run-more : (t : Batching) (done : ℕ) (h new : List Entry) → HasRun t done h → goes_on t done h ≡ true → IsRound t (done + 1) h new → HasRun t (done + 1) new
run-more t done h new run on next = record {
  more = λ more after rest. run.more on after (Next_round next more rest);
  over = λ off. run.more on new (Last_round next off);
}

-- no more victims than nets
few-kept : (p : ℕ → Bool) (xs : List ℕ) → length (filter p xs) ≤ length xs
few-kept p [] = omega arith
few-kept p (x ∷ xs) = by (p x) (few-kept p xs)
  where
    by : (b : Bool) → length (filter p xs) ≤ length xs → length (cond b (x ∷ filter p xs) (filter p xs)) ≤ length (x ∷ xs)
    by true few = omega (arith, few)
    by false few = omega (arith, few)

pub few-victims : (d : DesignView) (h : List Entry) (nets : List ℕ) → nets ≡ victims (capacity_of d) h → length d.nets ≤ most_nets → length nets ≤ most_nets
few-victims d h nets are most =
    let all = ap (λ (xs : List ℕ). length xs) are in
    let few = few-kept (is_victim (capacity_of d) h) (range_with_len 0 (nets_of (capacity_of d))) in
    let long = length-range_with_len 0 (nets_of (capacity_of d)) in
    let widths = length-map d.nets (λ (net : Net). net.width) in
    omega (arith, all, few, long, widths, most)

pub few-open : (d : DesignView) (given : List (Option TreeView)) (nets : List ℕ) → nets ≡ open_nets d given → length d.nets ≤ most_nets → length nets ≤ most_nets
few-open d given nets are most =
    let all = ap (λ (xs : List ℕ). length xs) are in
    let few = few-kept (is_open d given) (range_with_len 0 (length d.nets)) in
    let long = length-range_with_len 0 (length d.nets) in
    omega (arith, all, few, long, most)

-- rounds go on where there are victims and rounds left
pub goes-on : (t : Batching) (done count : ℕ) (h : List Entry) (nets : List ℕ) → done < t.rounds → nets ≡ victims (capacity_in t) h → count ≡ length nets → false ≡ (count == 0) → goes_on t done h ≡ true
goes-on t done count h nets left are long some =
    both (nat_lt done t.rounds) (nat_lt 0 (length (victims (capacity_in t) h))) (grind (arith, nat_tests))
    (ap (λ (xs : List ℕ). nat_lt 0 (length xs)) (sym are) ∙ (let more : 0 < length nets = (let any : 0 < count = grind (arith, nat_tests) in omega (arith, any, long)) in grind (arith, nat_tests)))
  where
    both : (a b : Bool) → a ≡ true → b ≡ true → (a && b) ≡ true
    both true b first second = second
    both false b first second = first

pub stops-last : (t : Batching) (done : ℕ) (h : List Entry) → t.rounds ≤ done → goes_on t done h ≡ false
stops-last t done h past = by (nat_lt done t.rounds) (grind (arith, nat_tests))
  where
    by : (a : Bool) → a ≡ false → (a && nat_lt 0 (length (victims (capacity_in t) h))) ≡ false
    by true is = absurd (both_ways true is refl)
    by false is = refl

-- the claims of given trees, one after another
pub given-passed : (d : DesignView) (given : List (Option TreeView)) (n : ℕ) → tree_at given n ≡ None → given_among d given (n + 1) ≡ given_among d given n
given-passed d given n none =
    among-more d given n ∙ ap (λ (o : Option TreeView). with_given (given_among d given n) n o) (by (is_routed d n))
  where
    by : (b : Bool) → (if b then tree_at given n else None) ≡ None
    by true = none
    by false = refl

-- such a claim is in range, and gets its tree
pub given-in_range : (d : DesignView) (c : CapacityView) (n : ℕ) (tree copy : TreeView) (front : ℕ) (h : List Entry) → c ≡ capacity_of d → IsGivenRoute d n tree → copy ≡ tree → front ≡ length h →
    IsClaim c (length h) (claim_of n copy None front Given)
given-in_range d c n tree copy front h is route same long =
    let one = routed-net d n route.routed in
    record {
      net = routed-within d c n is route.routed;
      shape = ap (λ (t : TreeView). t.shape) same ∙ (route.routes one.net one.there).shape ∙ sym (ap (λ (v : CapacityView). v.shape) is);
      front = omega (arith, long);
    }

pub given-claimed : (d : DesignView) (given : List (Option TreeView)) (c : CapacityView) (n : ℕ) (tree copy : TreeView) (front : ℕ) (h new : List Entry) → c ≡ capacity_of d → h ≡ given_among d given n →
    IsGivenRoute d n tree → tree_at given n ≡ Some tree → copy ≡ tree → front ≡ length h → new ≡ after_call c h claimant (Claims (claim_of n copy None front Given)) → new ≡ given_among d given (n + 1)
given-claimed d given c n tree copy front h new is before route there same long after =
    let claim : ℕ → TreeView → Claim = λ f t. claim_of n t None f Given in
    let free : booked h n ≡ None = ap (λ (k : List Entry). booked k n) before ∙ among-later d given n n (omega arith) in
    let to : given_to d given n ≡ Some tree = ap (λ (b : Bool). if b then tree_at given n else None) route.routed ∙ there in
    after ∙ ap (λ (r : Reply). h ++ entry_of claimant (Claims (claim front copy)) r ∷ []) (unbounded-claimed c h (claim front copy) free refl)
    ∙ ap (λ (t : TreeView). h ++ entry_of claimant (Claims (claim front t)) Claimed ∷ []) same
    ∙ ap (λ (f : ℕ). h ++ entry_of claimant (Claims (claim f tree)) Claimed ∷ []) long
    ∙ ap (λ (k : List Entry). k ++ entry_of claimant (Claims (claim (length k) tree)) Claimed ∷ []) before
    ∙ sym (among-more d given n ∙ ap (λ (o : Option TreeView). with_given (given_among d given n) n o) to)
