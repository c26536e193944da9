-- Which nets are booked in rounds in batches: at each mark exactly the routed ones, each by a tree that routes it.
use Rattle.std.proofs.Common.{◌≡◌, ◌⊎◌, ℕ, zero, suc, ◌+◌, ◌≤◌, inl, inr, Bool, true, false, ◌||◌, ◌&&◌, ◌==◌, List, [], ◌∷◌, ◌++◌, length, take, drop, All, Option, Some, None, is_some, is_none, slice_get, IsSome, if◌then◌else◌, IsTrue, IsSomeAnd, refl, sym, ap, subst, ◌∙◌, arith}
use Rattle.std.specs.List.{range_with_len}
use Rattle.std.proofs.lemmas.Bool.{cases_Bool, both_ways, and_parts}
use Rattle.std.proofs.lemmas.Bool.Decides.{nat_tests}
use Rattle.std.proofs.lemmas.List.{take-append-drop, take-append-le, take_all, length_push}
use Rattle.std.proofs.lemmas.List.Elements.{All-head, All-tail, All-take, All-drop, All-weaker, filter_passes}
use Rattle.std.proofs.lemmas.List.Folds.{list_any-append}
use Rattle.std.proofs.lemmas.Option.{none-some, same_Some, slice_get_within}
use Rattle.gr_base.proofs.DesignLemmas.{get-push, routed-below}
use Rattle.gr_base.proofs.General.{some-and, and-some, is-some}
use Rattle.gr_base.specs.Designs.{DesignView, is_routed, AreRouted}
use Rattle.gr_base.specs.Plans.{IsRouteOfNet}
use Rattle.gr_base.specs.Trees.{TreeView, is_among, tree_at}
use Rattle.grid_demand.proofs.RangeFilters.{filter-has}
use Rattle.grid_demand.specs.Tables.{CapacityView}
use Rattle.book_state.proofs.BookSteps.{booked-push}
use Rattle.book_state.proofs.HistoryLists.{slice_get-right}
use Rattle.book_state.proofs.BookingLaws.{unbounded}
use Rattle.book_state.specs.Books.{booked_by, booked, reply_to, reply_to_claim, overflow_after, IsLegal}
use Rattle.book_state.specs.Entries.{is_mark, is_mark_call, is_full_reply}
use Rattle.book_state.specs.Marks.{least_mark}
use Rattle.book_state.specs.Views.{entry_of}
use Rattle.book_state.specs.declared.entry.Call.TheVariants.{Claim as Claims, Release, Mark}
use Rattle.book_state.specs.declared.entry.Claim.{Claim}
use Rattle.book_state.specs.declared.entry.Entry.{Entry}
use Rattle.book_state.specs.declared.entry.Reply.{Reply}
use Rattle.book_state.specs.declared.entry.Reply.TheVariants.{Claimed, Taken, Full, Released, NotBooked, Marked}
use Rattle.run_histories.proofs.StandLemmas.{mark-stands, victims-routed, least-call, least-place, some-least}
use Rattle.run_histories.proofs.TurnLemmas.{claim-answered}
use Rattle.run_histories.proofs.GivenLemmas.{IsOfGiven, given-no_mark, each-all, among-all, given-booked}
use Rattle.run_histories.specs.GivenRoutes.{AreGivenRoutes, given_to, is_open, open_nets}
use Rattle.run_histories.specs.Rounds.{marker}
use Rattle.run_histories.specs.Standing.{IsHeld, Stands}
use Rattle.batch_rounds.specs.BatchedHistories.{Batching, capacity_in, claims_given, claimant, IsNumbered, after_call, after_claim, after_mark, after_releases, is_refused, IsClaimOver, at_any_demand, IsClaimedAlone, IsTurn, AreTurns, opened, IsBatch, AreBatches, nets_due, IsRound, AreRounds, IsBatched}
use Rattle.batch_rounds.specs.BatchedHistories.IsClaimedAlone.{Fits, Is_forced}
use Rattle.batch_rounds.specs.BatchedHistories.IsTurn.{Is_first, Goes_on}
use Rattle.batch_rounds.specs.BatchedHistories.AreTurns.{No_turns, Next_turn}
use Rattle.batch_rounds.specs.BatchedHistories.AreBatches.{No_batch, Next_batch}
use Rattle.batch_rounds.specs.BatchedHistories.AreRounds.{Last_round, Next_round}
use Rattle.run_histories.proofs.KeptRules.{one-more}

abbrev pub IsBooked : List Entry → ℕ → Type 0
IsBooked h net = IsTrue (is_some (booked h net))

-- the booked nets are routed, each by a tree that routes it
abbrev pub AreRoutes : DesignView → List Entry → Type 0
AreRoutes d h = (net : ℕ) (tree : TreeView) → booked h net ≡ Some tree → IsTrue (is_routed d net) × IsRouteOfNet d net tree

-- each entry has its caller's number, and at each mark exactly the routed nets are booked, each by a tree that routes it
abbrev pub MarksStand : DesignView → List Entry → Type 0
MarksStand d h =
    (place : ℕ) (e : Entry) → slice_get h place ≡ Some e → IsNumbered e × (e.call ≡ Mark → Stands d (take (place + 1) h))

-- so it is where an entry comes that is no mark, or one at which this is so
marks-push : (d : DesignView) (h : List Entry) (e : Entry) → IsNumbered e → (e.call ≡ Mark → Stands d (h ++ e ∷ [])) → MarksStand d h → MarksStand d (h ++ e ∷ [])
marks-push d h e numbered own marks place x there = elim (get-push h e x place there) [
  | inl old ↦
      let within = slice_get_within h place x old in
      let before = marks place x old in (
        before.0,
        λ mark. subst (Stands d) (sym (take-append-le (place + 1) h (e ∷ []) (omega (arith, within)))) (before.1 mark),
      )
  | inr last ↦ (
    subst IsNumbered last.1 numbered,
    λ mark. subst (Stands d) (sym (take_all (place + 1) (h ++ e ∷ []) (let long = length_push h e in omega (arith, long, last.0))))
        (own (ap (λ (y : Entry). y.call) last.1 ∙ mark)),
  )
]

-- a history goes on without a mark, in which nets are booked by routes alone, and nets stay booked
record GoesOn (d : DesignView) (h after : List Entry) : Type 0 where
  routes : AreRoutes d h → AreRoutes d after
  kept : (net : ℕ) → IsBooked h net → IsBooked after net
  marks : MarksStand d h → MarksStand d after
  longer : length h ≤ length after

goes-on-none : (d : DesignView) (h : List Entry) → GoesOn d h h
goes-on-none d h = record { routes = λ are. are; kept = λ net held. held; marks = λ are. are; longer = omega arith }

goes-on-both : (d : DesignView) (h between after : List Entry) → GoesOn d h between → GoesOn d between after → GoesOn d h after
goes-on-both d h between after one two = record {
  routes = λ are. two.routes (one.routes are);
  kept = λ net held. two.kept net (one.kept net held);
  marks = λ are. two.marks (one.marks are);
  longer = let first = one.longer in let second = two.longer in omega (arith, first, second);
}

no-mark-claim : (claim : Claim) → Claims claim ≡ Mark → ⊥
no-mark-claim claim is = cc

no-mark-release : (net : ℕ) → Release net ≡ Mark → ⊥
no-mark-release net is = cc

-- what a claim, a release and a mark may do to a booking
pub claim-books : (net : ℕ) (old : Option TreeView) (claim : Claim) (reply : Reply) →
    (booked_by net old (Claims claim) reply ≡ old) ⊎ ((claim.net ≡ net) × (booked_by net old (Claims claim) reply ≡ Some claim.tree))
claim-books net old claim Claimed = elim (cases_Bool (claim.net == net)) [
  | inl same ↦ inr (grind (arith, nat_tests), ap (λ (b : Bool). if b then Some claim.tree else old) same)
  | inr other ↦ inl (ap (λ (b : Bool). if b then Some claim.tree else old) other)
]
claim-books net old claim Taken = inl refl
claim-books net old claim (Full edge demand) = inl refl
claim-books net old claim Released = inl refl
claim-books net old claim NotBooked = inl refl
claim-books net old claim (Marked overflow) = inl refl

release-books : (net : ℕ) (old : Option TreeView) (other : ℕ) (reply : Reply) →
    (booked_by net old (Release other) reply ≡ old) ⊎ (((other == net) ≡ true) × (booked_by net old (Release other) reply ≡ None))
release-books net old other Released = elim (cases_Bool (other == net)) [
  | inl same ↦ inr (same, ap (λ (b : Bool). if b then None else old) same)
  | inr apart ↦ inl (ap (λ (b : Bool). if b then None else old) apart)
]
release-books net old other Claimed = inl refl
release-books net old other Taken = inl refl
release-books net old other (Full edge demand) = inl refl
release-books net old other NotBooked = inl refl
release-books net old other (Marked overflow) = inl refl

-- a claim for a tree that routes its net
claim-goes_on : (t : Batching) (h : List Entry) (claim : Claim) → IsTrue (is_routed t.design claim.net) → IsRouteOfNet t.design claim.net claim.tree →
    GoesOn t.design h (after_claim t h claim)
claim-goes_on t h claim routed routes = record {
  routes = still;
  kept = kept;
  marks = marks-push t.design h (entry_of claimant (Claims claim) reply) refl (λ is. absurd (no-mark-claim claim is));
  longer = let long = length_push h (entry_of claimant (Claims claim) reply) in omega (arith, long);
}
  where
    reply : Reply
    reply = reply_to (capacity_in t) h (Claims claim)

    after : (net : ℕ) → booked (after_claim t h claim) net ≡ booked_by net (booked h net) (Claims claim) reply
    after net = booked-push h (entry_of claimant (Claims claim) reply) net

    still : AreRoutes t.design h → AreRoutes t.design (after_claim t h claim)
    still are net tree is = elim (claim-books net (booked h net) claim reply) [
      | inl same ↦ are net tree (sym same ∙ sym (after net) ∙ is)
      | inr new ↦
          let tree_is : claim.tree ≡ tree = same_Some claim.tree tree (sym new.1 ∙ sym (after net) ∙ is) in (
            subst (λ (n : ℕ). IsTrue (is_routed t.design n)) new.0 routed,
            subst (λ (u : TreeView). IsRouteOfNet t.design net u) tree_is (subst (λ (n : ℕ). IsRouteOfNet t.design n claim.tree) new.0 routes),
          )
    ]

    kept : (net : ℕ) → IsBooked h net → IsBooked (after_claim t h claim) net
    kept net held = elim (claim-books net (booked h net) claim reply) [
      | inl same ↦ ap (λ (o : Option TreeView). is_some o) (after net ∙ same) ∙ held
      | inr new ↦ ap (λ (o : Option TreeView). is_some o) (after net ∙ new.1)
    ]

-- a claim that isn't answered Full leaves its net booked
claim-held : (t : Batching) (h : List Entry) (claim : Claim) → IsTrue (is_routed t.design claim.net) → IsRouteOfNet t.design claim.net claim.tree →
    is_refused t h claim ≡ false → IsBooked (after_claim t h claim) claim.net
claim-held t h claim routed routes fits = by (booked h claim.net) refl
  where
    c : CapacityView
    c = capacity_in t

    by : (o : Option TreeView) → booked h claim.net ≡ o → IsBooked (after_claim t h claim) claim.net
    by (Some tree) is = (claim-goes_on t h claim routed routes).kept claim.net (ap (λ (o : Option TreeView). is_some o) is)
    by None is = elim (claim-answered c h claim is) [
      | inl got ↦
          let own : (claim.net == claim.net) ≡ true = grind (arith, nat_tests) in
          ap (λ (o : Option TreeView). is_some o)
          (booked-push h (entry_of claimant (Claims claim) (reply_to_claim c h claim)) claim.net
          ∙ ap (λ (r : Reply). booked_by claim.net (booked h claim.net) (Claims claim) r) got
          ∙ ap (λ (b : Bool). if b then Some claim.tree else booked h claim.net) own)
      | inr full ↦ absurd (both_ways (is_refused t h claim) fits full)
    ]

-- a claim at any demand is never answered Full
pub forced-fits : (t : Batching) (h : List Entry) (claim : Claim) → claim.slack ≡ None → is_refused t h claim ≡ false
forced-fits t h claim none = by (reply_to_claim (capacity_in t) h claim) refl
  where
    by : (reply : Reply) → reply_to_claim (capacity_in t) h claim ≡ reply → is_full_reply reply ≡ false
    by (Full edge demand) is = absurd (unbounded (capacity_in t) h claim none edge demand is)
    by Claimed is = refl
    by Taken is = refl
    by Released is = refl
    by NotBooked is = refl
    by (Marked overflow) is = refl

-- a turn leaves its net booked
record IsTurned (d : DesignView) (net : ℕ) (h after : List Entry) : Type 0 where
  goes_on : GoesOn d h after
  held : IsBooked after net

one-claim : (t : Batching) (round net : ℕ) (slack : Option ℕ) (front h : List Entry) (claim : Claim) → IsTrue (is_routed t.design net) →
    IsClaimOver t round net slack front claim → GoesOn t.design h (after_claim t h claim)
one-claim t round net slack front h claim routed is =
    claim-goes_on t h claim
    (subst (λ (c : Claim). IsTrue (is_routed t.design c.net)) (sym is.claim_is) routed)
    (subst (λ (c : Claim). IsRouteOfNet t.design c.net c.tree) (sym is.claim_is) is.planned.routes)

last-claim : (t : Batching) (round net : ℕ) (slack : Option ℕ) (front h : List Entry) (claim : Claim) → IsTrue (is_routed t.design net) →
    IsClaimOver t round net slack front claim → is_refused t h claim ≡ false → IsTurned t.design net h (after_claim t h claim)
last-claim t round net slack front h claim routed is fits = record {
  goes_on = one-claim t round net slack front h claim routed is;
  held = subst (λ (n : ℕ). IsBooked (after_claim t h claim) n) (ap (λ (c : Claim). c.net) is.claim_is)
      (claim-held t h claim
      (subst (λ (c : Claim). IsTrue (is_routed t.design c.net)) (sym is.claim_is) routed)
      (subst (λ (c : Claim). IsRouteOfNet t.design c.net c.tree) (sym is.claim_is) is.planned.routes) fits);
}

alone-turned : (t : Batching) (round net : ℕ) (h after : List Entry) → IsTrue (is_routed t.design net) → IsClaimedAlone t round net h after → IsTurned t.design net h after
alone-turned t round net h _ routed (Fits claim is fits) = last-claim t round net (Some 0) h h claim routed is fits
alone-turned t round net h _ routed (Is_forced claim is full) =
    let between = after_claim t h claim in
    let again = at_any_demand between claim in
    let of_net = subst (λ (c : Claim). IsTrue (is_routed t.design c.net)) (sym is.claim_is) routed in
    let of_tree = subst (λ (c : Claim). IsRouteOfNet t.design c.net c.tree) (sym is.claim_is) is.planned.routes in
    record {
      goes_on = goes-on-both t.design h between (after_claim t between again) (one-claim t round net (Some 0) h h claim routed is)
          (claim-goes_on t between again of_net of_tree);
      held = subst (λ (n : ℕ). IsBooked (after_claim t between again) n) (ap (λ (c : Claim). c.net) is.claim_is)
          (claim-held t between again of_net of_tree (forced-fits t between again refl));
    }

turn-turned : (t : Batching) (round net : ℕ) (front h after : List Entry) → IsTrue (is_routed t.design net) → IsTurn t round front net h after → IsTurned t.design net h after
turn-turned t round net front h _ routed (Is_first claim is fits) = last-claim t round net _ front h claim routed is fits
turn-turned t round net front h after routed (Goes_on claim is full alone) =
    let between = after_claim t h claim in
    let rest = alone-turned t round net between after routed alone in
    record {
      goes_on = goes-on-both t.design h between after (one-claim t round net _ front h claim routed is) rest.goes_on;
      held = rest.held;
    }

-- turns leave their nets booked
record AreTurned (d : DesignView) (nets : List ℕ) (h after : List Entry) : Type 0 where
  goes_on : GoesOn d h after
  held : (net : ℕ) → is_among nets net ≡ true → IsBooked after net

pub or-cases : (a b : Bool) → (a || b) ≡ true → (a ≡ true) ⊎ (b ≡ true)
or-cases true b is = inl refl
or-cases false b is = inr is

turns-turned : (t : Batching) (round : ℕ) (front : List Entry) (nets : List ℕ) (h after : List Entry) → AreRouted t.design nets → AreTurns t round front nets h after → AreTurned t.design nets h after
turns-turned t round front _ h _ routed No_turns = record {
  goes_on = goes-on-none t.design h;
  held = λ net among. absurd (both_ways false refl among);
}
turns-turned t round front _ h after routed (Next_turn {between = between} net nets turn turns) =
    let one = turn-turned t round net front h between (All-head (λ n. IsTrue (is_routed t.design n)) net nets routed) turn in
    let rest = turns-turned t round front nets between after (All-tail (λ n. IsTrue (is_routed t.design n)) net nets routed) turns in
    record {
      goes_on = goes-on-both t.design h between after one.goes_on rest.goes_on;
      held = λ other among. elim (or-cases (net == other) (is_among nets other) among) [
        | inl same ↦
            let is : net ≡ other = grind (arith, nat_tests) in
            rest.goes_on.kept other (subst (λ (n : ℕ). IsBooked between n) is one.held)
        | inr later ↦ rest.held other later
      ];
    }

-- releases leave the other nets booked
release-routes : (t : Batching) (h : List Entry) (other : ℕ) → AreRoutes t.design h → AreRoutes t.design (after_call (capacity_in t) h claimant (Release other))
release-routes t h other are net tree is =
    let reply = reply_to (capacity_in t) h (Release other) in
    elim (release-books net (booked h net) other reply) [
      | inl same ↦ are net tree (sym same ∙ sym (booked-push h (entry_of claimant (Release other) reply) net) ∙ is)
      | inr freed ↦ absurd (none-some tree (sym freed.1 ∙ sym (booked-push h (entry_of claimant (Release other) reply) net) ∙ is))
    ]

releases-routes : (t : Batching) (h : List Entry) (nets : List ℕ) → AreRoutes t.design h → AreRoutes t.design (after_releases (capacity_in t) h nets)
releases-routes t h [] are = are
releases-routes t h (other ∷ nets) are = releases-routes t (after_call (capacity_in t) h claimant (Release other)) nets (release-routes t h other are)

releases-marks : (t : Batching) (h : List Entry) (nets : List ℕ) → MarksStand t.design h → MarksStand t.design (after_releases (capacity_in t) h nets)
releases-marks t h [] are = are
releases-marks t h (other ∷ nets) are =
    releases-marks t (after_call (capacity_in t) h claimant (Release other)) nets
    (marks-push t.design h (entry_of claimant (Release other) (reply_to (capacity_in t) h (Release other))) refl (λ is. absurd (no-mark-release other is)) are)

releases-keep : (t : Batching) (h : List Entry) (nets : List ℕ) (net : ℕ) → is_among nets net ≡ false → IsBooked h net → IsBooked (after_releases (capacity_in t) h nets) net
releases-keep t h [] net apart held = held
releases-keep t h (other ∷ nets) net apart held =
    let two = or-none (other == net) (is_among nets net) apart in
    releases-keep t (after_call (capacity_in t) h claimant (Release other)) nets net two.1
    (elim (release-books net (booked h net) other reply) [
      | inl same ↦ ap (λ (o : Option TreeView). is_some o) (booked-push h (entry_of claimant (Release other) reply) net ∙ same) ∙ held
      | inr freed ↦ absurd (both_ways (other == net) two.0 freed.0)
    ])
  where
    reply : Reply
    reply = reply_to (capacity_in t) h (Release other)

    or-none : (a b : Bool) → (a || b) ≡ false → (a ≡ false) × (b ≡ false)
    or-none true b is = absurd (both_ways true is refl)
    or-none false b is = (refl, is)

-- batches leave their nets booked, and the others as they were
record AreBooked (d : DesignView) (nets : List ℕ) (h after : List Entry) : Type 0 where
  routes : AreRoutes d h → AreRoutes d after
  held : (net : ℕ) → is_among nets net ≡ true → IsBooked after net
  kept : (net : ℕ) → IsBooked h net → IsBooked after net
  marks : MarksStand d h → MarksStand d after

open-routes : (t : Batching) (round : ℕ) (nets : List ℕ) (h : List Entry) → AreRoutes t.design h → AreRoutes t.design (opened t round nets h)
open-routes t zero nets h are = are
open-routes t (suc round) nets h are = releases-routes t h nets are

open-marks : (t : Batching) (round : ℕ) (nets : List ℕ) (h : List Entry) → MarksStand t.design h → MarksStand t.design (opened t round nets h)
open-marks t zero nets h are = are
open-marks t (suc round) nets h are = releases-marks t h nets are

open-keeps : (t : Batching) (round : ℕ) (nets : List ℕ) (h : List Entry) (net : ℕ) → is_among nets net ≡ false → IsBooked h net → IsBooked (opened t round nets h) net
open-keeps t zero nets h net apart held = held
open-keeps t (suc round) nets h net apart held = releases-keep t h nets net apart held

batch-booked : (t : Batching) (round : ℕ) (nets : List ℕ) (h after : List Entry) → AreRouted t.design nets → IsBatch t round nets h after → AreBooked t.design nets h after
batch-booked t round nets h after routed batch =
    let front = opened t round nets h in
    let turned = turns-turned t round front nets front after routed batch in
    record {
      routes = λ are. turned.goes_on.routes (open-routes t round nets h are);
      held = turned.held;
      kept = λ net held. elim (cases_Bool (is_among nets net)) [
        | inl among ↦ turned.held net among
        | inr apart ↦ turned.goes_on.kept net (open-keeps t round nets h net apart held)
      ];
      marks = λ are. turned.goes_on.marks (open-marks t round nets h are);
    }

among-parts : (nets : List ℕ) (n net : ℕ) → is_among nets net ≡ (is_among (take n nets) net || is_among (drop n nets) net)
among-parts nets n net =
    ap (λ (xs : List ℕ). is_among xs net) (sym (take-append-drop n nets)) ∙ list_any-append (λ (other : ℕ). other == net) (take n nets) (drop n nets)

batches-booked : (t : Batching) (round : ℕ) (nets : List ℕ) (h after : List Entry) → AreRouted t.design nets → AreBatches t round nets h after → AreBooked t.design nets h after
batches-booked t round _ h _ routed No_batch = record {
  routes = λ are. are;
  held = λ net among. absurd (both_ways false refl among);
  kept = λ net held. held;
  marks = λ are. are;
}
batches-booked t round nets h after routed (Next_batch {between = between} _ some batch batches) =
    let one = batch-booked t round (take t.batch nets) h between (All-take (λ n. IsTrue (is_routed t.design n)) t.batch nets routed) batch in
    let rest = batches-booked t round (drop t.batch nets) between after (All-drop (λ n. IsTrue (is_routed t.design n)) t.batch nets routed) batches in
    record {
      routes = λ are. rest.routes (one.routes are);
      held = λ net among.
          elim (or-cases (is_among (take t.batch nets) net) (is_among (drop t.batch nets) net) (sym (among-parts nets t.batch net) ∙ among)) [
            | inl first ↦ rest.kept net (one.held net first)
            | inr later ↦ rest.held net later
          ];
      kept = λ net held. rest.kept net (one.kept net held);
      marks = λ are. rest.marks (one.marks are);
    }

-- a round may come: the booked nets are routed by their trees, and a routed net is booked or due
pub record IsReady (t : Batching) (round : ℕ) (h : List Entry) : Type 0 where
  pub routes : AreRoutes t.design h
  pub due : (net : ℕ) → IsTrue (is_routed t.design net) → (is_among (nets_due t round h) net ≡ true) ⊎ IsBooked h net
  pub routed : AreRouted t.design (nets_due t round h)

-- behind the claims of given trees the open nets are due
given-there : (t : Batching) (net : ℕ) (tree : TreeView) → given_to t.design t.given net ≡ Some tree → tree_at t.given net ≡ Some tree
given-there t net tree is = by (is_routed t.design net) is
  where
    by : (b : Bool) → (if b then tree_at t.given net else None) ≡ Some tree → tree_at t.given net ≡ Some tree
    by true there = there
    by false there = absurd (none-some tree there)

given-or_open : (t : Batching) (net : ℕ) → IsTrue (is_routed t.design net) → (is_among (open_nets t.design t.given) net ≡ true) ⊎ IsBooked (claims_given t) net
given-or_open t net routed = by (tree_at t.given net) refl
  where
    by : (o : Option TreeView) → tree_at t.given net ≡ o → (is_among (open_nets t.design t.given) net ≡ true) ⊎ IsBooked (claims_given t) net
    by None none =
        inl (filter-has (is_open t.design t.given) 0 (length t.design.nets) net (omega arith) (let below = routed-below t.design net routed in omega (arith, below))
        ∙ ap (λ (b : Bool). b && is_none (tree_at t.given net)) routed ∙ ap (λ (o : Option TreeView). is_none o) none)
    by (Some tree) there =
        inr (ap (λ (o : Option TreeView). is_some o)
        (given-booked t.design t.given net ∙ ap (λ (b : Bool). if b then tree_at t.given net else None) routed ∙ there))

pub ready-first : (t : Batching) → AreGivenRoutes t.design t.given → IsReady t 0 (claims_given t)
ready-first t fits = record {
  routes = λ net tree is.
      let route = fits.each net tree (given-there t net tree (sym (given-booked t.design t.given net) ∙ is)) in
      (route.routed, route.routes);
  due = given-or_open t;
  routed = All-weaker (λ (net : ℕ). IsTrue (is_open t.design t.given net)) (λ (net : ℕ). IsTrue (is_routed t.design net))
      (λ net is. (and_parts (is_routed t.design net) (is_none (tree_at t.given net)) is).0) (open_nets t.design t.given)
      (filter_passes (is_open t.design t.given) (range_with_len 0 (length t.design.nets)));
}

-- their claims are the claimant's, and no marks
given-marks : (t : Batching) → MarksStand t.design (claims_given t)
given-marks t place e there =
    let of = each-all IsOfGiven (claims_given t) (among-all t.design t.given (length t.design.nets)) place e there in (
      of.number_is ∙ sym (ap (λ (b : Bool). if b then marker else claimant) (given-no_mark e of)),
      λ mark. absurd (both_ways (is_mark e) (given-no_mark e of) (ap is_mark_call mark)),
    )

pub ready-next : (t : Batching) (round : ℕ) (h : List Entry) → Stands t.design h → IsReady t (suc round) h
ready-next t round h stands = record {
  routes = routes;
  due = λ net routed. inr (let some = is-some-and (booked h net) (IsRouteOfNet t.design net) (stands.held net routed) in ap (λ (o : Option TreeView). is_some o) some.1.0);
  routed = victims-routed t.design h stands;
}
  where
    is-some-and : (o : Option TreeView) (P : TreeView → Type 0) → IsSomeAnd o P → (tree : TreeView) × ((o ≡ Some tree) × P tree)
    is-some-and None P is = absurd is
    is-some-and (Some tree) P is = (tree, (refl, is))

    routes : AreRoutes t.design h
    routes net tree is = elim (cases_Bool (is_routed t.design net)) [
      | inl on ↦ (on, and-some (IsRouteOfNet t.design net) (booked h net) tree is (stands.held net on))
      | inr off ↦ absurd (none-some tree (sym (stands.free net off) ∙ is))
    ]

-- what a round leaves
pub record IsRoundOver (d : DesignView) (h after : List Entry) : Type 0 where
  pub stands : Stands d after
  pub marks : MarksStand d h → MarksStand d after

pub round-stands : (t : Batching) (round : ℕ) (h after : List Entry) → IsReady t round h → IsRound t round h after → IsRoundOver t.design h after
round-stands t round h after ready done = subst (IsRoundOver t.design h) (sym done.marked) (record {
  stands = stands;
  marks = λ are. marks-push t.design done.unmarked mark refl (λ is. stands) (booked_all.marks are);
})
  where
    mark : Entry
    mark = entry_of marker Mark (reply_to (capacity_in t) done.unmarked Mark)

    booked_all : AreBooked t.design (nets_due t round h) h done.unmarked
    booked_all = batches-booked t round (nets_due t round h) h done.unmarked ready.routed done.batches

    held : (net : ℕ) → IsTrue (is_routed t.design net) → IsHeld t.design done.unmarked net
    held net routed =
        let some = is-some (booked done.unmarked net) (elim (ready.due net routed) [
          | inl due ↦ booked_all.held net due
          | inr old ↦ booked_all.kept net old
        ]) in
        some-and (IsRouteOfNet t.design net) (booked done.unmarked net) some.0 some.1 (booked_all.routes ready.routes net some.0 some.1).1

    free : (net : ℕ) → is_routed t.design net ≡ false → booked done.unmarked net ≡ None
    free net off = by (booked done.unmarked net) refl
      where
        by : (o : Option TreeView) → booked done.unmarked net ≡ o → booked done.unmarked net ≡ None
        by None is = is
        by (Some tree) is = absurd (both_ways (is_routed t.design net) off (booked_all.routes ready.routes net tree is).0)

    stands : Stands t.design (after_mark t done.unmarked)
    stands = mark-stands t.design done.unmarked mark refl (record { held = held; free = free })

-- so it is at each mark of a batched history
rounds-stand : (t : Batching) (round : ℕ) (h after : List Entry) → IsReady t round h → MarksStand t.design h → AreRounds t round h after → MarksStand t.design after
rounds-stand t round h after ready marks (Last_round one over) = (round-stands t round h after ready one).marks marks
rounds-stand t round h after ready marks (Next_round {between = between} one on rest) =
    let done = round-stands t round h between ready one in
    rounds-stand t (round + 1) between after (subst (λ (n : ℕ). IsReady t n between) (sym (one-more round)) (ready-next t round between done.stands)) (done.marks marks) rest

pub batched-sound : (t : Batching) (h : List Entry) → AreGivenRoutes t.design t.given → IsBatched t h → MarksStand t.design h
batched-sound t h fits batched = rounds-stand t 0 (claims_given t) h (ready-first t fits) (given-marks t) batched

pub batched-stands : (t : Batching) (h : List Entry) (chosen : ℕ) → AreGivenRoutes t.design t.given → IsBatched t h → IsLegal (capacity_in t) h → least_mark h ≡ Some chosen → Stands t.design (take chosen h)
batched-stands t h chosen fits batched legal least =
    let at = least-place h chosen least in
    let mark = least-call (capacity_in t) h (take at.0 h) at.1 (legal.right at.0 at.1 at.3) at.4 in
    subst (λ (n : ℕ). Stands t.design (take n h)) (sym at.2) ((batched-sound t h fits batched at.0 at.1 at.3).1 mark)

-- a batched history ends with a mark
ends-marked : (t : Batching) (round : ℕ) (h after : List Entry) → AreRounds t round h after → (u : List Entry) × (after ≡ after_mark t u)
ends-marked t round h after (Last_round one over) = (one.unmarked, one.marked)
ends-marked t round h after (Next_round {between = between} one on rest) = ends-marked t (round + 1) between after rest

pub batched-marked : (t : Batching) (h : List Entry) → IsBatched t h → IsSome (least_mark h)
batched-marked t h batched =
    let last = ends-marked t 0 (claims_given t) h batched in
    let mark = entry_of marker Mark (reply_to (capacity_in t) last.0 Mark) in
    subst (λ (g : List Entry). IsSome (least_mark g)) (sym last.1)
    (some-least (after_mark t last.0) (length last.0) (overflow_after (capacity_in t) last.0) (record {
      e = mark;
      there = slice_get-right last.0 (mark ∷ []) (length last.0) 0 (omega arith);
      mark = refl;
    }))

-- a turn adds entries
pub turn-longer : (t : Batching) (round net : ℕ) (front h after : List Entry) → IsTrue (is_routed t.design net) → IsTurn t round front net h after → length h ≤ length after
turn-longer t round net front h after routed turn = (turn-turned t round net front h after routed turn).goes_on.longer
