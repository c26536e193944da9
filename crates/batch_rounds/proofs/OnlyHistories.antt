-- There is one batched history.
use Rattle.std.proofs.Common.{◌≡◌, ℕ, zero, suc, ◌+◌, ◌*◌, ◌<◌, Bool, true, false, ◌&&◌, nat_lt, List, [], ◌∷◌, length, take, drop, All, Option, Some, None, slice_get, if◌then◌else◌, refl, sym, ap, subst, ◌∙◌, arith}
use Rattle.std.proofs.lemmas.Bool.{both_ways}
use Rattle.std.proofs.lemmas.List.Elements.{All-nil}
use Rattle.cost_rules.specs.Formulas.{cost_at, via_price}
use Rattle.cost_rules.specs.declared.site.Formula.{Formula}
use Rattle.cost_rules.specs.declared.site.Site.{Site}
use Rattle.gr_base.specs.Designs.{DesignView, IsDesign, pins_in, pins_at}
use Rattle.gr_base.specs.Grid.{cells_of, is_wire}
use Rattle.gr_base.specs.Trees.{TreeView}
use Rattle.gr_base.specs.declared.frame.Net.{Net}
use Rattle.grid_demand.specs.LoadSums.{LoadsView, demand_at, marks_at}
use Rattle.grid_demand.specs.Tables.{CapacityView, capacity_at, usable_at, need_at, capacity_of}
use Rattle.net_plan.proofs.DearerLemmas.{grows-dearer}
use Rattle.net_plan.proofs.MazeLemmas.{maze-only}
use Rattle.net_plan.proofs.PlanLemmas.{net-of}
use Rattle.net_plan.specs.Mazes.{window_of, driver_tree, IsMaze}
use Rattle.net_plan.specs.Prices.{site_of, price_of, ways_of}
use Rattle.book_state.specs.Books.{AreLoadsOf, reply_to}
use Rattle.book_state.specs.Views.{entry_of}
use Rattle.book_state.specs.declared.entry.Call.TheVariants.{Claim as Claims, Release, Mark}
use Rattle.book_state.specs.declared.entry.Claim.{Claim}
use Rattle.book_state.specs.declared.entry.Entry.{Entry}
use Rattle.run_histories.specs.Attempts.{kind_of}
use Rattle.run_histories.specs.Rounds.{marker, claim_of, IsPlan, IsPlanFor}
use Rattle.batch_rounds.proofs.PatternPrices.{AreSamePrices, patterns-same}
use Rattle.batch_rounds.specs.BatchedHistories.{Batching, capacity_in, claims_given, claimant, after_call, after_claim, after_mark, after_releases, is_refused, IsClaimOver, at_any_demand, first_slack, IsClaimedAlone, IsTurn, AreTurns, opened, IsBatch, AreBatches, nets_due, IsRound, goes_on, AreRounds, IsBatched}
use Rattle.batch_rounds.specs.BatchedHistories.IsClaimedAlone.{Fits, Is_forced}
use Rattle.batch_rounds.specs.BatchedHistories.IsTurn.{Is_first, Goes_on}
use Rattle.batch_rounds.specs.BatchedHistories.AreTurns.{No_turns, Next_turn}
use Rattle.batch_rounds.specs.BatchedHistories.AreBatches.{No_batch, Next_batch}
use Rattle.batch_rounds.specs.BatchedHistories.AreRounds.{Last_round, Next_round}

-- two loads of one history make the same prices on the edges of the grid
prices-same : (c : CapacityView) (h : List Entry) (l m : LoadsView) (formula : Formula) (net : ℕ) → AreLoadsOf c h l → AreLoadsOf c h m →
    AreSamePrices c.shape (price_of c l formula net) (price_of c m formula net)
prices-same c h l m formula net one other e edge = ap (λ (n : ℕ). if usable_at c e then Some n else None) (by (is_wire e) refl)
  where
    site : ℕ → ℕ → Site
    site demand marks = record { demand = demand; capacity = capacity_at c e; need = need_at c net e; marks = marks }

    by : (b : Bool) → is_wire e ≡ b → (if b then cost_at formula (site_of c l net e) else via_price) ≡ (if b then cost_at formula (site_of c m net e) else via_price)
    by false is = refl
    by true is =
        ap (λ (n : ℕ). cost_at formula (site n (marks_at l e))) (one.demand e edge is ∙ sym (other.demand e edge is))
        ∙ ap (λ (n : ℕ). cost_at formula (site (demand_at m e) n)) (one.marks e edge is ∙ sym (other.marks e edge is))

-- so maze plans by them are the same
mazes-same : (c : CapacityView) (l m : LoadsView) (formula : Formula) (net : ℕ) (pins : List ℕ) (margin : ℕ) (t u : TreeView) →
    AreSamePrices c.shape (price_of c l formula net) (price_of c m formula net) → IsMaze c l formula net pins margin t → IsMaze c m formula net pins margin u → t ≡ u
mazes-same c l m formula net pins margin t u same one other =
    maze-only c m formula net pins margin u t
    (grows-dearer (window_of c.shape pins margin) (price_of c l formula net) (price_of c m formula net) pins (driver_tree c.shape pins) t
    (record {
      lower = λ e b is_in is. (b, (same e is_in.edge ∙ is, omega arith));
      same = λ e is_in low high. sym (same e is_in.edge);
    }) one) other

-- plans over a history
pins-in : (d : DesignView) (net : ℕ) → IsDesign d → All (λ pin. pin < cells_of d.frame.shape) (pins_at d net)
pins-in d net design = by (slice_get d.nets net) refl
  where
    by : (o : Option Net) → slice_get d.nets net ≡ o → All (λ pin. pin < cells_of d.frame.shape) (pins_in o)
    by None is = All-nil (λ pin. pin < cells_of d.frame.shape)
    by (Some value) is = (net-of d net value design is).pins

plan-only : (d : DesignView) (formula : Formula) (round net : ℕ) (h : List Entry) (t u : TreeView) → IsDesign d →
    IsPlanFor d formula h net (kind_of round) t → IsPlanFor d formula h net (kind_of round) u → t ≡ u
plan-only d formula round net h t u design one other = by round one.plan.plan other.plan.plan
  where
    c : CapacityView
    c = capacity_of d

    l : LoadsView
    l = one.plan.loads

    m : LoadsView
    m = other.plan.loads

    same : AreSamePrices c.shape (price_of c l formula net) (price_of c m formula net)
    same = prices-same c h l m formula net one.plan.there other.plan.there

    by : (round : ℕ) → IsPlan c l formula net (pins_at d net) (kind_of round) t → IsPlan c m formula net (pins_at d net) (kind_of round) u → t ≡ u
    by zero first second =
        sym (patterns-same c.shape (ways_of c) (price_of c l formula net) (price_of c m formula net) (pins_at d net) t u same (pins-in d net design) first second)
    by (suc r) first second = mazes-same c l m formula net (pins_at d net) (4 * suc r) t u same first second

module _ (t : Batching) (design : IsDesign t.design) where
  claim-only : (round net : ℕ) (slack : Option ℕ) (h : List Entry) (a b : Claim) → IsClaimOver t round net slack h a → IsClaimOver t round net slack h b → a ≡ b
  claim-only round net slack h a b one other =
      one.claim_is
      ∙ ap (λ (tree : TreeView). claim_of net tree slack (length h) (kind_of round))
      (plan-only t.design t.formula round net h one.tree other.tree design one.planned other.planned)
      ∙ sym other.claim_is

  -- a claim is answered Full, or it isn't
  differ : (h : List Entry) (a b : Claim) → a ≡ b → is_refused t h a ≡ false → is_refused t h b ≡ true → ⊥
  differ h a b same fits full = both_ways (is_refused t h a) fits (ap (is_refused t h) same ∙ full)

  alone-only : (round net : ℕ) (h after other : List Entry) → IsClaimedAlone t round net h after → IsClaimedAlone t round net h other → after ≡ other
  alone-only round net h _ _ (Fits a of_a fits_a) (Fits b of_b fits_b) = ap (after_claim t h) (claim-only round net (Some 0) h a b of_a of_b)
  alone-only round net h _ _ (Fits a of_a fits_a) (Is_forced b of_b full_b) = absurd (differ h a b (claim-only round net (Some 0) h a b of_a of_b) fits_a full_b)
  alone-only round net h _ _ (Is_forced a of_a full_a) (Fits b of_b fits_b) = absurd (differ h b a (claim-only round net (Some 0) h b a of_b of_a) fits_b full_a)
  alone-only round net h _ _ (Is_forced a of_a full_a) (Is_forced b of_b full_b) =
      ap (λ (x : Claim). after_claim t (after_claim t h x) (at_any_demand (after_claim t h x) x)) (claim-only round net (Some 0) h a b of_a of_b)

  turn-only : (round net : ℕ) (front h after other : List Entry) → IsTurn t round front net h after → IsTurn t round front net h other → after ≡ other
  turn-only round net front h _ _ (Is_first a of_a fits_a) (Is_first b of_b fits_b) = ap (after_claim t h) (claim-only round net (first_slack round) front a b of_a of_b)
  turn-only round net front h _ _ (Is_first a of_a fits_a) (Goes_on b of_b full_b alone_b) =
      absurd (differ h a b (claim-only round net (first_slack round) front a b of_a of_b) fits_a full_b)
  turn-only round net front h _ _ (Goes_on a of_a full_a alone_a) (Is_first b of_b fits_b) =
      absurd (differ h b a (claim-only round net (first_slack round) front b a of_b of_a) fits_b full_a)
  turn-only round net front h after other (Goes_on a of_a full_a alone_a) (Goes_on b of_b full_b alone_b) =
      let same = claim-only round net (first_slack round) front a b of_a of_b in
      alone-only round net (after_claim t h b) after other (subst (λ (x : Claim). IsClaimedAlone t round net (after_claim t h x) after) same alone_a) alone_b

  turns-only : (round : ℕ) (front : List Entry) (nets : List ℕ) (h after other : List Entry) → AreTurns t round front nets h after → AreTurns t round front nets h other → after ≡ other
  turns-only round front _ h _ _ No_turns No_turns = refl
  turns-only round front _ h after other (Next_turn {between = x} net nets one rest) (Next_turn {between = y} _ _ two more) =
      turns-only round front nets y after other (subst (λ (z : List Entry). AreTurns t round front nets z after) (turn-only round net front h x y one two) rest) more

  no-nets : {A : Type 0} → 0 < length {A = ℕ} [] → A
  no-nets some = absurd (omega (arith, some))

  batches-only : (round : ℕ) (nets : List ℕ) (h after other : List Entry) → AreBatches t round nets h after → AreBatches t round nets h other → after ≡ other
  batches-only round _ h _ _ No_batch No_batch = refl
  batches-only round _ h _ _ No_batch (Next_batch nets some two more) = no-nets some
  batches-only round _ h _ _ (Next_batch nets some one rest) No_batch = no-nets some
  batches-only round nets h after other (Next_batch {between = x} _ some one rest) (Next_batch {between = y} _ some_too two more) =
      let front = opened t round (take t.batch nets) h in
      let same = turns-only round front (take t.batch nets) front x y one two in
      batches-only round (drop t.batch nets) y after other (subst (λ (z : List Entry). AreBatches t round (drop t.batch nets) z after) same rest) more

  round-only : (round : ℕ) (h after other : List Entry) → IsRound t round h after → IsRound t round h other → after ≡ other
  round-only round h after other one two =
      one.marked ∙ ap (after_mark t) (batches-only round (nets_due t round h) h one.unmarked two.unmarked one.batches two.batches) ∙ sym two.marked

  rounds-only : (round : ℕ) (h after other : List Entry) → AreRounds t round h after → AreRounds t round h other → after ≡ other
  rounds-only round h after other (Last_round one over) (Last_round two over_too) = round-only round h after other one two
  rounds-only round h after other (Last_round one over) (Next_round {between = y} two on more) =
      absurd (both_ways (goes_on t round after) over (ap (goes_on t round) (round-only round h after y one two) ∙ on))
  rounds-only round h after other (Next_round {between = x} one on rest) (Last_round two over) =
      absurd (both_ways (goes_on t round x) (ap (goes_on t round) (round-only round h x other one two) ∙ over) on)
  rounds-only round h after other (Next_round {between = x} one on rest) (Next_round {between = y} two on_too more) =
      rounds-only (round + 1) y after other (subst (λ (z : List Entry). AreRounds t (round + 1) z after) (round-only round h x y one two) rest) more

-- two batched histories of one design are the same
pub batched-only : (t : Batching) (h g : List Entry) → IsDesign t.design → IsBatched t h → IsBatched t g → g ≡ h
batched-only t h g design one two = sym (rounds-only t design 0 (claims_given t) h g one two)
