-- The releases and claims that the machine allows are parts of attempts.
use Rattle.std.proofs.Common.{◌≡◌, ℕ, suc, zero, ◌+◌, ◌<◌, ◌≤◌, inl, inr, Bool, true, false, cond, ◌==◌, nat_lt, nat_le, List, [], ◌∷◌, length, drop, take, Option, Some, None, is_some, is_none, slice_get, slice_set, if◌then◌else◌, refl, sym, ap, subst, ◌∙◌, arith}
use Rattle.std.specs.List.{count_by}
use Rattle.std.proofs.lemmas.Bool.{cases_Bool, both_ways, and_parts}
use Rattle.std.proofs.lemmas.Bool.Decides.{nat_tests}
use Rattle.gr_base.specs.Designs.{DesignView, is_routed}
use Rattle.grid_demand.specs.Tables.{capacity_of}
use Rattle.book_state.specs.Books.{nets_of, booked, reply_to_claim, IsClaim}
use Rattle.book_state.specs.Cuts.{Cut, cut}
use Rattle.book_state.specs.Entries.{is_given_kind, calls_of}
use Rattle.book_state.specs.declared.entry.Call.{Call}
use Rattle.book_state.specs.declared.entry.Call.TheVariants.{Claim as Claims, Release as Releases}
use Rattle.book_state.specs.declared.entry.Claim.{Claim as ClaimOf}
use Rattle.book_state.specs.declared.entry.Entry.{Entry}
use Rattle.book_state.specs.declared.entry.Reply.{Reply}
use Rattle.book_state.specs.declared.entry.Reply.TheVariants.{Claimed, Taken, Full, Released, NotBooked, Marked}
use Rattle.run_histories.specs.Apart.{AreApart}
use Rattle.run_histories.specs.Attempts.{Stage, Rests, Claiming, Broken, kind_of, is_claim_for, stage_replied, stage_after, first_stage, later_stage, stage_of, is_claim_of, is_release_of, begins, attempts_at}
use Rattle.run_histories.specs.Rounds.{IsFull, slacks_of_turn}
use Rattle.run_histories.specs.RunHistories.{IsPlanOver, IsPlanned, is_due}
use Rattle.round_core.specs.WorldRules.{stage_in, is_holding_net, times_in, IsPhaseRight, IsRunning, IsWorld}
use Rattle.round_core.specs.Worlds.{WorldView, phase_in, phase_before_end, phase_at, since_of, is_holding, slack_after, allows_claim, net_in, tries_in, phase_replied, entry_by, with_entry_by, is_allowed, happens, IsStep}
use Rattle.round_core.specs.declared.steps.Phase.{Phase}
use Rattle.round_core.specs.declared.steps.Phase.TheVariants.{Idle, Holding, Trying, Ended}
use Rattle.round_core.specs.declared.steps.Step.TheVariants.{Release, Claim}
use Rattle.run_histories.proofs.Answered.{held-routed, none-is, is-later, full-slack}
use Rattle.round_core.proofs.HeldCounts.{held-change, held-some}
use Rattle.run_histories.proofs.GivenLemmas.{claims-nothing}
use Rattle.run_histories.proofs.StageSteps.{kind-plain, claim-for}
use Rattle.run_histories.proofs.TurnLemmas.{unbounded-claimed, routed-within}
use Rattle.round_core.proofs.WorldSteps.{IsCallOf, call-world}
use Rattle.run_histories.proofs.KeptRules.{one-more}

-- a worker that may release a net holds it, before the end
holding-by : (over : Bool) (phase : Phase) → is_holding (if over then Ended else phase) ≡ true → (over ≡ false) × (phase ≡ Holding (net_in phase))
holding-by true phase is = absurd (both_ways false refl is)
holding-by false Idle is = absurd (both_ways false refl is)
holding-by false (Holding net) is = (refl, refl)
holding-by false (Trying net tries since) is = absurd (both_ways false refl is)
holding-by false Ended is = absurd (both_ways false refl is)

-- a net that is held is due, and wasn't begun
module _ (v : WorldView) (worker net : ℕ) (running : IsRunning v (cut v.history)) (one : worker < v.setting.workers) (holds : phase_before_end v worker ≡ Holding net) where
  pub held-within : worker < length v.phases
  held-within = let is = running.phases in omega (arith, is, one)

  pub held-first : (is_due v.setting.design (cut v.history).round (cut v.history).before net ≡ true) × (attempts_at (cut v.history).round net (cut v.history).segment ≡ 0)
  held-first = by (is_due v.setting.design (cut v.history).round (cut v.history).before net) refl (running.nets net)
    where
      some : 0 < count_by (is_holding_net net) v.phases
      some = held-some v.phases worker net held-within holds

      by : (b : Bool) → is_due v.setting.design (cut v.history).round (cut v.history).before net ≡ b → times_in v (cut v.history) net ≡ (if b then 1 else 0) →
          (is_due v.setting.design (cut v.history).round (cut v.history).before net ≡ true) × (attempts_at (cut v.history).round net (cut v.history).segment ≡ 0)
      by true is times = (is, omega (arith, some, times))
      by false is times = absurd (omega (arith, some, times))

-- what a worker that held a net leaves of the counts
held-begun : (phases : List Phase) (worker net other : ℕ) (new : Phase) → worker < length phases → phase_in (slice_get phases worker) ≡ Holding net → is_holding_net other new ≡ false →
    cond {A = ℕ} (other == net) 1 0 + count_by (is_holding_net other) (slice_set phases worker new) ≡ count_by (is_holding_net other) phases
held-begun phases worker net other new within is free =
    let change = held-change phases worker other (Holding net) new within is in
    let none : cond {A = ℕ} (is_holding_net other new) 1 0 ≡ 0 = ap (λ (b : Bool). cond {A = ℕ} b 1 0) free in
    omega (arith, change, none)

later-some : (r : ℕ) → nat_lt 0 r ≡ true → 0 < r
later-some zero later = absurd (both_ways false refl later)
later-some (suc r) later = omega arith

-- an entry that begins an attempt names the net
same-net : (net other : ℕ) → (other == net) ≡ true → other ≡ net
same-net net other is = grind (arith, nat_tests)

release-begins : (r net other : ℕ) (e : Entry) → e.call ≡ Releases net → nat_lt 0 r ≡ true → begins r other e ≡ (other == net)
release-begins zero net other e call later = absurd (both_ways false refl later)
release-begins (suc r) net other e call later = ap (λ (k : Call). is_release_of other k) call

release-leads : (r net : ℕ) (stage : Stage) (e : Entry) → e.call ≡ Releases net → stage ≡ Rests → nat_lt 0 r ≡ true → stage_after r stage e ≡ Claiming net slacks_of_turn
release-leads zero net stage e call rests later = absurd (both_ways false refl later)
release-leads (suc r) net stage e call rests later =
    ap (λ (s : Stage). later_stage (kind_of (suc r)) s e.call e.reply) rests ∙ ap (λ (k : Call). later_stage (kind_of (suc r)) Rests k e.reply) call

-- a net that is due, and wasn't begun, is one of the design's
due-below : (d : DesignView) (r : ℕ) (before h segment : List Entry) (net : ℕ) → AreApart d r before h segment → is_due d r before net ≡ true → attempts_at r net segment ≡ 0 →
    net < nets_of (capacity_of d)
due-below d zero before h segment net apart due none = routed-within d (capacity_of d) net refl (and_parts (is_routed d net) (is_none (booked before net)) due).0
due-below d (suc r) before h segment net apart due none =
    routed-within d (capacity_of d) net refl
    (held-routed (nat_lt 0 (suc r)) (is_routed d) (is_due d (suc r) before) (booked h) (λ worker. stage_of (suc r) (calls_of worker segment))
    (λ n. attempts_at (suc r) n segment) net apart (apart.waiting net due none ∙ is-later r))

-- a release that is allowed
release-of : (v : WorldView) (worker net : ℕ) → IsWorld v → worker < v.setting.workers → v.over ≡ false → phase_before_end v worker ≡ Holding net → nat_lt 0 v.round ≡ true →
    IsCallOf v worker (Releases net) (Trying net 0 (length v.history + 1))
release-of v worker net world one runs holds later =
    let running = world.running runs in
    let s : Cut = cut v.history in
    let first = held-first v worker net running one holds in
    let within = held-within v worker net running one holds in
    let now : nat_lt 0 s.round ≡ true = ap (λ (n : ℕ). nat_lt 0 n) running.round ∙ later in
    let said : Entry = entry_by v (worker + 1) (Releases net) in
    let new : Phase = Trying net 0 (length v.history + 1) in
    let begun : (other : ℕ) → begins s.round other said ≡ (other == net) = λ other. release-begins s.round net other said refl now in
    record {
      one = one;
      other = refl;
      plain = refl;
      in_range = due-below v.setting.design s.round s.before v.history s.segment net running.apart first.0 first.1;
      planned = λ claim is. absurd (cc);
      led = release-leads s.round net (stage_in (phase_before_end v worker)) said refl (ap stage_in holds) now;
      first = λ other is.
          subst (λ (n : ℕ). (is_due v.setting.design s.round s.before n ≡ true) × (attempts_at s.round n s.segment ≡ 0))
          (sym (same-net net other (sym (begun other) ∙ is))) first;
      held = λ other.
          ap (λ (b : Bool). cond {A = ℕ} b 1 0 + count_by (is_holding_net other) (slice_set v.phases worker new)) (begun other)
          ∙ held-begun v.phases worker net other new within holds refl;
      right = (later-some s.round now, omega arith, refl);
    }

-- a release that is allowed is of the net that the worker holds
pub record IsReleaseBy (v : WorldView) (worker net : ℕ) : Type 0 where
  pub runs : v.over ≡ false
  pub call : IsCallOf v worker (Releases net) (Trying net 0 (length v.history + 1))

pub release-by : (v : WorldView) (worker : ℕ) → IsWorld v → worker < v.setting.workers → is_allowed v (Release worker) ≡ true → IsReleaseBy v worker (net_in (phase_at v worker))
release-by v worker world one allowed =
    let parts = and_parts (nat_lt 0 v.round) (is_holding (phase_at v worker)) allowed in
    let holds = holding-by v.over (phase_before_end v worker) parts.1 in
    let net : ℕ = net_in (phase_at v worker) in
    let is : phase_at v worker ≡ phase_before_end v worker = ap (λ (b : Bool). if b then Ended else phase_before_end v worker) holds.0 in
    let same : net_in (phase_before_end v worker) ≡ net = ap net_in (sym is) in
    let phase : phase_before_end v worker ≡ Holding net = holds.1 ∙ ap (λ (n : ℕ). Holding n) same in
    record { runs = holds.0; call = release-of v worker net world one holds.0 phase parts.0 }

pub release-world : (v : WorldView) (worker : ℕ) → IsWorld v → worker < v.setting.workers → is_allowed v (Release worker) ≡ true → IsWorld (happens v (Release worker))
release-world v worker world one allowed =
    let by = release-by v worker world one allowed in
    call-world v worker (Releases (net_in (phase_at v worker))) (Trying (net_in (phase_at v worker)) 0 (length v.history + 1)) world by.runs by.call

-- a claim that is allowed, of a net that the worker holds in round 0, or tries later
claiming-by : (over : Bool) (phase : Phase) (round : ℕ) (claim : ClaimOf) → allows_claim round (if over then Ended else phase) claim ≡ true →
    (over ≡ false) × (allows_claim round phase claim ≡ true)
claiming-by true phase round claim is = absurd (both_ways false refl is)
claiming-by false phase round claim is = (refl, is)

pub claim-runs : (v : WorldView) (worker : ℕ) (claim : ClaimOf) → is_allowed v (Claim worker claim) ≡ true → v.over ≡ false
claim-runs v worker claim allowed =
    let parts = and_parts (nat_le (since_of v worker) claim.front) (allows_claim v.round (phase_at v worker) claim) allowed in
    (claiming-by v.over (phase_before_end v worker) v.round claim parts.1).0

-- the claim of a worker is planned
claim-planned : (v : WorldView) (worker : ℕ) (claim other : ClaimOf) → v.setting.given ≡ [] → IsRunning v (cut v.history) → nat_le (since_of v worker) claim.front ≡ true →
    IsPlanOver v.setting (take claim.front v.history) claim → Claims claim ≡ Claims other → IsPlanned v.setting v.history (worker + 1) other
claim-planned v worker claim other plain running late tree is =
    let same : claim ≡ other = cc in
    subst (λ (c : ClaimOf). IsPlanned v.setting v.history (worker + 1) c) same (record {
      front = λ place own there number.
          let before = running.last worker place own there (number ∙ one-more worker) in
          let front : since_of v worker ≤ claim.front = grind (arith, nat_tests) in
          omega (arith, before, front);
      behind = λ pattern. (let none = ap length (claims-nothing v.setting plain) in omega (arith, none));
      tree = tree;
    })

-- a claim in round 0
first-leads : (r net : ℕ) (stage : Stage) (e : Entry) (claim : ClaimOf) → r ≡ 0 → e.call ≡ Claims claim → stage ≡ Rests → is_claim_for net (kind_of 0) None claim ≡ true →
    stage_after r stage e ≡ Rests
first-leads zero net stage e claim first call rests is =
    let own : is_claim_for claim.net (kind_of 0) None claim ≡ true =
    subst (λ (n : ℕ). is_claim_for n (kind_of 0) None claim ≡ true) (claim-for net (kind_of 0) None claim is).net_is is in
    ap (λ (s : Stage). first_stage s e.call) rests ∙ ap (λ (k : Call). first_stage Rests k) call ∙ ap (λ (b : Bool). if b then Rests else Broken) own
first-leads (suc r) net stage e claim first call rests is = absurd (omega (arith, first))

first-begins : (r net other : ℕ) (e : Entry) (claim : ClaimOf) → r ≡ 0 → e.call ≡ Claims claim → net ≡ claim.net → begins r other e ≡ (other == net)
first-begins zero net other e claim first call is = ap (λ (k : Call). is_claim_of other k) call ∙ ap (λ (n : ℕ). other == n) (sym is)
first-begins (suc r) net other e claim first call is = absurd (omega (arith, first))

-- a claim in a later round
slacks-next : (tries : ℕ) → tries ≤ 2 → drop tries slacks_of_turn ≡ slack_after tries ∷ drop (tries + 1) slacks_of_turn
slacks-next zero most = refl
slacks-next (suc zero) most = refl
slacks-next (suc (suc zero)) most = refl
slacks-next (suc (suc (suc n))) most = absurd (omega arith)

stage-replied : (net tries last : ℕ) (reply : Reply) → stage_replied net (drop (tries + 1) slacks_of_turn) reply ≡ stage_in (phase_replied net tries last reply)
stage-replied net tries last Claimed = refl
stage-replied net tries last Taken = refl
stage-replied net tries last (Full edge demand) = refl
stage-replied net tries last Released = refl
stage-replied net tries last NotBooked = refl
stage-replied net tries last (Marked overflow) = refl

replied-free : (other net tries last : ℕ) (reply : Reply) → is_holding_net other (phase_replied net tries last reply) ≡ false
replied-free other net tries last Claimed = refl
replied-free other net tries last Taken = refl
replied-free other net tries last (Full edge demand) = refl
replied-free other net tries last Released = refl
replied-free other net tries last NotBooked = refl
replied-free other net tries last (Marked overflow) = refl

right-replied : (r net tries last : ℕ) (reply : Reply) → 0 < r → (IsFull reply → tries + 1 ≤ 2) → IsPhaseRight r last (phase_replied net tries last reply)
right-replied r net tries last Claimed later few = tt
right-replied r net tries last Taken later few = tt
right-replied r net tries last (Full edge demand) later few = (later, few refl, refl)
right-replied r net tries last Released later few = tt
right-replied r net tries last NotBooked later few = tt
right-replied r net tries last (Marked overflow) later few = tt

full-tries : (tries : ℕ) → is_some (slack_after tries) ≡ true → tries + 1 ≤ 2
full-tries tries some = elim (cases_Bool (nat_lt tries 2)) [
  | inl few ↦ let less : tries < 2 = grind (arith, nat_tests) in omega (arith, less)
  | inr many ↦ absurd (both_ways (is_some (slack_after tries)) (ap (λ (b : Bool). is_some {T = ℕ} (if b then Some 0 else None)) many) some)
]

later-leads : (r net tries last : ℕ) (stage : Stage) (e : Entry) (claim : ClaimOf) → 0 < r → tries ≤ 2 → e.call ≡ Claims claim → stage ≡ Claiming net (drop tries slacks_of_turn) →
    is_claim_for net (kind_of r) (slack_after tries) claim ≡ true → stage_after r stage e ≡ stage_in (phase_replied claim.net tries last e.reply)
later-leads zero net tries last stage e claim later most call is fits = absurd (omega (arith, later))
later-leads (suc r) net tries last stage e claim later most call is fits =
    let left : List (Option ℕ) = drop (tries + 1) slacks_of_turn in
    let stage_is : stage ≡ Claiming net (slack_after tries ∷ left) = is ∙ ap (λ (slacks : List (Option ℕ)). Claiming net slacks) (slacks-next tries most) in
    ap (λ (s : Stage). later_stage (kind_of (suc r)) s e.call e.reply) stage_is
    ∙ ap (λ (k : Call). later_stage (kind_of (suc r)) (Claiming net (slack_after tries ∷ left)) k e.reply) call
    ∙ ap (λ (b : Bool). if b then stage_replied net left e.reply else Broken) fits
    ∙ ap (λ (n : ℕ). stage_replied n left e.reply) (claim-for net (kind_of (suc r)) (slack_after tries) claim fits).net_is
    ∙ stage-replied claim.net tries last e.reply

claim-begins : (r other : ℕ) (e : Entry) (claim : ClaimOf) → e.call ≡ Claims claim → 0 < r → begins r other e ≡ false
claim-begins zero other e claim call later = absurd (omega (arith, later))
claim-begins (suc r) other e claim call later = ap (λ (k : Call). is_release_of other k) call

held-still : (phases : List Phase) (worker other : ℕ) (old new : Phase) → worker < length phases → phase_in (slice_get phases worker) ≡ old → is_holding_net other old ≡ false →
    is_holding_net other new ≡ false → 0 + count_by (is_holding_net other) (slice_set phases worker new) ≡ count_by (is_holding_net other) phases
held-still phases worker other old new within is was free =
    let change = held-change phases worker other old new within is in
    let none : cond {A = ℕ} (is_holding_net other new) 1 0 ≡ 0 = ap (λ (b : Bool). cond {A = ℕ} b 1 0) free in
    let before : cond {A = ℕ} (is_holding_net other old) 1 0 ≡ 0 = ap (λ (b : Bool). cond {A = ℕ} b 1 0) was in
    omega (arith, change, none, before)

none-first : (r : ℕ) → r ≡ 0 → nat_lt 0 r ≡ false
none-first r first = ap (λ (n : ℕ). nat_lt 0 n) first

module _ (v : WorldView) (worker : ℕ) (claim : ClaimOf) (world : IsWorld v) (runs : v.over ≡ false) (one : worker < v.setting.workers)
    (in_range : IsClaim (capacity_of v.setting.design) (length v.history) claim) (tree : IsPlanOver v.setting (take claim.front v.history) claim)
    (late : nat_le (since_of v worker) claim.front ≡ true) where
  abbrev reply_now : Reply
  reply_now = reply_to_claim (capacity_of v.setting.design) v.history claim

  first-claim : (net : ℕ) → phase_before_end v worker ≡ Holding net → v.round ≡ 0 → is_claim_for net (kind_of 0) None claim ≡ true → (reply_now ≡ Claimed) × IsCallOf v worker (Claims claim) Idle
  first-claim net holds round is =
      let running = world.running runs in
      let s : Cut = cut v.history in
      let for_net = claim-for net (kind_of 0) None claim is in
      let now : s.round ≡ 0 = running.round ∙ round in
      let first = held-first v worker net running one holds in
      let within = held-within v worker net running one holds in
      let said : Entry = entry_by v (worker + 1) (Claims claim) in
      let free : booked v.history net ≡ None = none-is (booked v.history net) (running.apart.waiting net first.0 first.1 ∙ none-first s.round now) in
      let begun : (other : ℕ) → begins s.round other said ≡ (other == net) = λ other. first-begins s.round net other said claim now refl for_net.net_is in (
        unbounded-claimed (capacity_of v.setting.design) v.history claim (ap (λ (n : ℕ). booked v.history n) (sym for_net.net_is) ∙ free) (sym for_net.slack_is),
        record {
          one = one;
          other = refl;
          plain = ap is_given_kind (sym for_net.kind_is);
          in_range = in_range;
          planned = λ other same. claim-planned v worker claim other world.plain running late tree same;
          led = first-leads s.round net (stage_in (phase_before_end v worker)) said claim now refl (ap stage_in holds) is;
          first = λ other begins_is.
              subst (λ (n : ℕ). (is_due v.setting.design s.round s.before n ≡ true) × (attempts_at s.round n s.segment ≡ 0))
              (sym (same-net net other (sym (begun other) ∙ begins_is))) first;
          held = λ other.
              ap (λ (b : Bool). cond {A = ℕ} b 1 0 + count_by (is_holding_net other) (slice_set v.phases worker Idle)) (begun other)
              ∙ held-begun v.phases worker net other Idle within holds refl;
          right = tt;
        },
      )

  later-claim : (net tries since : ℕ) → phase_before_end v worker ≡ Trying net tries since → is_claim_for net (kind_of v.round) (slack_after tries) claim ≡ true →
      IsCallOf v worker (Claims claim) (phase_replied claim.net tries (length v.history + 1) reply_now)
  later-claim net tries since holds is =
      let running = world.running runs in
      let s : Cut = cut v.history in
      let new : Phase = phase_replied claim.net tries (length v.history + 1) reply_now in
      let right : IsPhaseRight s.round (since_of v worker) (Trying net tries since) = subst (λ (p : Phase). IsPhaseRight s.round (since_of v worker) p) holds (running.right worker) in
      let now : is_claim_for net (kind_of s.round) (slack_after tries) claim ≡ true =
      ap (λ (r : ℕ). is_claim_for net (kind_of r) (slack_after tries) claim) running.round ∙ is in
      let for_net = claim-for net (kind_of s.round) (slack_after tries) claim now in
      let stage : stage_in (phase_before_end v worker) ≡ Claiming net (drop tries slacks_of_turn) = ap stage_in holds in
      let free : booked v.history claim.net ≡ None =
      ap (λ (n : ℕ). booked v.history n) (sym for_net.net_is)
      ∙ running.apart.free (suc worker) net (drop tries slacks_of_turn) (running.stages (suc worker) ∙ stage) in
      let said : Entry = entry_by v (worker + 1) (Claims claim) in
      let unbegun : (other : ℕ) → begins s.round other said ≡ false = λ other. claim-begins s.round other said claim refl right.0 in
      record {
        one = one;
        other = refl;
        plain = ap is_given_kind (sym for_net.kind_is) ∙ kind-plain s.round;
        in_range = in_range;
        planned = λ other same. claim-planned v worker claim other world.plain running late tree same;
        led = later-leads s.round net tries (length v.history + 1) (stage_in (phase_before_end v worker)) said claim right.0 right.1 refl stage now;
        first = λ other begins_is. absurd (both_ways (begins s.round other said) (unbegun other) begins_is);
        held = λ other.
            ap (λ (b : Bool). cond {A = ℕ} b 1 0 + count_by (is_holding_net other) (slice_set v.phases worker new)) (unbegun other)
            ∙ held-still v.phases worker other (Trying net tries since) new
            (let count = running.phases in omega (arith, count, one)) holds refl (replied-free other claim.net tries (length v.history + 1) reply_now);
        right = right-replied s.round claim.net tries (length v.history + 1) reply_now right.0
            (λ full. full-tries tries (ap is_some for_net.slack_is ∙ full-slack (capacity_of v.setting.design) v.history claim claim.slack refl free full));
      }

pub claim-world : (v : WorldView) (worker : ℕ) (claim : ClaimOf) → IsWorld v → IsStep v (Claim worker claim) → is_allowed v (Claim worker claim) ≡ true →
    IsWorld (happens v (Claim worker claim))
claim-world v worker claim world step allowed =
    let parts = and_parts (nat_le (since_of v worker) claim.front) (allows_claim v.round (phase_at v worker) claim) allowed in
    let may = claiming-by v.over (phase_before_end v worker) v.round claim parts.1 in
    let phase_is : phase_at v worker ≡ phase_before_end v worker = ap (λ (b : Bool). if b then Ended else phase_before_end v worker) may.0 in
    by (phase_before_end v worker) refl phase_is parts.0 may.0 may.1
  where
    by : (phase : Phase) → phase_before_end v worker ≡ phase → phase_at v worker ≡ phase_before_end v worker → nat_le (since_of v worker) claim.front ≡ true → v.over ≡ false →
        allows_claim v.round phase claim ≡ true → IsWorld (happens v (Claim worker claim))
    by Idle is phase_is late runs may = absurd (both_ways false refl may)
    by Ended is phase_is late runs may = absurd (both_ways false refl may)
    by (Holding net) is phase_is late runs may =
        let parts = and_parts (v.round == 0) (is_claim_for net (kind_of 0) None claim) may in
        let test = parts.0 in
        let round : v.round ≡ 0 = grind (arith, nat_tests) in
        let done = first-claim v worker claim world runs step.0 step.1 step.2 late net is round parts.1 in
        let idle : phase_replied claim.net (tries_in (phase_at v worker)) (length v.history + 1) (reply_to_claim (capacity_of v.setting.design) v.history claim) ≡ Idle =
        ap (λ (r : Reply). phase_replied claim.net (tries_in (phase_at v worker)) (length v.history + 1) r) done.0 in
        subst (λ (p : Phase). IsWorld (with_entry_by v worker (Claims claim) p)) (sym idle) (call-world v worker (Claims claim) Idle world runs done.1)
    by (Trying net tries since) is phase_is late runs may =
        let call = later-claim v worker claim world runs step.0 step.1 step.2 late net tries since is may in
        let tried : tries_in (phase_at v worker) ≡ tries = ap tries_in (phase_is ∙ is) in
        subst (λ (n : ℕ). IsWorld (with_entry_by v worker (Claims claim) (phase_replied claim.net n (length v.history + 1) (reply_to_claim (capacity_of v.setting.design) v.history claim)))) (sym tried)
        (call-world v worker (Claims claim) (phase_replied claim.net tries (length v.history + 1) (reply_to_claim (capacity_of v.setting.design) v.history claim)) world runs call)
