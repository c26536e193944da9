-- What the calls of workers leave of a state of the machine.
use Rattle.std.proofs.Common.{◌≡◌, ◌⊎◌, ℕ, suc, zero, ◌+◌, ◌<◌, inl, inr, true, false, cond, List, [], ◌∷◌, ◌++◌, length, Some, slice_get, slice_set, if◌then◌else◌, IsTrue, refl, sym, ap, subst, ◌∙◌, arith, length-set}
use Rattle.std.specs.List.{count_by}
use Rattle.std.proofs.lemmas.Bool.{cases_lt, both_ways}
use Rattle.std.proofs.lemmas.List.{length_push}
use Rattle.std.proofs.lemmas.Option.{slice_get_within, same_Some}
use Rattle.grid_demand.specs.Tables.{capacity_of}
use Rattle.book_state.proofs.HistoryLists.{slice_get-left, slice_get-right}
use Rattle.book_state.proofs.LegalHistories.{each-push, legal-push}
use Rattle.book_state.proofs.ReplicaSteps.{is_same}
use Rattle.book_state.specs.Books.{IsCall, IsRight}
use Rattle.book_state.specs.Cuts.{Cut, cut, AtMarks}
use Rattle.book_state.specs.Entries.{is_mark, is_mark_call, is_given_call, calls_of}
use Rattle.book_state.specs.declared.entry.Call.{Call}
use Rattle.book_state.specs.declared.entry.Call.TheVariants.{Claim as Claims, Release as Releases, Mark as Marks}
use Rattle.book_state.specs.declared.entry.Claim.{Claim as ClaimOf}
use Rattle.book_state.specs.declared.entry.Entry.{Entry}
use Rattle.run_histories.specs.Attempts.{Stage, Broken, stage_after, stage_of, begins, attempts_at, IsGranted}
use Rattle.run_histories.specs.RunHistories.{IsNumbered, IsPlanned, is_due, AreWhole, AreOfDue, IsAsked}
use Rattle.round_core.specs.WorldRules.{HasOwnBefore, stage_in, stage_at, is_holding_net, times_in, IsPhaseRight, IsRunning, IsWorld}
use Rattle.round_core.specs.Worlds.{WorldView, phase_in, phase_before_end, since_in, since_of, entry_by, with_entry_by}
use Rattle.round_core.specs.declared.steps.Phase.{Phase}
use Rattle.round_core.specs.declared.steps.Phase.TheVariants.{Idle, Holding, Trying, Ended}
use Rattle.run_histories.proofs.Answered.{GoesWell, answered}
use Rattle.run_histories.proofs.CutSteps.{grown, cut-other, unended}
use Rattle.run_histories.proofs.GivenLemmas.{begins-push}
use Rattle.run_histories.proofs.StageSteps.{stage-own, stage-other, attempts-push}
use Rattle.run_histories.proofs.ListPlaces.{set-here}
use Rattle.run_histories.proofs.ListPlaces.{set-elsewhere}
use Rattle.run_histories.specs.RunHistories.{KeepsRules}
use Rattle.run_histories.proofs.KeptRules.{one-more}

-- a call of a worker that leaves it in a phase: the call is in range and part of an attempt, which it may begin at a
-- net that the worker held
pub record IsCallOf (v : WorldView) (worker : ℕ) (call : Call) (phase : Phase) : Type 0 where
  pub one : worker < v.setting.workers
  pub other : is_mark_call call ≡ false
  pub plain : is_given_call call ≡ false
  pub in_range : IsCall (capacity_of v.setting.design) (length v.history) call
  pub planned : (claim : ClaimOf) → call ≡ Claims claim → IsPlanned v.setting v.history (worker + 1) claim
  pub led : stage_after (cut v.history).round (stage_in (phase_before_end v worker)) (entry_by v (worker + 1) call) ≡ stage_in phase
  pub first : (net : ℕ) → begins (cut v.history).round net (entry_by v (worker + 1) call) ≡ true →
      (is_due v.setting.design (cut v.history).round (cut v.history).before net ≡ true) × (attempts_at (cut v.history).round net (cut v.history).segment ≡ 0)
  pub held : (net : ℕ) → cond {A = ℕ} (begins (cut v.history).round net (entry_by v (worker + 1) call)) 1 0 + count_by (is_holding_net net) (slice_set v.phases worker phase)
      ≡ count_by (is_holding_net net) v.phases
  pub right : IsPhaseRight (cut v.history).round (length v.history + 1) phase

stage-unbroken : (phase : Phase) → stage_in phase ≡ Broken → ⊥
stage-unbroken Idle is = cc
stage-unbroken (Holding net) is = cc
stage-unbroken (Trying net tries since) is = cc
stage-unbroken Ended is = cc

numbered : (workers worker : ℕ) (call : Call) → worker < workers → is_mark_call call ≡ false → IsNumbered workers call (worker + 1)
numbered workers worker (Claims claim) one other = (omega arith, omega arith)
numbered workers worker (Releases net) one other = (omega arith, omega arith)
numbered workers worker Marks one other = absurd (both_ways true other refl)

marks-other : (P : Cut → Type 0) (h : List Entry) (e : Entry) → is_mark e ≡ false → AtMarks P h → AtMarks P (h ++ e ∷ [])
marks-other P h e other each = each-push (λ before x. IsTrue (is_mark x) → P (cut before)) h e each (λ mark. absurd (both_ways (is_mark e) other mark))

-- a worker's last entry stands where it stood
pub own-kept : (h : List Entry) (e : Entry) (worker since : ℕ) → HasOwnBefore h worker since → HasOwnBefore (h ++ e ∷ []) worker since
own-kept h e worker since own = record {
  place = own.place;
  since_is = own.since_is;
  own = own.own;
  there = slice_get-left h (e ∷ []) own.place (slice_get_within h own.place own.own own.there) ∙ own.there;
  number = own.number;
}

-- the entry at a place, with one more entry
pub entry-cases : (h : List Entry) (e own : Entry) (place : ℕ) → slice_get (h ++ e ∷ []) place ≡ Some own → (slice_get h place ≡ Some own) ⊎ ((place ≡ length h) × (e ≡ own))
entry-cases h e own place there = elim (cases_lt place (length h)) [
  | inl before ↦ inl (sym (slice_get-left h (e ∷ []) place before) ∙ there)
  | inr after ↦
      let within = slice_get_within (h ++ e ∷ []) place own there in
      let long = length_push h e in
      let here : place ≡ length h = omega (arith, within, long) in
      inr (here, same_Some e own (sym (slice_get-right h (e ∷ []) place 0 (omega (arith, here))) ∙ there))
]

module _ (v : WorldView) (worker : ℕ) (call : Call) (phase : Phase) (world : IsWorld v) (runs : v.over ≡ false) (by : IsCallOf v worker call phase) where
  abbrev said : Entry
  said = entry_by v (worker + 1) call

  abbrev cut_now : Cut
  cut_now = cut v.history

  abbrev called : WorldView
  called = with_entry_by v worker call phase

  call-right : IsRight (capacity_of v.setting.design) v.history said
  call-right = record { call = by.in_range; reply = refl }

  own-stage : stage_of cut_now.round (calls_of (worker + 1) cut_now.segment) ≡ stage_in (phase_before_end v worker)
  own-stage =
      ap (λ (n : ℕ). stage_of cut_now.round (calls_of n cut_now.segment)) (one-more worker) ∙ (world.running runs).stages (suc worker)

  next-stage : stage_of cut_now.round (calls_of (worker + 1) (cut_now.segment ++ said ∷ [])) ≡ stage_in phase
  next-stage =
      stage-own cut_now.round (worker + 1) cut_now.segment said refl
      ∙ ap (λ (s : Stage). stage_after cut_now.round s said) own-stage ∙ by.led

  call-well : GoesWell v.setting.design cut_now.round cut_now.before v.history cut_now.segment said
  call-well =
      answered (capacity_of v.setting.design) v.setting.design cut_now.before v.history cut_now.segment said cut_now.round
      (record { right = call-right; unbroken = λ broken. stage-unbroken phase (sym next-stage ∙ broken); first = by.first })
      (world.running runs).apart

  call-rules : KeepsRules v.setting called.history
  call-rules =
      let rules = world.rules in
      record {
        legal = legal-push (capacity_of v.setting.design) v.history said rules.legal call-right;
        given = begins-push v.setting v.history said rules.given by.plain;
        numbers = each-push (λ before e. IsNumbered v.setting.workers e.call e.number) v.history said rules.numbers
            (numbered v.setting.workers worker call by.one by.other);
        plans = each-push (λ before e. (claim : ClaimOf) → e.call ≡ Claims claim → IsPlanned v.setting before e.number claim) v.history said rules.plans by.planned;
        granted = each-push (λ before e. IsGranted e.call e.reply) v.history said rules.granted call-well.granted;
        whole = marks-other AreWhole v.history said by.other rules.whole;
        due = marks-other (AreOfDue v.setting.design) v.history said by.other rules.due;
        asked = marks-other (λ s. 0 < s.round → IsAsked v.setting s) v.history said by.other rules.asked;
      }

  within-phases : worker < length v.phases
  within-phases = let is = (world.running runs).phases in let one = by.one in omega (arith, is, one)

  within-since : worker < length v.since
  within-since = let is = (world.running runs).since in let one = by.one in omega (arith, is, one)

  phase-own : phase_before_end called worker ≡ phase
  phase-own = ap phase_in (set-here v.phases worker phase within-phases)

  phase-other : (other : ℕ) → (other ≡ worker → ⊥) → phase_before_end called other ≡ phase_before_end v other
  phase-other other apart = ap phase_in (set-elsewhere v.phases worker phase other apart)

  since-own : since_of called worker ≡ length v.history + 1
  since-own = ap since_in (set-here v.since worker (length v.history + 1) within-since)

  since-other : (other : ℕ) → (other ≡ worker → ⊥) → since_of called other ≡ since_of v other
  since-other other apart = ap since_in (set-elsewhere v.since worker (length v.history + 1) other apart)

  call-stages : (number : ℕ) → stage_of cut_now.round (calls_of number (cut_now.segment ++ said ∷ [])) ≡ stage_at called number
  call-stages zero =
      stage-other cut_now.round 0 cut_now.segment said (λ is. absurd (omega (arith, is))) ∙ (world.running runs).stages 0
  call-stages (suc other) = elim (is_same other worker) [
    | inl same ↦
        let number : suc other ≡ worker + 1 = omega (arith, same) in
        ap (λ (n : ℕ). stage_of cut_now.round (calls_of n (cut_now.segment ++ said ∷ []))) number ∙ next-stage
        ∙ ap stage_in (sym phase-own) ∙ ap (λ (w : ℕ). stage_in (phase_before_end called w)) (sym same)
    | inr apart ↦
        stage-other cut_now.round (suc other) cut_now.segment said (λ is. apart (omega (arith, is)))
        ∙ (world.running runs).stages (suc other) ∙ ap stage_in (sym (phase-other other apart))
  ]

  call-nets : (net : ℕ) → times_in called (grown cut_now (said ∷ [])) net ≡ (if is_due v.setting.design cut_now.round cut_now.before net then 1 else 0)
  call-nets net =
      let due : ℕ = if is_due v.setting.design cut_now.round cut_now.before net then 1 else 0 in
      let before : times_in v cut_now net ≡ due = (world.running runs).nets net in
      let more = attempts-push cut_now.round net cut_now.segment said in
      let held = by.held net in
      let is : times_in called (grown cut_now (said ∷ [])) net ≡ times_in v cut_now net = omega (arith, more, held) in
      is ∙ before

  call-last : (who place : ℕ) (own : Entry) → slice_get called.history place ≡ Some own → own.number ≡ suc who → place < since_of called who
  call-last who place own there number = elim (is_same who worker) [
    | inl same ↦
        let last : since_of called who ≡ length v.history + 1 = ap (λ (w : ℕ). since_of called w) same ∙ since-own in
        let within = slice_get_within called.history place own there in
        let long = length_push v.history said in
        omega (arith, last, within, long)
    | inr apart ↦ elim (entry-cases v.history said own place there) [
      | inl before ↦ subst (λ (n : ℕ). place < n) (sym (since-other who apart)) ((world.running runs).last who place own before number)
      | inr here ↦
          let mine : worker + 1 ≡ suc who = ap (λ (e : Entry). e.number) here.1 ∙ number in
          absurd (apart (omega (arith, mine)))
    ]
  ]

  call-exact : (who : ℕ) → 0 < since_of called who → HasOwnBefore called.history who (since_of called who)
  call-exact who some = elim (is_same who worker) [
    | inl same ↦
        let last : since_of called who ≡ length v.history + 1 = ap (λ (w : ℕ). since_of called w) same ∙ since-own in
        record {
          place = length v.history;
          since_is = omega (arith, last);
          own = said;
          there = slice_get-right v.history (said ∷ []) (length v.history) 0 (omega arith);
          number = omega (arith, same);
        }
    | inr apart ↦
        let other = since-other who apart in
        subst (HasOwnBefore called.history who) (sym other) (own-kept v.history said who (since_of v who) ((world.running runs).exact who (omega (arith, some, other))))
  ]

  call-right_phase : (who : ℕ) → IsPhaseRight cut_now.round (since_of called who) (phase_before_end called who)
  call-right_phase who = elim (is_same who worker) [
    | inl same ↦
        subst (λ (w : ℕ). IsPhaseRight cut_now.round (since_of called w) (phase_before_end called w)) (sym same)
        (subst (λ (n : ℕ). IsPhaseRight cut_now.round n (phase_before_end called worker)) (sym since-own)
        (subst (λ (p : Phase). IsPhaseRight cut_now.round (length v.history + 1) p) (sym phase-own) by.right))
    | inr apart ↦
        subst (λ (n : ℕ). IsPhaseRight cut_now.round n (phase_before_end called who)) (sym (since-other who apart))
        (subst (λ (p : Phase). IsPhaseRight cut_now.round (since_of v who) p) (sym (phase-other who apart)) ((world.running runs).right who))
  ]

  call-running : IsRunning called (grown cut_now (said ∷ []))
  call-running =
      let running = world.running runs in
      record {
        round = running.round;
        asked = λ later. let asked = running.asked later in record { some = asked.some; most = asked.most; on = asked.on };
        phases = length-set v.phases worker phase ∙ running.phases;
        since = length-set v.since worker (length v.history + 1) ∙ running.since;
        stages = call-stages;
        nets = call-nets;
        last = call-last;
        exact = call-exact;
        right = call-right_phase;
        apart = call-well.apart;
      }

  pub call-world : IsWorld called
  call-world = record {
    plain = world.plain;
    rules = call-rules;
    running = λ still. subst (λ (s : Cut). IsRunning called s) (sym (cut-other v.history said (unended said by.other by.plain))) call-running;
    ended = λ over. absurd (both_ways v.over runs over);
  }
