-- What marks leave of a state of the machine.
use Rattle.std.proofs.Common.{◌≡◌, ℕ, suc, zero, ◌+◌, ◌<◌, ◌≤◌, inl, inr, Bool, true, false, not, ◌&&◌, ◌==◌, nat_lt, List, [], length, Option, Some, None, is_none, is_some, slice_get, if◌then◌else◌, IsTrue, refl, sym, ap, subst, ◌∙◌, arith}
use Rattle.std.specs.List.{count_by}
use Rattle.std.proofs.lemmas.Bool.{cases_Bool, both_ways, and_parts, not-true}
use Rattle.std.proofs.lemmas.Bool.Decides.{nat_tests}
use Rattle.std.proofs.lemmas.List.{nil_from_length}
use Rattle.std.proofs.lemmas.List.Sums.{fold_push}
use Rattle.cost_rules.specs.declared.sight.Going.{Going}
use Rattle.cost_rules.specs.declared.sight.Going.TheVariants.{On, Stop}
use Rattle.gr_base.specs.Designs.{is_routed}
use Rattle.grid_demand.specs.Tables.{capacity_of}
use Rattle.book_state.proofs.LegalHistories.{each-push, legal-push}
use Rattle.book_state.proofs.BookingLaws.{victim-booked}
use Rattle.book_state.specs.Books.{nets_of, booked, victims, is_victim}
use Rattle.book_state.specs.Cuts.{Cut, cut}
use Rattle.book_state.specs.Entries.{is_mark}
use Rattle.book_state.specs.declared.entry.Call.TheVariants.{Claim as Claims, Mark as Marks}
use Rattle.book_state.specs.declared.entry.Claim.{Claim as ClaimOf}
use Rattle.book_state.specs.declared.entry.Entry.{Entry}
use Rattle.run_histories.specs.Apart.{AreApartIn}
use Rattle.run_histories.specs.Attempts.{Rests, IsGranted}
use Rattle.run_histories.specs.Rounds.{marker}
use Rattle.run_histories.specs.RunHistories.{IsNumbered, IsPlanned, is_due, AreWhole, AreOfDue, says, IsAsked, IsOver}
use Rattle.round_core.specs.WorldRules.{stage_in, stage_at, times_in, IsPhaseRight, IsRunning, HasEnded, IsWorld}
use Rattle.round_core.specs.Worlds.{WorldView, phase_before_end, since_of, first_busy, entry_by, marked, is_on, goes_on, with_mark, is_allowed, happens}
use Rattle.round_core.specs.declared.steps.Phase.{Phase}
use Rattle.round_core.specs.declared.steps.Step.TheVariants.{Mark}
use Rattle.run_histories.proofs.CutSteps.{closed, cut-mark, closed-before}
use Rattle.round_core.proofs.HeldCounts.{all-idle, none-held}
use Rattle.run_histories.proofs.JoiningLaw.{AreHeld, all-held, mark-apart}
use Rattle.run_histories.proofs.RangeCounts.{times-kept}
use Rattle.run_histories.proofs.TurnLemmas.{routed-within}
use Rattle.round_core.proofs.WorldSteps.{entry-cases, own-kept}
use Rattle.run_histories.proofs.GivenLemmas.{begins-push}
use Rattle.run_histories.specs.RunHistories.{KeepsRules}

-- a mark at which every worker is idle, and no net is left
none-busy : (o : Option Phase) → is_none o ≡ true → o ≡ None
none-busy None is = refl
none-busy (Some phase) is = absurd (both_ways false refl is)

on-says : (going : Going) → is_on going ≡ true → going ≡ On
on-says On is = refl
on-says Stop is = absurd (both_ways false refl is)

stop-says : (going : Going) → is_on going ≡ false → going ≡ Stop
stop-says On is = absurd (both_ways true is refl)
stop-says Stop is = refl

module _ (v : WorldView) (world : IsWorld v) (runs : v.over ≡ false) (idle : first_busy v.phases ≡ None) (empty : v.left ≡ []) where
  abbrev cut_here : Cut
  cut_here = cut v.history

  abbrev mark_entry : Entry
  mark_entry = entry_by v marker Marks

  abbrev still_running : IsRunning v cut_here
  still_running = world.running runs

  mark-whole : AreWhole cut_here
  mark-whole number = still_running.stages number ∙ by number
    where
      by : (number : ℕ) → stage_at v number ≡ Rests
      by zero = refl
      by (suc worker) = ap stage_in (all-idle v.phases idle worker)

  mark-due : AreOfDue v.setting.design cut_here
  mark-due net =
      let times = still_running.nets net in
      let held = none-held v.phases idle net in
      let left : count_by (λ (left : ℕ). left == net) v.left ≡ 0 = ap (λ (nets : List ℕ). count_by (λ (left : ℕ). left == net) nets) empty in
      omega (arith, times, held, left)

  mark-rules : KeepsRules v.setting (marked v)
  mark-rules =
      let rules = world.rules in
      record {
        legal = legal-push (capacity_of v.setting.design) v.history mark_entry rules.legal (record { call = tt; reply = refl });
        given = begins-push v.setting v.history mark_entry rules.given refl;
        numbers = each-push (λ before e. IsNumbered v.setting.workers e.call e.number) v.history mark_entry rules.numbers refl;
        plans = each-push (λ before e. (claim : ClaimOf) → e.call ≡ Claims claim → IsPlanned v.setting before e.number claim) v.history mark_entry rules.plans (λ claim is. absurd (cc));
        granted = each-push (λ before e. IsGranted e.call e.reply) v.history mark_entry rules.granted tt;
        whole = each-push (λ before e. IsTrue (is_mark e) → AreWhole (cut before)) v.history mark_entry rules.whole (λ mark. mark-whole);
        due = each-push (λ before e. IsTrue (is_mark e) → AreOfDue v.setting.design (cut before)) v.history mark_entry rules.due (λ mark. mark-due);
        asked = each-push (λ before e. IsTrue (is_mark e) → 0 < (cut before).round → IsAsked v.setting (cut before)) v.history mark_entry rules.asked (λ mark later. still_running.asked later);
      }

  mark-booked : AreHeld v.setting.design v.history
  mark-booked = all-held v.setting.design v.history cut_here still_running.apart mark-whole mark-due

  now-apart : AreApartIn v.setting.design (marked v) (closed cut_here mark_entry)
  now-apart =
      subst (λ (s : Cut). AreApartIn v.setting.design (marked v) s) (cut-mark v.history mark_entry refl)
      (mark-apart v.setting.design v.history mark_entry refl mark-booked)

  mark-last : (worker place : ℕ) (own : Entry) → slice_get (marked v) place ≡ Some own → own.number ≡ suc worker → place < since_of v worker
  mark-last worker place own there number = elim (entry-cases v.history mark_entry own place there) [
    | inl before ↦ still_running.last worker place own before number
    | inr here ↦
        let mine : 0 ≡ suc worker = ap (λ (e : Entry). e.number) here.1 ∙ number in
        absurd (omega (arith, mine))
  ]

  mark-right : (round worker : ℕ) → IsPhaseRight round (since_of v worker) (phase_before_end v worker)
  mark-right round worker = subst (λ (p : Phase). IsPhaseRight round (since_of v worker) p) (sym (all-idle v.phases idle worker)) tt

  -- the victims are due in the round after
  victim-below : (net : ℕ) → is_victim (capacity_of v.setting.design) (marked v) net ≡ true → net < nets_of (capacity_of v.setting.design)
  victim-below net is = elim (cases_Bool (is_routed v.setting.design net)) [
    | inl on ↦ routed-within v.setting.design (capacity_of v.setting.design) net refl on
    | inr off ↦
        absurd (both_ways (is_some (booked (marked v) net)) (ap is_some (now-apart.off net off))
        (victim-booked (capacity_of v.setting.design) (marked v) net is))
  ]

  next-nets : (net : ℕ) → times_in (with_mark v true) (closed cut_here mark_entry) net
      ≡ (if is_due v.setting.design (cut_here.round + 1) (closed cut_here mark_entry).before net then 1 else 0)
  next-nets net =
      let kept = times-kept (is_victim (capacity_of v.setting.design) (marked v)) (nets_of (capacity_of v.setting.design)) net (victim-below net) in
      let held = none-held v.phases idle net in
      let times : times_in (with_mark v true) (closed cut_here mark_entry) net ≡ (if is_due v.setting.design (suc cut_here.round) (marked v) net then 1 else 0) = omega (arith, kept, held) in
      let next : suc cut_here.round ≡ cut_here.round + 1 = omega arith in
      times
      ∙ ap (λ (r : ℕ). if is_due v.setting.design r (marked v) net then 1 else 0) next
      ∙ ap (λ (k : List Entry). if is_due v.setting.design (cut_here.round + 1) k net then 1 else 0) (sym (closed-before v.history mark_entry))

  next-asked : goes_on v.setting v.round (marked v) ≡ true → IsAsked v.setting (closed cut_here mark_entry)
  next-asked on =
      let tests = and_parts (nat_lt v.round v.setting.rounds) (nat_lt 0 (length (victims (capacity_of v.setting.design) (marked v))) && is_on (says v.setting (marked v))) on in
      let more = and_parts (nat_lt 0 (length (victims (capacity_of v.setting.design) (marked v)))) (is_on (says v.setting (marked v))) tests.1 in
      let round = still_running.round in
      let below = tests.0 in
      let some = more.0 in
      let less : v.round < v.setting.rounds = grind (arith, nat_tests) in
      let any : 0 < length (victims (capacity_of v.setting.design) (marked v)) = grind (arith, nat_tests) in
      let before = closed-before v.history mark_entry in
      record {
        some = subst (λ (k : List Entry). 0 < length (victims (capacity_of v.setting.design) k)) (sym before) any;
        most = omega (arith, round, less);
        on = ap (λ (k : List Entry). says v.setting k) before ∙ on-says (says v.setting (marked v)) more.1;
      }

  next-running : goes_on v.setting v.round (marked v) ≡ true → IsRunning (with_mark v true) (closed cut_here mark_entry)
  next-running on = record {
    round = ap (λ (r : ℕ). r + 1) still_running.round;
    asked = λ later. next-asked on;
    phases = still_running.phases;
    since = still_running.since;
    stages = λ number. sym (sym (still_running.stages number) ∙ mark-whole number);
    nets = next-nets;
    last = mark-last;
    exact = λ worker some. own-kept v.history mark_entry worker (since_of v worker) (still_running.exact worker some);
    right = mark-right (cut_here.round + 1);
    apart = now-apart;
  }

  round-most : cut_here.round ≤ v.setting.rounds
  round-most = by cut_here.round refl
    where
      by : (r : ℕ) → cut_here.round ≡ r → r ≤ v.setting.rounds
      by zero is = omega arith
      by (suc r) is =
          let later : 0 < cut_here.round = omega (arith, is) in
          let most = (still_running.asked later).most in
          omega (arith, most, is)

  rounds-over : goes_on v.setting v.round (marked v) ≡ false → HasEnded v.setting (marked v)
  rounds-over off = record {
    last = fold_push (λ (last : Bool) (e : Entry). is_mark e) false v.history mark_entry;
    over = by (nat_lt v.round v.setting.rounds) refl (nat_lt 0 (length (victims (capacity_of v.setting.design) (marked v)))) refl off;
  }
    where
      by : (b : Bool) → nat_lt v.round v.setting.rounds ≡ b → (a : Bool) → nat_lt 0 (length (victims (capacity_of v.setting.design) (marked v))) ≡ a →
          goes_on v.setting v.round (marked v) ≡ false → IsOver v.setting (marked v)
      by false below a some off =
          let round = still_running.round in
          let most = round-most in
          let last : v.setting.rounds ≤ v.round = grind (arith, nat_tests) in
          let cut_round : (cut (marked v)).round ≡ cut_here.round + 1 = ap (λ (s : Cut). s.round) (cut-mark v.history mark_entry refl) in
          inl (omega (arith, round, most, last, cut_round))
      by true below false some off =
          let none : length (victims (capacity_of v.setting.design) (marked v)) ≡ 0 = grind (arith, nat_tests) in
          inr (inl (nil_from_length (victims (capacity_of v.setting.design) (marked v)) none))
      by true below true some off =
          let on : goes_on v.setting v.round (marked v) ≡ is_on (says v.setting (marked v)) =
          ap (λ (b : Bool). b && (nat_lt 0 (length (victims (capacity_of v.setting.design) (marked v))) && is_on (says v.setting (marked v)))) below
          ∙ ap (λ (b : Bool). b && is_on (says v.setting (marked v))) some in
          inr (inr (stop-says (says v.setting (marked v)) (sym on ∙ off)))

  mark-on : (on : Bool) → goes_on v.setting v.round (marked v) ≡ on → IsWorld (with_mark v on)
  mark-on true is = record {
    plain = world.plain;
    rules = mark-rules;
    running = λ still. subst (λ (s : Cut). IsRunning (with_mark v true) s) (sym (cut-mark v.history mark_entry refl)) (next-running is);
    ended = λ over. absurd (both_ways false refl over);
  }
  mark-on false is = record {
    plain = world.plain;
    rules = mark-rules;
    running = λ still. absurd (both_ways true still refl);
    ended = λ over. rounds-over is;
  }

-- a mark that is allowed
pub record IsMarkAllowed (v : WorldView) : Type 0 where
  pub runs : v.over ≡ false
  pub idle : first_busy v.phases ≡ None
  pub empty : v.left ≡ []

pub mark-allowed : (v : WorldView) → is_allowed v Mark ≡ true → IsMarkAllowed v
mark-allowed v allowed =
    let parts = and_parts (not v.over) (is_none (first_busy v.phases) && (length v.left == 0)) allowed in
    let more = and_parts (is_none (first_busy v.phases)) (length v.left == 0) parts.1 in
    let none = more.1 in
    let empty : length v.left ≡ 0 = grind (arith, nat_tests) in
    record { runs = not-true v.over parts.0; idle = none-busy (first_busy v.phases) more.0; empty = nil_from_length v.left empty }

pub marked-world : (v : WorldView) → IsWorld v → is_allowed v Mark ≡ true → IsWorld (happens v Mark)
marked-world v world allowed =
    let may = mark-allowed v allowed in
    mark-on v world may.runs may.idle may.empty (goes_on v.setting v.round (marked v)) refl
