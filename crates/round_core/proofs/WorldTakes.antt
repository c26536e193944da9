-- What takes leave of a state of the machine.
use Rattle.std.proofs.Common.{◌≡◌, ℕ, suc, zero, ◌+◌, ◌<◌, ◌≤◌, inl, inr, Bool, true, false, cond, not, ◌==◌, length, Option, slice_set, if◌then◌else◌, refl, sym, ap, subst, ◌∙◌, arith, length-set}
use Rattle.std.specs.List.{filter, count_by, list_any}
use Rattle.std.proofs.lemmas.Bool.{both_ways, and_parts}
use Rattle.std.proofs.lemmas.Bool.Decides.{nat_tests}
use Rattle.book_state.proofs.ReplicaSteps.{is_same}
use Rattle.book_state.specs.Cuts.{Cut, cut}
use Rattle.book_state.specs.Entries.{calls_of}
use Rattle.run_histories.specs.Attempts.{stage_of}
use Rattle.run_histories.specs.RunHistories.{is_due}
use Rattle.round_core.specs.WorldRules.{stage_in, stage_at, is_holding_net, times_in, IsPhaseRight, IsRunning, IsWorld}
use Rattle.round_core.specs.Worlds.{WorldView, phase_in, phase_before_end, phase_at, since_of, is_left, is_idle, with_taken, is_allowed, happens}
use Rattle.round_core.specs.declared.steps.Phase.{Phase}
use Rattle.round_core.specs.declared.steps.Phase.TheVariants.{Idle, Holding, Trying, Ended}
use Rattle.round_core.specs.declared.steps.Step.TheVariants.{Take}
use Rattle.round_core.proofs.HeldCounts.{held-change, left-some, taken-none, taken-other}
use Rattle.run_histories.proofs.ListPlaces.{set-here}
use Rattle.run_histories.proofs.ListPlaces.{set-elsewhere}

-- a worker that may take a net is idle, before the end
idle-by : (over : Bool) (phase : Phase) → is_idle (if over then Ended else phase) ≡ true → (over ≡ false) × (phase ≡ Idle)
idle-by true phase is = absurd (both_ways false refl is)
idle-by false Idle is = (refl, refl)
idle-by false (Holding net) is = absurd (both_ways false refl is)
idle-by false (Trying net tries since) is = absurd (both_ways false refl is)
idle-by false Ended is = absurd (both_ways false refl is)

one-at-most : (due : Bool) → (if due then 1 else 0) ≤ 1
one-at-most true = omega arith
one-at-most false = omega arith

module _ (v : WorldView) (worker net : ℕ) (world : IsWorld v) (one : worker < v.setting.workers) (runs : v.over ≡ false) (idle : phase_before_end v worker ≡ Idle)
    (left : is_left v net ≡ true) where
  abbrev cut_now : Cut
  cut_now = cut v.history

  abbrev taken : WorldView
  taken = with_taken v worker net

  abbrev running : IsRunning v cut_now
  running = world.running runs

  within : worker < length v.phases
  within = let is = running.phases in omega (arith, is, one)

  take-stages : (number : ℕ) → stage_of cut_now.round (calls_of number cut_now.segment) ≡ stage_at taken number
  take-stages zero = running.stages 0
  take-stages (suc other) = elim (is_same other worker) [
    | inl same ↦
        running.stages (suc other) ∙ ap (λ (w : ℕ). stage_in (phase_before_end v w)) same ∙ ap stage_in idle
        ∙ ap (λ (o : Option Phase). stage_in (phase_in o)) (sym (set-here v.phases worker (Holding net) within))
        ∙ ap (λ (w : ℕ). stage_in (phase_before_end taken w)) (sym same)
    | inr apart ↦
        running.stages (suc other) ∙ ap (λ (o : Option Phase). stage_in (phase_in o)) (sym (set-elsewhere v.phases worker (Holding net) other apart))
  ]

  take-right : (who : ℕ) → IsPhaseRight cut_now.round (since_of v who) (phase_before_end taken who)
  take-right who = elim (is_same who worker) [
    | inl same ↦
        subst (λ (w : ℕ). IsPhaseRight cut_now.round (since_of v w) (phase_before_end taken w)) (sym same)
        (subst (λ (o : Option Phase). IsPhaseRight cut_now.round (since_of v worker) (phase_in o)) (sym (set-here v.phases worker (Holding net) within)) tt)
    | inr apart ↦
        subst (λ (o : Option Phase). IsPhaseRight cut_now.round (since_of v who) (phase_in o)) (sym (set-elsewhere v.phases worker (Holding net) who apart))
        (running.right who)
  ]

  take-held : (other : ℕ) → count_by (is_holding_net other) (slice_set v.phases worker (Holding net)) ≡ count_by (is_holding_net other) v.phases + cond (other == net) 1 0
  take-held other = let change = held-change v.phases worker other Idle (Holding net) within idle in omega (arith, change)

  take-nets : (other : ℕ) → times_in taken cut_now other ≡ (if is_due v.setting.design cut_now.round cut_now.before other then 1 else 0)
  take-nets other =
      let held = take-held other in
      let before = running.nets other in
      let most = one-at-most (is_due v.setting.design cut_now.round cut_now.before other) in
      elim (is_same other net) [
        | inl same ↦
            let some : 0 < count_by (λ (left : ℕ). left == other) v.left = left-some v.left other (ap (λ (n : ℕ). list_any (λ (left : ℕ). left == n) v.left) same ∙ left) in
            let none : count_by (λ (left : ℕ). left == other) (filter (λ (left : ℕ). not (left == net)) v.left) ≡ 0 =
            ap (λ (n : ℕ). count_by (λ (left : ℕ). left == n) (filter (λ (left : ℕ). not (left == net)) v.left)) same ∙ taken-none v.left net in
            let itself : (other == net) ≡ true = grind (arith, nat_tests) in
            let once : cond {A = ℕ} (other == net) 1 0 ≡ 1 = ap (λ (b : Bool). cond {A = ℕ} b 1 0) itself in
            omega (arith, held, before, most, some, none, once)
        | inr apart ↦
            let still = taken-other v.left net other apart in
            let another : (other == net) ≡ false = grind (arith, nat_tests) in
            let never : cond {A = ℕ} (other == net) 1 0 ≡ 0 = ap (λ (b : Bool). cond {A = ℕ} b 1 0) another in
            omega (arith, held, before, still, never)
      ]

  take-world : IsWorld taken
  take-world = record {
    plain = world.plain;
    rules = world.rules;
    running = λ still. record {
      round = running.round;
      asked = running.asked;
      phases = length-set v.phases worker (Holding net) ∙ running.phases;
      since = running.since;
      stages = take-stages;
      nets = take-nets;
      last = running.last;
      exact = running.exact;
      right = take-right;
      apart = running.apart;
    };
    ended = λ over. absurd (both_ways v.over runs over);
  }

pub taken-world : (v : WorldView) (worker net : ℕ) → IsWorld v → worker < v.setting.workers → is_allowed v (Take worker net) ≡ true → IsWorld (happens v (Take worker net))
taken-world v worker net world one allowed =
    let parts = and_parts (is_idle (phase_at v worker)) (is_left v net) allowed in
    let idle = idle-by v.over (phase_before_end v worker) parts.0 in
    take-world v worker net world one idle.0 idle.1 parts.1
