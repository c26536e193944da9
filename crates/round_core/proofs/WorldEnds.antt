-- The state of the machine at first, and the end.
use Rattle.std.proofs.Common.{◌≡◌, ℕ, suc, zero, Bool, true, false, ◌&&◌, List, [], length, replicate, slice_get, Option, is_none, if◌then◌else◌, refl, sym, ap, subst, ◌∙◌, arith}
use Rattle.std.specs.List.{count_by}
use Rattle.std.proofs.lemmas.Bool.{both_ways}
use Rattle.std.proofs.lemmas.List.{length-replicate}
use Rattle.std.proofs.lemmas.Option.{none-some}
use Rattle.gr_base.proofs.DesignLemmas.{routed-below}
use Rattle.gr_base.specs.Designs.{is_routed}
use Rattle.gr_base.specs.Trees.{TreeView}
use Rattle.book_state.proofs.BookSteps.{booked-none}
use Rattle.book_state.specs.Cuts.{cut}
use Rattle.book_state.specs.declared.entry.Entry.{Entry}
use Rattle.run_histories.specs.Apart.{AreApartIn}
use Rattle.run_histories.specs.Attempts.{Rests}
use Rattle.run_histories.specs.RunHistories.{Setting, is_due, IsRunHistory}
use Rattle.round_core.specs.WorldRules.{stage_in, stage_at, is_holding_net, IsPhaseRight, IsRunning, IsWorld}
use Rattle.round_core.specs.Worlds.{WorldView, phase_in, phase_before_end, phase_at, since_in, since_of, at_first}
use Rattle.round_core.specs.declared.steps.Phase.{Phase}
use Rattle.round_core.specs.declared.steps.Phase.TheVariants.{Idle, Ended}
use Rattle.run_histories.proofs.GivenLemmas.{claims-nothing}
use Rattle.run_histories.proofs.JoiningLaw.{given-apart}
use Rattle.run_histories.proofs.RangeCounts.{times-kept}
use Rattle.run_histories.proofs.KeptRules.{first-rules}

-- the state at first
first-phase : (n worker : ℕ) → phase_in (slice_get (replicate n Idle) worker) ≡ Idle
first-phase zero worker = refl
first-phase (suc n) zero = refl
first-phase (suc n) (suc worker) = first-phase n worker

first-held : (n net : ℕ) → count_by (is_holding_net net) (replicate n Idle) ≡ 0
first-held zero net = refl
first-held (suc n) net = first-held n net

first-since : (n worker : ℕ) → since_in (slice_get (replicate n 0) worker) ≡ 0
first-since zero worker = refl
first-since (suc n) zero = refl
first-since (suc n) (suc worker) = first-since n worker

first-stages : (t : Setting) (number : ℕ) → Rests ≡ stage_at (at_first t) number
first-stages t zero = refl
first-stages t (suc worker) = ap stage_in (sym (first-phase t.workers worker))

-- without given trees the routed nets are due in round 0
first-due : (t : Setting) (net : ℕ) → is_due t.design 0 [] net ≡ is_routed t.design net
first-due t net = ap (λ (o : Option TreeView). is_routed t.design net && is_none o) (booked-none net) ∙ by (is_routed t.design net)
  where
    by : (b : Bool) → (b && true) ≡ b
    by true = refl
    by false = refl

first-apart : (t : Setting) → t.given ≡ [] → AreApartIn t.design [] (cut [])
first-apart t plain = subst (λ (h : List Entry). AreApartIn t.design h (cut h)) (claims-nothing t plain) (given-apart t.design t.given)

first-running : (t : Setting) → t.given ≡ [] → IsRunning (at_first t) (cut [])
unfolding cut
first-running t plain = record {
  round = refl;
  asked = λ later. absurd (omega (arith, later));
  phases = length-replicate t.workers Idle;
  since = length-replicate t.workers 0;
  stages = first-stages t;
  nets = λ net.
      let kept = times-kept (is_routed t.design) (length t.design.nets) net (routed-below t.design net) in
      let held = first-held t.workers net in
      let due = ap {B = ℕ} (λ (b : Bool). if b then 1 else 0) (first-due t net) in
      omega (arith, kept, held, due);
  last = λ worker place own there number. absurd (none-some own there);
  exact = λ worker some. let none = first-since t.workers worker in absurd (omega (arith, some, none));
  right = λ worker. subst (λ (p : Phase). IsPhaseRight 0 (since_of (at_first t) worker) p) (sym (first-phase t.workers worker)) tt;
  apart = first-apart t plain;
}

pub first-world : (t : Setting) → t.given ≡ [] → IsWorld (at_first t)
first-world t plain = record {
  plain = plain;
  rules = first-rules t plain;
  running = λ still. first-running t plain;
  ended = λ over. absurd (both_ways false refl over);
}

-- once a worker's phase is Ended, the history is a run history
never-ended : (round last : ℕ) (phase : Phase) → IsPhaseRight round last phase → phase ≡ Ended → ⊥
never-ended round last phase right is = subst (IsPhaseRight round last) is right

pub ended-run : (v : WorldView) (worker : ℕ) → IsWorld v → phase_at v worker ≡ Ended → IsRunHistory v.setting v.history
ended-run v worker world is = by v.over refl is
  where
    by : (over : Bool) → v.over ≡ over → (if over then Ended else phase_before_end v worker) ≡ Ended → IsRunHistory v.setting v.history
    by false runs is = let running = world.running runs in absurd (never-ended (cut v.history).round (since_of v worker) (phase_before_end v worker) (running.right worker) is)
    by true over is =
        let rules = world.rules in
        let ended = world.ended over in
        record {
          attempts = record { legal = rules.legal; given = rules.given; last = ended.last; numbers = rules.numbers; plans = rules.plans; whole = rules.whole; due = rules.due };
          granted = rules.granted;
          asked = rules.asked;
          over = ended.over;
        }
