use Rattle.std.proofs.Common.{◌≡◌, ℕ, List, ◌+◌, length, All, IsTrue, refl, sym, subst, ◌∙◌, arith}
use Rattle.gr_base.specs.Designs.{is_routed}
use Rattle.book_state.specs.declared.entry.Entry.{Entry}
use Rattle.batch_rounds.specs.BatchedHistories.{claims_given, nets_due, IsRound}
use Rattle.batch_rounds.specs.Rounds.{batching_of}
use Rattle.batch_rounds.proofs.HeldNets.{IsReady, ready-first, ready-next, round-stands}
use Rattle.batch_rounds.proofs.RoundSteps.{few-victims, few-open, goes-on, stops-last, run-first, run-more}
use Rattle.batch_rounds.proofs.run.run_rounds.Goals as goal
use Rattle.run_histories.proofs.KeptRules.{one-more}

pub invariant_of-first : goal.invariant_of-first
invariant_of-first g c =
    let t = batching_of c.args.asked.now in
    let nets = c.deref.ensures.value ∙ c.in_ok-nets.ensures.nets in
    record {
      reached = omega arith;
      routed = subst (All (λ (net : ℕ). IsTrue (is_routed t.design net))) (sym nets) (ready-first t c.args.asked.now.fits).routed;
      count = few-open c.args.asked.now.design.now c.args.asked.now.given.now c.deref.result.now nets c.in_ok-nets.ensures.few;
    }

pub loop-done-init : goal.loop-done-init
loop-done-init g c =
    let t = batching_of c.args.asked.now in
    let new = c.run_round.new.book.history in
    let made = c.in_ok-victims.ensures in
    let first = subst (λ (h : List Entry). IsRound t 0 h new) c.requires.given made.round in
    record {
      capacity = made.capacity;
      legal = made.legal;
      victims = made.victims;
      stands = (round-stands t 0 (claims_given t) new (ready-first t c.args.asked.now.fits) first).stands;
      run = run-first t new first;
    }

pub invariant_of-next : goal.invariant_of-next
invariant_of-next g c =
    let t = batching_of c.args.asked.now in
    let inv = c.loop-done.invariant in
    let below = c.loop-done-test.true in
    let nets = c.as_slice-in-loop-done.ensures ∙ inv.victims in
    record {
      reached = omega (arith, below);
      routed = subst (All (λ (net : ℕ). IsTrue (is_routed t.design net))) (sym nets) (ready-next t c.loop-done.done c.loop-done.book.history inv.stands).routed;
      count = few-victims c.args.asked.now.design.now c.loop-done.book.history c.as_slice-in-loop-done.result.now nets c.in_ok-nets.ensures.few;
    }

pub run_round-requires-in-loop-done-clause-due : goal.run_round-requires-in-loop-done-clause-due
run_round-requires-in-loop-done-clause-due g c lives in_lives =
    let t = batching_of c.args.asked.now in
    let h = c.loop-done.book.history in
    subst (λ (n : ℕ). c.as_slice-in-loop-done.result.now ≡ nets_due t n h) (sym (one-more c.loop-done.done)) (c.as_slice-in-loop-done.ensures ∙ c.loop-done.invariant.victims)

pub loop-done-preserved : goal.loop-done-preserved
loop-done-preserved g c =
    let t = batching_of c.args.asked.now in
    let done = c.loop-done.done in
    let now = c.loop-done.book.history in
    let new = c.run_round-in-loop-done.new.book.history in
    let inv = c.loop-done.invariant in
    let made = c.in_ok-victims-2.ensures in
    let ready = subst (λ (n : ℕ). IsReady t n now) (sym (one-more done)) (ready-next t done now inv.stands) in
    let on = goes-on t done (length c.as_slice.result.now) now c.as_slice.result.now c.loop-done-test.true (c.as_slice.ensures ∙ inv.victims) refl c.if-is_empty.ensures in
    record {
      capacity = made.capacity;
      legal = made.legal;
      victims = made.victims;
      stands = (round-stands t (done + 1) now new ready made.round).stands;
      run = run-more t done now new inv.run on made.round;
    }

pub returns-clause-batched : goal.returns-clause-batched
returns-clause-batched g c =
    let t = batching_of c.args.asked.now in
    c.loop-done.invariant.run.over (stops-last t c.loop-done.done c.loop-done.book.history c.loop-done-test.false)
