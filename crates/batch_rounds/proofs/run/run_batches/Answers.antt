use Rattle.std.proofs.Common.{ℕ, List, min, length, take, drop, All, IsTrue, sym, ap, subst, ◌∙◌, arith}
use Rattle.std.proofs.Math.Seq.{take-append_seam, drop-append_seam}
use Rattle.std.proofs.lemmas.List.{nil_from_length, length-append}
use Rattle.std.proofs.lemmas.List.Elements.{All-take, All-drop}
use Rattle.std.specs.Slice.Iter.{chunks_rest}
use Rattle.gr_base.specs.Designs.{is_routed}
use Rattle.batch_rounds.specs.BatchedHistories.{AreBatches}
use Rattle.batch_rounds.specs.BatchedHistories.AreBatches.{No_batch}
use Rattle.batch_rounds.specs.Rounds.{batching_of}
use Rattle.batch_rounds.proofs.RoundSteps.{batches-more}
use Rattle.batch_rounds.proofs.run.run_batches.Goals as goal

pub invariant_of-batch-clause-reached : goal.invariant_of-batch-clause-reached
invariant_of-batch-clause-reached g c = c.args.due.now.reached

pub invariant_of-batch-clause-routed : goal.invariant_of-batch-clause-routed
invariant_of-batch-clause-routed g c =
    let rest = chunks_rest c.loop-nets.nets-iterator in
    let batch = c.in-Some.nets.now in
    let left = chunks_rest c.next.new.self in
    let P : ℕ → Type 0 = λ net. IsTrue (is_routed c.args.due.now.asked.now.design.now net) in
    subst (All P) (ap (take (length batch)) c.in-Some.ensures.steps.1.0 ∙ take-append_seam batch left)
    (All-take P (length batch) rest c.loop-nets.invariant.nets)

pub loop-nets-preserved : goal.loop-nets-preserved
loop-nets-preserved g c =
    let t = batching_of c.args.due.now.asked.now in
    let steps = c.in-Some.ensures.steps in
    let inv = c.loop-nets.invariant in
    let rest = chunks_rest c.loop-nets.nets-iterator in
    let batch = c.in-Some.nets.now in
    let left = chunks_rest c.next.new.self in
    let size = steps.0 ∙ inv.size in
    let one = c.args.due.now.asked.now.one in
    let P : ℕ → Type 0 = λ net. IsTrue (is_routed c.args.due.now.asked.now.design.now net) in
    record {
      next = omega (arith, size, one);
      finite = tt;
      size = size;
      capacity = c.in_ok-run_batch.ensures.capacity;
      nets = subst (All P) (ap (drop (length batch)) steps.1.0 ∙ drop-append_seam batch left) (All-drop P (length batch) rest inv.nets);
      few =
          let long = ap (λ (xs : List ℕ). length xs) steps.1.0 ∙ length-append batch left in
          let most = inv.few in
          omega (arith, long, most);
      batches = batches-more t c.args.due.now.round c.args.book.now.history c.args.due.now.nets.now rest batch left c.loop-nets.book.history c.run_batch.new.book.history steps.1.0
          (steps.1.1 ∙ ap (λ (n : ℕ). min n (length rest)) inv.size) steps.1.2 c.in_ok-run_batch.ensures.batch inv.batches;
    }

pub returns-clause-batches : goal.returns-clause-batches
returns-clause-batches g c =
    let t = batching_of c.args.due.now.asked.now in
    let now = c.loop-nets.book.history in
    let none = nil_from_length (chunks_rest c.loop-nets.nets-iterator) c.in-None.ensures.steps.1.0 in
    c.loop-nets.invariant.batches now (subst (λ (xs : List ℕ). AreBatches t c.args.due.now.round xs now now) (sym none) No_batch)
