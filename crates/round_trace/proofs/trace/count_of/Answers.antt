use Rattle.std.proofs.Common.{List, take, sym, subst}
use Rattle.book_state.specs.declared.entry.Entry.{Entry}
use Rattle.round_trace.specs.Counts.{IsCountOf}
use Rattle.round_trace.proofs.TraceLemmas.{take-push}
use Rattle.round_trace.proofs.trace.count_of.Goals as goal

pub loop-place-preserved : goal.loop-place-preserved
loop-place-preserved c =
    let h = c.args.history.now in
    subst (λ (es : List Entry). IsCountOf es c.take.new.self) (sym (take-push h c.loop-place.place c.entry.result.now c.entry.ensures.entry))
    (c.in_ok-take.ensures (take c.loop-place.place h) c.loop-place.invariant)
