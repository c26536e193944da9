use Rattle.std.proofs.Common.{◌≡◌, ◌+◌, map, sym, subst, arith}
use Rattle.std.specs.Global.{Global}
use Rattle.std.specs.Prelude.{Vec}
use Rattle.std.specs.List.{range_with_len}
use Rattle.run_histories.specs.declared.hands.HandLog.{HandLog}
use Rattle.run_histories.proofs.HandLemmas.{log_upto, length-logs, logs-gain, logs-keep}
use Rattle.run_histories.proofs.hands.hands_of.Goals as goal
use Rattle.run_histories.proofs.hands.hands_of.Goals.{then-number-callers+in_ok-note, else-number-callers}

pub index_mut-requires : goal.index_mut-requires
index_mut-requires c =
    let long = length-logs c.args.history.now c.args.callers c.loop-place.place c.loop-place.hands.items c.loop-place.invariant in
    omega (arith, long, c.if-number-callers.true, c.loop-place.hands.ok.0)

pub loop-place-preserved : goal.loop-place-preserved
loop-place-preserved c =
    let h = c.args.history.now in
    let place = c.loop-place.place in
    let logs = c.loop-place.hands.items in
    let e = c.entry.result.now in
    let P : Vec HandLog Global → Type 0 = λ hands. hands.items ≡ map (log_upto h (place + 1)) (range_with_len 0 c.args.callers) in
    elim c.if-number-callers.branch [
      | then-number-callers+in_ok-note w ↦
          subst P (sym w.hands-is)
          (logs-gain h c.args.callers place e w.index_mut.result.now w.note.new.log logs c.entry.ensures.entry w.if-number-callers.true c.loop-place.invariant w.index_mut.ensures.value w.in_ok-note.ensures)
      | else-number-callers w ↦
          subst P (sym w.hands-is)
          (logs-keep h c.args.callers place e logs c.entry.ensures.entry w.if-number-callers.false c.loop-place.invariant)
    ]
