use Rattle.std.proofs.Common.{arith}
use Rattle.beside_calls.proofs.RunCalls.{still-untouched, one-more}
use Rattle.beside_calls.proofs.run.call_run.Goals as goal

pub loop-at-preserved : goal.loop-at-preserved
loop-at-preserved g c =
    let at = c.loop-at.at in
    let xs = c.args.run.now in
    let ys = c.loop-at.run in
    let y = c.call_one.new.item in
    let below = c.loop-at-test.true in
    let long = c.loop-at.auto.run in (
      still-untouched g.F.Fn c.args.f.now at xs ys y c.loop-at.invariant.0,
      one-more g.F.Fn c.args.f.now c.args.first at xs ys c.index-run-at.result y (omega (arith, below, long)) c.loop-at.invariant.0 c.loop-at.invariant.1 c.call_one.ensures,
    )
