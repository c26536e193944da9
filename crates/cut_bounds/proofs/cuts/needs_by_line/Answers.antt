use Rattle.std.proofs.Common.{ℕ, List, get_or, length, ap, arith}
use Rattle.std.proofs.lemmas.List.{get_or_default}
use Rattle.cut_bounds.specs.NetTiles.{placed_in}
use Rattle.cut_bounds.proofs.CutLemmas.{need-next, need-more}
use Rattle.cut_bounds.proofs.cuts.needs_by_line.Goals as goal

pub loop-line-init : goal.loop-line-init
loop-line-init c = record {
  running = omega arith;
  long = ap (λ (xs : List ℕ). length xs) c.in_ok-needs.ensures.items;
  each = λ k lower. absurd (omega (arith, lower));
}

pub overflow_add-need : goal.overflow_add-need
overflow_add-need c =
    let ended = c.in_ok-ends.ends.ended.items in
    let next = need-next c.args.axis c.args.lines (placed_in c.args.nets.now) c.loop-line.line c.loop-line.need c.index.result.now (get_or ended c.loop-line.line 0)
    c.in_ok-ends.ends.begun.items ended c.loop-line.needs.items c.loop-line-test.true
    c.index.ensures (get_or_default ended c.loop-line.line 0 (get_or ended c.loop-line.line 0) (omega (arith, c.loop-line-test.true, c.in_ok-ends.ensures.ended_long)))
    c.in_ok-ends.ensures c.requires.some c.requires.few c.loop-line.invariant in
    omega (arith, next.1)

pub overflow_sub-need : goal.overflow_sub-need
overflow_sub-need c =
    let next = need-next c.args.axis c.args.lines (placed_in c.args.nets.now) c.loop-line.line c.loop-line.need c.index.result.now c.index-in-loop-line.result.now
    c.in_ok-ends.ends.begun.items c.in_ok-ends.ends.ended.items c.loop-line.needs.items c.loop-line-test.true
    c.index.ensures c.index-in-loop-line.ensures c.in_ok-ends.ensures c.requires.some c.requires.few c.loop-line.invariant in
    omega (arith, next.0)

pub loop-line-preserved : goal.loop-line-preserved
loop-line-preserved c =
    need-more c.args.axis c.args.lines (placed_in c.args.nets.now) c.loop-line.line c.loop-line.need c.index.result.now c.index-in-loop-line.result.now
    c.in_ok-ends.ends.begun.items c.in_ok-ends.ends.ended.items c.loop-line.needs.items c.push.new.self.items c.loop-line-test.true
    c.index.ensures c.index-in-loop-line.ensures c.in_ok-push.ensures.items c.in_ok-ends.ensures c.requires.some c.requires.few c.loop-line.invariant

pub returns-clause-long : goal.returns-clause-long
returns-clause-long c = omega (arith, c.loop-line.invariant.long, c.loop-line-test.false, c.loop-line.auto.line-end)

pub returns-clause-needs : goal.returns-clause-needs
returns-clause-needs c line lower = c.loop-line.invariant.each line (omega (arith, lower, c.loop-line-test.false))
