use Rattle.std.proofs.Common.{sym, ap, ◌∙◌, arith}
use Rattle.report_text.specs.BufferTexts.{buffers_in}
use Rattle.report_text.proofs.BufferLemmas.{sum-skipped, sum-counted}
use Rattle.report_text.proofs.buffer_text.total.Goals as goal

pub loop-net-preserved-then-not-routed : goal.loop-net-preserved-then-not-routed
loop-net-preserved-then-not-routed c =
    let low = c.loop-net.invariant.low in
    record {
      sum = c.loop-net.invariant.sum ∙ sum-skipped c.args.design.now c.args.plans.now c.loop-net.net (sym c.routed.ensures ∙ c.if-not-routed.true);
      low = omega arith;
    }

pub loop-net-preserved : goal.loop-net-preserved
loop-net-preserved c =
    let low = c.loop-net.invariant.low in
    let more = sum-counted c.args.design.now c.args.plans.now c.loop-net.net (sym c.routed.ensures ∙ c.if-not-routed.false) in
    record {
      sum = omega (arith, more, c.loop-net.invariant.sum, c.from-sum.ensures, c.buffers_of.ensures ∙ ap buffers_in c.get.ensures);
      low = omega (arith, c.from-sum.ensures, c.buffers_of.type_inv);
    }
