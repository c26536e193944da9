use Rattle.std.proofs.Common.{slice_index, ◌∙◌, arith}
use Rattle.net_prices.proofs.ArcLemmas.{lower-more, lower-same}
use Rattle.net_prices.proofs.PaymentLemmas.{lower-raises, raises-more}
use Rattle.net_prices.proofs.net_pricer.pay_net.Goals as goal

pub loop-init : goal.loop-init
loop-init c = record {
  labels = c.requires.labels;
  lower = lower-same c.args.left.now.items;
  raised = lower-raises c.args.small (slice_index c.args.pins.now 0) c.args.pins.now c.args.left.now.items c.args.left.now.items
      (lower-same c.args.left.now.items);
}

pub returns-in_err-join-clause-lower : goal.returns-in_err-join-clause-lower
returns-in_err-join-clause-lower c =
    lower-more c.args.left.now.items c.loop.left.items c.pay-more.new.left.items c.loop.invariant.lower c.pay-more.ensures.lower

pub loop-preserved : goal.loop-preserved
loop-preserved c = record {
  labels = c.find.ensures ∙ c.loop.invariant.labels;
  lower = lower-more c.args.left.now.items c.loop.left.items c.pay-more.new.left.items c.loop.invariant.lower c.pay-more.ensures.lower;
  raised = raises-more c.args.small (slice_index c.args.pins.now 0) c.args.pins.now c.args.left.now.items c.loop.left.items
      c.pay-more.new.left.items c.loop.paid c.pay-more.result c.saturating_add-paid.result (omega (arith, c.saturating_add-paid.ensures, c.from.ensures))
      c.loop.invariant.lower c.loop.invariant.raised c.pay-more.ensures.raised;
}
