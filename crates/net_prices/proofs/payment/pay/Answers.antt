use Rattle.std.proofs.Common.{refl}
use Rattle.net_prices.proofs.ArcLemmas.{lower-same}
use Rattle.net_prices.proofs.PaymentLemmas.{lower-raises, paid-raises}
use Rattle.net_prices.proofs.payment.pay.Goals as goal

pub returns-then-not-may_pay-clause-raised : goal.returns-then-not-may_pay-clause-raised
returns-then-not-may_pay-clause-raised c =
    lower-raises c.args.shape c.args.driver c.args.pins.now c.args.left.now.items c.args.left.now.items (lower-same c.args.left.now.items)

pub returns-then-not-pay_all-clause-raised : goal.returns-then-not-pay_all-clause-raised
returns-then-not-pay_all-clause-raised c =
    lower-raises c.args.shape c.args.driver c.args.pins.now c.args.left.now.items c.pay_all.new.left.items c.pay_all.ensures.lower

pub returns-clause-raised : goal.returns-clause-raised
returns-clause-raised c =
    let may = c.if-not-may_pay.ensures refl in
    paid-raises c.args.shape c.args.driver c.args.pin c.args.distance c.args.pins.now c.args.labels.now.table c.args.left.now.items
    c.pay_all.new.left.items (c.if-not-pay_all.ensures.paid refl) may.high may.low may.among
