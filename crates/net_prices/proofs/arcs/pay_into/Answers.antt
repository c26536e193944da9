use Rattle.std.proofs.Common.{refl}
use Rattle.net_prices.specs.Levels.{level_of}
use Rattle.net_prices.proofs.ArcLemmas.{paid-by-ways}
use Rattle.net_prices.proofs.arcs.pay_into.Goals as goal

pub returns-clause-paid : goal.returns-clause-paid
returns-clause-paid c ok =
    paid-by-ways c.args.levels.now.shape (level_of c.args.levels.now) c.args.cell c.args.left.now.items c.pay_way.new.left.items
    c.pay_way-2.new.left.items c.pay_way-3.new.left.items c.pay_way.ensures.lower c.pay_way-2.ensures.lower c.pay_way-3.ensures.lower
    (c.if-not-pay_way.ensures.up refl) (c.if-not-pay_way.ensures.down refl) (c.if-not-pay_way-2.ensures.up refl) (c.if-not-pay_way-2.ensures.down refl)
    (c.pay_way-3.ensures.up ok) (c.pay_way-3.ensures.down ok)
