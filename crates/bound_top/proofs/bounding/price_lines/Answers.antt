use Rattle.bound_top.proofs.BoundingLemmas.{floor-said, lines-said}
use Rattle.bound_top.proofs.bounding.price_lines.Goals as goal

pub price_bounds-requires-clause-floor : goal.price_bounds-requires-clause-floor
price_bounds-requires-clause-floor g c κs within =
    floor-said c.args.design.now c.args.via_cost c.args.bounds.now c.overflow.result c.usable_wirelength.result c.requires.bounds c.overflow.ensures
    c.usable_wirelength.ensures

pub returns : goal.returns
returns g c =
    lines-said c.args.design.now c.args.via_cost c.args.bounds.now c.args.steps c.overflow.result c.usable_wirelength.result c.in_ok-lines.lines
    c.in_ok-prices.prices.overflow c.in_ok-prices.prices.length c.in_ok-prices.prices.both c.if-steps-eq0.false c.overflow.ensures
    c.usable_wirelength.ensures c.in_ok-lines.ensures c.in_ok-prices.ensures.bounds c.in_ok-prices.ensures.least
