use Rattle.cut_bounds.proofs.OrderLemmas.{bounds-are, law-is}
use Rattle.cut_bounds.proofs.bounding.bounds_of.Goals as goal

pub returns-clause-value : goal.returns-clause-value
returns-clause-value c =
    bounds-are c.args.design.now c.args.via_cost c.in_ok-wire.wire.wirelength c.in_ok-wire.wire.usable c.in_ok-walls.walls.straight.items
    c.in_ok-walls.walls.taken.items c.in_ok-bounds.bounds c.in_ok-wire.ensures.wirelength c.in_ok-wire.ensures.usable
    c.in_ok-walls.ensures.straight c.in_ok-walls.ensures.taken c.in_ok-bounds.ensures

pub returns-clause-law : goal.returns-clause-law
returns-clause-law c =
    law-is c.args.design.now c.args.via_cost c.in_ok-bounds.bounds c.in_ok-walls.ensures.design
    (bounds-are c.args.design.now c.args.via_cost c.in_ok-wire.wire.wirelength c.in_ok-wire.wire.usable c.in_ok-walls.walls.straight.items
    c.in_ok-walls.walls.taken.items c.in_ok-bounds.bounds c.in_ok-wire.ensures.wirelength c.in_ok-wire.ensures.usable
    c.in_ok-walls.ensures.straight c.in_ok-walls.ensures.taken c.in_ok-bounds.ensures)
