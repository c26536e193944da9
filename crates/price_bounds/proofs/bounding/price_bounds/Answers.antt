use Rattle.price_bounds.proofs.bounding.price_bounds.Goals as goal

pub returns-clause-bounds : goal.returns-clause-bounds
returns-clause-bounds g c =
    c.raised.ensures.bounds c.args.design.now c.args.via_cost c.requires.floor c.in_ok-overflow.ensures.bound c.in_ok-length.ensures.bound
    c.in_ok-both.ensures.bound
