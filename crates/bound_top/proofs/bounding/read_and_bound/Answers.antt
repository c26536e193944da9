use Rattle.bound_top.proofs.BoundingLemmas.{bounded}
use Rattle.bound_top.proofs.bounding.read_and_bound.Goals as goal

pub returns-clause-leaves : goal.returns-clause-leaves
returns-clause-leaves g c =
    bounded _ c.args.design.now c.args.via_cost c.args.steps c.in_ok-design.design _ _ c.in_ok-design.ensures.opens.2 c.in_ok-design.ensures.opens.0
    c.write_bounds.ensures
