use Rattle.grid_demand.proofs.JoinedNumbers.{together-none}
use Rattle.grid_demand.proofs.numbers.Numbers.none.Goals as goal

pub returns : goal.returns
returns c =
    together-none 65536 c.in_ok-vec.field-0.items c.in_ok-with_capacity.field-0.items c.args.wires
    (c.in_ok-vec.ensures.items_if_clones_equal (λ y e. e)) c.in_ok-with_capacity.ensures.items
