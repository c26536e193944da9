use Rattle.elmore_delay.specs.Loadings.{rc_of}
use Rattle.polar_lists.proofs.SinkWishes.{of-none, of-those}
use Rattle.polar_lists.proofs.lists.of_sinks.Goals as goal

pub returns-in-Any : goal.returns-in-Any
returns-in-Any c = of-none (rc_of c.args.loading.now) c.args.node c.wants-wants.result c.wants-wants.ensures.wants c.in-Any.is

pub returns : goal.returns
returns c =
    of-those (rc_of c.args.loading.now) c.args.node c.wants-wants.result (record { plain = c.in_ok-plain.plain; inverse = c.in_ok-inverse.inverse })
    c.suits.result c.suits-2.result c.wants-wants.ensures.wants c.suits.ensures c.suits-2.ensures c.in_ok-plain.ensures c.in_ok-inverse.ensures
