use Rattle.cut_bounds.proofs.CutLemmas.{more-counted}
use Rattle.cut_bounds.proofs.cuts.add_net.Goals as goal

pub returns-clause-counted : goal.returns-clause-counted
returns-clause-counted c nets all was =
    more-counted c.args.axis c.args.ends.now.begun.items c.args.ends.now.ended.items c.gain.new.numbers.items c.gain-2.new.numbers.items
    record { need = c.args.need; tiles = c.args.tiles.now } nets all c.reach_of-reach.result.first c.reach_of-reach.result.last c.from-need.result
    (c.reach_of-reach.ensures.first _ c.requires.begun) (c.reach_of-reach.ensures.last _ c.requires.ended) c.gain.ensures c.gain-2.ensures c.from-need.ensures
    c.reach_of-reach.ensures.reached c.reach_of-reach.ensures.passed was
