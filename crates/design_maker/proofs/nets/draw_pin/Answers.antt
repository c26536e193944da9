use Rattle.std.proofs.Common.{arith}
use Rattle.design_maker.proofs.RangeLemmas.{in-range}
use Rattle.design_maker.proofs.NetLemmas.{pin-of}
use Rattle.design_maker.proofs.nets.draw_pin.Goals as goal

pub overflow_add-start : goal.overflow_add-start
overflow_add-start c =
    let few = (in-range c.args.made c.requires.made).few_columns in
    omega (arith, c.requires.column, c.draw-right.ensures.below)

pub overflow_add-start-2 : goal.overflow_add-start-2
overflow_add-start-2 c =
    let few = (in-range c.args.made c.requires.made).few_rows in
    omega (arith, c.requires.row, c.draw-up.ensures.below)

pub returns-clause-drawn : goal.returns-clause-drawn
returns-clause-drawn c =
    pin-of c.args.made c.args.start c.draw-right.result c.draw-up.result c.min.result c.min-2.result c.args.draws.now.state c.draw-right.new.self.state c.draw-up.new.self.state
    c.draw-right.ensures.drawn c.draw-up.ensures.drawn c.min.ensures c.min-2.ensures
