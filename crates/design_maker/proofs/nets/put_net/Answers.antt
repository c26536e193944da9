use Rattle.design_maker.proofs.NetLemmas.{net-put, net-state, net-pins}
use Rattle.design_maker.proofs.nets.put_net.Goals as goal

pub returns-clause-text : goal.returns-clause-text
returns-clause-text c =
    net-put c.args.made c.args.number c.draw-more.result c.draw-column.result c.draw-row.result c.pins_for-pins.result
    c.args.draws.now.state c.draw-more.new.self.state c.draw-column.new.self.state c.draw-row.new.self.state
    c.draw-more.ensures.drawn c.draw-column.ensures.drawn c.draw-row.ensures.drawn c.pins_for-pins.ensures.pins
    c.args.text.now c.put_heading.new.text c.put_pins.new.text c.in_ok-put_heading.ensures c.in_ok-put_pins.ensures.text

pub returns-clause-draws : goal.returns-clause-draws
returns-clause-draws c =
    net-state c.args.made c.args.number c.draw-more.result c.draw-column.result c.draw-row.result c.pins_for-pins.result
    c.args.draws.now.state c.draw-more.new.self.state c.draw-column.new.self.state c.draw-row.new.self.state
    c.draw-more.ensures.drawn c.draw-column.ensures.drawn c.draw-row.ensures.drawn c.pins_for-pins.ensures.pins
    c.put_pins.new.draws.state c.in_ok-put_pins.ensures.draws

pub returns-clause-pins : goal.returns-clause-pins
returns-clause-pins c =
    net-pins c.args.made c.args.number c.draw-more.result c.draw-column.result c.draw-row.result c.pins_for-pins.result
    c.args.draws.now.state c.draw-more.new.self.state c.draw-column.new.self.state c.draw-row.new.self.state
    c.draw-more.ensures.drawn c.draw-column.ensures.drawn c.draw-row.ensures.drawn c.pins_for-pins.ensures.pins
