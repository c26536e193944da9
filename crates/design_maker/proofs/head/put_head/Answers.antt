use Rattle.design_maker.proofs.HeadLemmas.{head-put}
use Rattle.design_maker.proofs.head.put_head.Goals as goal

pub returns : goal.returns
returns c =
    head-put c.args.made c.args.text.now c.put_grid.new.text c.put_layers.new.text c.put_last.new.text
    c.in_ok-put_grid.ensures c.in_ok-put_layers.ensures c.in_ok-put_last.ensures
