use Rattle.design_maker.proofs.HeadLemmas.{layers-put}
use Rattle.design_maker.proofs.head.put_layers.Goals as goal

pub returns : goal.returns
returns c =
    layers-put c.args.layers c.args.text.now c.put_layer_line.new.text c.put_layer_line-2.new.text c.put_layer_line-3.new.text c.put_layer_line-4.new.text
    c.put_layer_line-5.new.text c.in_ok-put_layer_line.ensures c.in_ok-put_layer_line-2.ensures c.in_ok-put_layer_line-3.ensures
    c.in_ok-put_layer_line-4.ensures c.in_ok-put_layer_line-5.ensures
