use Rattle.std.proofs.Common.{◌++◌}
use Rattle.design_maker.specs.Texts.{alternating}
use Rattle.design_maker.proofs.HeadLemmas.{layer-put}
use Rattle.design_maker.proofs.head.put_layer_line.Goals as goal

pub loop-layer-preserved : goal.loop-layer-preserved
loop-layer-preserved c =
    layer-put (alternating c.args.odd c.args.even) c.loop-layer.layer c.alternating.result (c.args.text.now ++ c.args.words.now) c.loop-layer.text
    c.put-in-loop-layer.new.self c.put_number.new.self c.loop-layer.invariant c.in_ok-put-2.ensures.put c.in_ok-put_number.ensures.put c.alternating.ensures
