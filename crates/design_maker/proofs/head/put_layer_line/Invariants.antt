use Rattle.std.proofs.Common.{◌≡◌, ◌++◌}
use Rattle.std.specs.List.{flat_map}
use Rattle.design_maker.specs.Texts.{alternating, layer_words, spaced}
use Rattle.design_maker.proofs.head.put_layer_line.Given as goal

abbrev pub invariant-loop-layer : goal.invariant-loop-layer
invariant-loop-layer l =
    l.text ≡ (l.fn.text ++ l.words) ++ flat_map spaced (layer_words (alternating l.odd l.even) l.layer)
