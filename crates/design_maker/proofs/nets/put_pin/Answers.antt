use Rattle.std.proofs.Common.{◌∙◌}
use Rattle.design_maker.proofs.PinLemmas.{middle-at, pin-put}
use Rattle.design_maker.proofs.nets.put_pin.Goals as goal

pub returns : goal.returns
returns c =
    let middles = c.args.middles.now in
    pin-put c.args.tile c.args.text.now c.put.new.self c.put-2.new.self c.put-3.new.self c.put-4.new.self c.bytes.result.now c.bytes-2.result.now
    (c.bytes.ensures ∙ middle-at middles c.args.tile.column c.index-middles-tile.result c.requires.middles c.requires.column c.index-middles-tile.is)
    (c.bytes-2.ensures ∙ middle-at middles c.args.tile.row c.index-middles-tile-2.result c.requires.middles c.requires.row c.index-middles-tile-2.is)
    c.in_ok-put.ensures.put c.in_ok-put-2.ensures.put c.in_ok-put-3.ensures.put c.in_ok-put-4.ensures.put
