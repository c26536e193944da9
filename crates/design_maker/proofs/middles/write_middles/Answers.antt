use Rattle.std.proofs.Common.{◌≤◌, arith}
use Rattle.std.proofs.lemmas.Grind.{common_steps}
use Rattle.design_maker.proofs.PinLemmas.{middles-more, middles-whole}
use Rattle.design_maker.proofs.middles.write_middles.Goals as goal

pub loop-tile-preserved : goal.loop-tile-preserved
loop-tile-preserved c =
    middles-more c.loop-tile.tile c.middle_of.result c.loop-tile.middles.items c.push.new.self.items c.new-middle.result c.put_number.new.self
    c.loop-tile.invariant c.new-middle.ensures c.middle_of.ensures c.in_ok-put_number.ensures.put c.in_ok-push.ensures.items

pub returns : goal.returns
returns c =
    let most = c.max-tiles.ensures in
    let columns : c.args.made.columns ≤ c.max-tiles.result = grind (arith, common_steps) in
    let rows : c.args.made.rows ≤ c.max-tiles.result = grind (arith, common_steps) in
    let last = c.loop-tile.auto.tile-end in
    let end = c.loop-tile-test.false in
    middles-whole c.args.made c.max-tiles.result c.loop-tile.tile c.loop-tile.middles.items columns rows (omega arith) c.loop-tile.invariant
