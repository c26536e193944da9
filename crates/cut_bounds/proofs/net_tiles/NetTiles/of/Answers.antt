use Rattle.std.proofs.Common.{◌∙◌, sym}
use Rattle.cut_bounds.specs.NetTiles.{placed_in}
use Rattle.cut_bounds.proofs.NetLemmas.{placed-more, placed-passed}
use Rattle.cut_bounds.proofs.net_tiles.NetTiles.of.Goals as goal

pub loop-net-preserved-then-not-routed : goal.loop-net-preserved-then-not-routed
loop-net-preserved-then-not-routed c = record {
  placed = placed-passed c.args.design.now c.loop-net.net (placed_in c.loop-net.nets) (sym c.routed.ensures ∙ c.if-not-routed.true) c.loop-net.invariant.placed;
  whole = c.loop-net.invariant.whole;
}

pub loop-net-preserved : goal.loop-net-preserved
loop-net-preserved c = record {
  placed = placed-more c.args.design.now c.loop-net.net (placed_in c.loop-net.nets) (placed_in c.add.new.self) (sym c.routed.ensures ∙ c.if-not-routed.false)
      c.loop-net.invariant.placed c.in_ok-add.ensures.placed;
  whole = c.in_ok-add.ensures.whole;
}
