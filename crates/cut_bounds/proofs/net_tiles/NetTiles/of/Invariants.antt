use Rattle.std.proofs.Common.{◌≡◌}
use Rattle.cut_bounds.specs.NetTiles.{placed_in, AreWhole}
use Rattle.cut_bounds.proofs.NetLemmas.{placed_before}
use Rattle.cut_bounds.proofs.net_tiles.NetTiles.of.Given as goal

abbrev pub invariant-loop-net : goal.invariant-loop-net
invariant-loop-net l = record {
  placed : placed_in l.nets ≡ placed_before l.design l.net;
  whole : AreWhole l.nets;
}
