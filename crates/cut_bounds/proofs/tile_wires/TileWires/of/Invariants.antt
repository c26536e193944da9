use Rattle.cut_bounds.proofs.WireSums.{AreSoFar}
use Rattle.cut_bounds.proofs.tile_wires.TileWires.of.Given as goal

abbrev pub invariant-loop-cell : goal.invariant-loop-cell
invariant-loop-cell l = AreSoFar l.design l.cell l.wires.east.items l.wires.north.items
