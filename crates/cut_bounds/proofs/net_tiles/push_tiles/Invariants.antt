use Rattle.std.proofs.Common.{◌≡◌, ◌++◌, map, take}
use Rattle.cut_bounds.specs.NetTiles.{tile_in}
use Rattle.cut_bounds.proofs.net_tiles.push_tiles.Given as goal

abbrev pub invariant-loop-pin : goal.invariant-loop-pin
invariant-loop-pin l = l.tiles.items ≡ l.initial.tiles.items ++ map (tile_in l.shape) (take l.pin-index l.pins)
