use Rattle.std.proofs.Common.{◌≡◌, ◌≤◌, [], All, length, map, fold, take}
use Rattle.net_plan.specs.FlatTrees.{IsTileIn, tile_under, with_tile}
use Rattle.net_plan.proofs.pin_tiles.distinct_tiles.Given as goal

abbrev pub invariant-loop-cell : goal.invariant-loop-cell
invariant-loop-cell l = record {
  so_far : l.tiles.items ≡ fold with_tile [] (map (tile_under l.shape) (take l.cell-index l.cells));
  inside : All (IsTileIn l.shape) l.tiles.items;
  few : length l.tiles.items ≤ l.cell-index;
}
