use Rattle.std.proofs.Common.{◌≡◌, ◌≤◌, length, take}
use Rattle.net_plan.specs.FlatTrees.{distinct_tiles}
use Rattle.net_order.proofs.traits.tiles_with_pins.Given as goal

-- the tiles of the cells so far are counted
abbrev pub invariant-loop-at : goal.invariant-loop-at
invariant-loop-at l = record {
  counted : l.tiles ≡ length (distinct_tiles l.fn.shape (take l.at l.cells));
  few : l.tiles ≤ l.at;
}
