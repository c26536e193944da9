use Rattle.std.proofs.Common.{◌≡◌, ◌≤◌, count_by, take}
use Rattle.cut_bounds.specs.BoundsOf.{is_box, is_column, is_row}
use Rattle.cut_bounds.proofs.kinds.count_kinds.Given as goal

abbrev pub invariant-loop-wall : goal.invariant-loop-wall
invariant-loop-wall l = record {
  columns : l.columns ≡ count_by is_column (take l.wall-index l.walls);
  rows : l.rows ≡ count_by is_row (take l.wall-index l.walls);
  boxes : l.boxes ≡ count_by is_box (take l.wall-index l.walls);
  few_columns : l.columns ≤ l.wall-index;
  few_rows : l.rows ≤ l.wall-index;
  few_boxes : l.boxes ≤ l.wall-index;
}
