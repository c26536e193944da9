-- What the fields of bounds say.
use Rattle.cut_bounds.specs.Bounds.{BoundsView}
use Rattle.cut_bounds.specs.declared.figures.Bounds.TheInside.{Inside}

abbrev pub seen : Inside → BoundsView
seen b = record {
  overflow = b.overflow;
  wirelength = b.wirelength;
  usable_wirelength = b.usable_wirelength;
  columns = b.columns;
  rows = b.rows;
  boxes = b.boxes;
  fullest = b.fullest.items;
}
