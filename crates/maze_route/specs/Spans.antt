-- Boxes by positions of columns and rows, on the layers up to one.
use Rattle.std.specs.Prelude.{ℕ, ◌+◌, ◌-◌, ◌≤◌, min, max}
use Rattle.gr_base.specs.Grid.{place_at}
use Rattle.maze_route.specs.Positions.{most_position, at, outside}
use Rattle.maze_route.specs.declared.pane.Pane.{Pane}
use Rattle.maze_route.specs.declared.scales.Scales.{Scales}
use Rattle.maze_route.specs.declared.span.Span.{Span}

-- the least box that holds a box and a cell at these positions on a layer
abbrev pub with_end : Span → ℕ → ℕ → ℕ → Span
with_end span column row layer = record {
  left = min span.left column;
  right = max span.right column;
  low = min span.low row;
  high = max span.high row;
  top = max span.top layer;
}

-- how far outside a box something at these positions on a layer lies
abbrev pub beside_span : Span → ℕ → ℕ → ℕ → ℕ
beside_span span column row layer =
    outside span.left span.right column + outside span.low span.high row + (layer - span.top)

-- how far outside a box a cell of a window lies
abbrev pub outside_by : Scales → Pane → Span → ℕ → ℕ
outside_by s p span end =
    let place = place_at p.shape end in
    beside_span span (at s.columns.items place.x) (at s.rows.items place.y) place.layer

-- the box's first positions are positions of a window
pub record IsNear (span : Span) : Type 0 where
  pub left : span.left ≤ most_position
  pub low : span.low ≤ most_position
