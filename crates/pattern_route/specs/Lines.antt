-- Lines of tiles, and the walks of at most two bends as the lines of an axis see them.
use Rattle.std.specs.Prelude.{◌≡◌, ℕ, ◌+◌, ◌*◌, ◌≤◌, List, ◌∷◌, ◌++◌, Option, map}
use Rattle.cost_rules.specs.Formulas.{most_cost}
use Rattle.gr_base.specs.declared.grid.Cell.{Cell}
use Rattle.gr_base.specs.declared.grid.Edge.{Edge}
use Rattle.gr_base.specs.declared.grid.Shape.{Shape}
use Rattle.gr_base.specs.declared.grid.Way.{Way}
use Rattle.gr_base.specs.declared.grid.Way.TheVariants.{East, North}
use Rattle.gr_base.specs.Grid.{number_of, IsInside, gap}
use Rattle.pattern_route.specs.declared.line.Axis.{Axis}
use Rattle.pattern_route.specs.declared.line.Axis.TheVariants.{Columns, Rows}
use Rattle.pattern_route.specs.declared.line.Line.{Line}
use Rattle.pattern_route.specs.declared.line.Span.{Span}
use Rattle.pattern_route.specs.declared.line.Crossing.{Crossing}
use Rattle.pattern_route.specs.declared.line.Sweep.{Sweep}
use Rattle.pattern_route.specs.Steps.{onward}
use Rattle.pattern_route.specs.Walks.{cost_onward, walk_cost}

-- the lines that cross an axis's
abbrev pub across : Axis → Axis
across Columns = Rows
across Rows = Columns

-- the way along a line
abbrev pub way_along : Axis → Way
way_along Columns = North
way_along Rows = East

abbrev pub line_cell : Axis → ℕ → ℕ → Cell
line_cell Columns at place = record { x = at; y = place; layer = 0 }
line_cell Rows at place = record { x = place; y = at; layer = 0 }

-- the cell at a place on a line
abbrev pub place_on : Shape → Line → ℕ → ℕ
place_on g line place = number_of g (line_cell line.axis line.at place)

-- the line has this place in the grid
abbrev pub IsOn : Shape → Line → ℕ → Type 0
IsOn g line place = IsInside g (line_cell line.axis line.at place)

-- along a line from one place to another, without the first
abbrev pub along : Shape → Line → ℕ → ℕ → List ℕ
along g line from to = map (λ place. place_on g line place) (onward from to)

-- what it costs to go along a line
abbrev pub leg_cost : Shape → (Edge → Option ℕ) → Line → ℕ → ℕ → ℕ
leg_cost g price line from to = cost_onward g price (place_on g line from) (along g line from to)

-- two tiles as an axis sees them
abbrev pub span_of : Axis → Cell → Cell → Span
span_of Columns a b = record { axis = Columns; start = a.x; end = b.x; from = a.y; to = b.y }
span_of Rows a b = record { axis = Rows; start = a.y; end = b.y; from = a.x; to = b.x }

-- the lines that a walk leaves, crosses and arrives by
abbrev pub leaving : Span → Line
leaving span = record { axis = across span.axis; at = span.from }

abbrev pub crossing : Span → ℕ → Line
crossing span at = record { axis = span.axis; at = at }

abbrev pub arriving : Span → Line
arriving span = record { axis = across span.axis; at = span.to }

-- one number lies between two others, or is one of them
abbrev pub IsBetween : ℕ → ℕ → ℕ → Type 0
IsBetween from at to = gap from at + gap at to ≡ gap from to

-- the two tiles lie in the grid
pub record SpanFits (g : Shape) (span : Span) : Type 0 where
  pub start : IsOn g (leaving span) span.start
  pub end : IsOn g (arriving span) span.end

-- the walk by a line of the span's
abbrev pub walk_by : Shape → Span → ℕ → List ℕ
walk_by g span at =
    place_on g (leaving span) span.start ∷
    (along g (leaving span) span.start at ++
    (along g (crossing span at) span.from span.to ++ along g (arriving span) at span.end))

-- the walks by each line of the span's from the first on
abbrev pub walks_by : Shape → Span → List (List ℕ)
walks_by g span = map (walk_by g span) (span.start ∷ onward span.start span.end)

-- the walk of a crossing
abbrev pub walk_at : Shape → Crossing → List ℕ
walk_at g crossing = walk_by g crossing.span crossing.at

-- the walks by the lines after a sweep's
abbrev pub walks_after : Shape → Sweep → List (List ℕ)
walks_after g sweep = map (walk_by g sweep.span) (onward sweep.at sweep.span.end)

-- the sweep has come to a line of the span's and knows what the legs to it and from it cost
pub record IsAtLine (g : Shape) (price : Edge → Option ℕ) (sweep : Sweep) : Type 0 where
  pub fits : SpanFits g sweep.span
  pub between : IsBetween sweep.span.start sweep.at sweep.span.end
  pub left : sweep.left ≡ leg_cost g price (leaving sweep.span) sweep.span.start sweep.at
  pub to_come : sweep.to_come ≡ leg_cost g price (arriving sweep.span) sweep.at sweep.span.end
  pub left_most : sweep.left ≤ most_cost * gap sweep.span.start sweep.at
  pub to_come_most : sweep.to_come ≤ most_cost * gap sweep.span.start sweep.span.end

-- the crossing is a line of the span's and knows what the walk by it costs
pub record IsCrossing (g : Shape) (price : Edge → Option ℕ) (crossing : Crossing) : Type 0 where
  pub fits : SpanFits g crossing.span
  pub between : IsBetween crossing.span.start crossing.at crossing.span.end
  pub cost : crossing.cost ≡ walk_cost g price (walk_at g crossing)
