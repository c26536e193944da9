-- The arcs of a grid by number: each edge has two, one into either end.
use Rattle.std.specs.Prelude.{◌≡◌, ℕ, ◌+◌, ◌-◌, ◌*◌, ◌<◌, ◌≤◌, min, Bool, true, false, List, length, slice_index, if◌then◌else◌}
use Rattle.gr_base.specs.Grid.{cells_of, edge_at, stride, high_of, is_wire}
use Rattle.gr_base.specs.declared.grid.Edge.{Edge}
use Rattle.gr_base.specs.declared.grid.Shape.{Shape}
use Rattle.gr_base.specs.declared.grid.Way.{Way}
use Rattle.net_prices.specs.Folds.{tile_of}
use Rattle.price_laws.specs.Ranks.{Arcs}
use Rattle.route_evaluator.specs.EdgeNumbers.{way_number}

-- the arc into a cell from the one before it along a way, and from the one behind it
abbrev pub arc_up : ℕ → Way → ℕ
arc_up cell way = 6 * cell + 2 * way_number way

abbrev pub arc_down : ℕ → Way → ℕ
arc_down cell way = 6 * cell + 2 * way_number way + 1

-- the arc of an edge towards its high end, and towards its low one
abbrev pub arc_of : Shape → Edge → Bool → ℕ
arc_of g e true = arc_up (high_of g e) e.way
arc_of g e false = arc_down e.low e.way

-- what a table has for arcs, where it is one for the grid as it is, or with its layers as one: then nothing is asked
-- for vias
abbrev pub arcs_in : (flat : Bool) → (g small : Shape) → List ℕ → Arcs
arcs_in true g small table e up =
    if is_wire e then slice_index table (arc_of small (edge_at (tile_of g e.low) e.way) up) else 0
arcs_in false g small table e up = slice_index table (arc_of small e up)

-- what stands in tables for no arc, and for no label
abbrev pub nothing : ℕ
nothing = 4294967295

-- no number of a table is above the one of another
pub record AreLower (old new : List ℕ) : Type 0 where
  pub long : length new ≡ length old
  pub each : (n : ℕ) → slice_index new n ≤ slice_index old n

-- the label of a cell, but at most a bound
abbrev pub level_at : List ℕ → ℕ → ℕ → ℕ
level_at labels bound cell = min (slice_index labels cell) bound

-- what falls along the arc into a cell from the one before it was taken of what was left, and from the one behind it
abbrev pub IsPaidUp : Shape → (level : ℕ → ℕ) → (old new : List ℕ) → ℕ → Way → Type 0
IsPaidUp g level old new cell way =
    stride g way ≤ cell → slice_index old (arc_up cell way) < nothing →
    slice_index new (arc_up cell way) + (level (cell - stride g way) - level cell) ≤ slice_index old (arc_up cell way)

abbrev pub IsPaidDown : Shape → (level : ℕ → ℕ) → (old new : List ℕ) → ℕ → Way → Type 0
IsPaidDown g level old new cell way =
    cell + stride g way < cells_of g → slice_index old (arc_down cell way) < nothing →
    slice_index new (arc_down cell way) + (level (cell + stride g way) - level cell) ≤ slice_index old (arc_down cell way)

pub record IsPaidAt (g : Shape) (level : ℕ → ℕ) (old new : List ℕ) (cell : ℕ) : Type 0 where
  pub up : (way : Way) → IsPaidUp g level old new cell way
  pub down : (way : Way) → IsPaidDown g level old new cell way

abbrev pub ArePaid : Shape → (level : ℕ → ℕ) → (old new : List ℕ) → Type 0
ArePaid g level old new = (cell : ℕ) → cell < cells_of g → IsPaidAt g level old new cell
