-- The adjustments of a design text, and its end.
use Rattle.std.specs.Prelude.{ℕ, nat_lt, pos, nat_abs, List, [], Option, Some, None}
use Rattle.gr_base.specs.Limits.{most_id, most_capacity, most_adjustments}
use Rattle.gr_base.specs.Grid.{number_of, edge_of}
use Rattle.gr_base.specs.ParentEdges.{wire_only}
use Rattle.gr_base.specs.declared.frame.Adjustment.{Adjustment}
use Rattle.gr_base.specs.declared.grid.Edge.{Edge}
use Rattle.gr_base.specs.declared.grid.Shape.{Shape}
use Rattle.gr_text.specs.Numbers.{number_in}
use Rattle.gr_text.specs.Reading.{Reader, ◌>>=◌, ◌>>◌, pure, check, given, natural, end, token_or_end, several}
use Rattle.ispd_reader.specs.Faults.{ends}
use Rattle.ispd_reader.specs.Steps.{layer_in}
use Rattle.ispd_reader.specs.declared.fault.DesignFault.{DesignFault}
use Rattle.ispd_reader.specs.declared.fault.DesignFault.TheVariants.{Number, Adjust, Trailing}

-- a place of the grid, as the number of its cell
unfoldable pub place : Shape → Reader DesignFault ℕ
place shape = do
  column ← natural ends Number most_id
  check (nat_lt column shape.columns) Adjust
  row ← natural ends Number most_id
  check (nat_lt row shape.rows) Adjust
  layer ← layer_in shape Adjust
  pure (number_of shape (record { x = column; y = row; layer = layer }))

-- the edge between two cells, if they are neighbours on one layer
abbrev pub wire_between : Shape → ℕ → ℕ → Option Edge
wire_between shape from to = wire_only (edge_of shape from to)

-- an adjustment: two neighbouring places of one layer, and the capacity between them
unfoldable pub adjustment : Shape → Reader DesignFault Adjustment
adjustment shape = do
  from ← place shape
  to ← place shape
  edge ← given (wire_between shape from to) Adjust
  capacity ← natural ends Number most_capacity
  pure (record { edge = edge; capacity = capacity })

-- the number of adjustments, which is the token in hand
unfoldable pub adjustment_count : List ℕ → Reader DesignFault ℕ
adjustment_count word = do
  count ← given (number_in (pos 0) (pos most_adjustments) word) Number
  pure (nat_abs count)

-- the adjustments, whose number is the token in hand, and the end of the text
unfoldable pub counted_adjustments : Shape → List ℕ → Reader DesignFault (List Adjustment)
counted_adjustments shape word = do
  count ← adjustment_count word
  adjustments ← several (λ _. adjustment shape) count []
  end ends Trailing
  pure adjustments

abbrev pub adjustments_from : Shape → Option (List ℕ) → Reader DesignFault (List Adjustment)
adjustments_from shape None = pure []
adjustments_from shape (Some word) = counted_adjustments shape word

-- none, where the text ends behind the nets
unfoldable pub adjustments : Shape → Reader DesignFault (List Adjustment)
adjustments shape = do
  more ← token_or_end ends
  adjustments_from shape more
