-- The steps of the design's grammar that several of its parts use.
use Rattle.std.specs.Prelude.{ℕ, ◌-◌, ◌&&◌, nat_le, List}
use Rattle.gr_base.specs.Limits.{most_id}
use Rattle.gr_base.specs.declared.grid.Shape.{Shape}
use Rattle.gr_text.specs.Reading.{Reader, ◌>>=◌, ◌>>◌, pure, check, word, natural}
use Rattle.ispd_reader.specs.Faults.{ends}
use Rattle.ispd_reader.specs.declared.fault.DesignFault.{DesignFault}
use Rattle.ispd_reader.specs.declared.fault.DesignFault.TheVariants.{Word, Number}

-- these two words
unfoldable pub words : List ℕ → List ℕ → Reader DesignFault (Unit {0})
words first second = do
  word ends Word first
  word ends Word second

-- one of the grid's layers, which a text counts from 1 and a cell from 0
unfoldable pub layer_in : Shape → DesignFault → Reader DesignFault ℕ
layer_in shape fault = do
  layer ← natural ends Number most_id
  check (nat_le 1 layer && nat_le layer shape.layers) fault
  pure (layer - 1)
