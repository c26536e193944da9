-- The nets of a made design.
use Rattle.std.specs.Prelude.{ℕ, ◌+◌, ◌-◌, ◌%◌, ◌^◌, ◌==◌, min, List, length, sum_by, if◌then◌else◌}
use Rattle.design_maker.specs.Draws.{Drawn, ◌>>=◌, pure, draw, each}
use Rattle.design_maker.specs.declared.made.Made.{Made}
use Rattle.design_maker.specs.declared.nets.Tile.{Tile}
use Rattle.design_maker.specs.declared.write.Count.{Count}

-- a net's number, and the tiles of its pins
pub record MadeNet : Type 0 where
  pub number : ℕ
  pub pins : List Tile

-- so many columns and rows further, but no further than the last ones
abbrev pub moved : Made → Tile → (right up : ℕ) → Tile
moved made tile right up = record {
  column = min (made.columns - 1) (tile.column + right);
  row = min (made.rows - 1) (tile.row + up);
}

-- the tile of a pin of a net that starts at a tile
unfoldable pub pin : Made → Tile → Drawn Tile
pin made start = do
  right ← draw 8
  up ← draw 8
  pure (moved made start right up)

-- every tenth net has twelve pins, the others two, or one more
abbrev pub pins_for : (number more : ℕ) → ℕ
pins_for number more = if number % 10 == 9 then 12 else 2 + more

-- the net of this number
unfoldable pub net : Made → ℕ → Drawn MadeNet
net made number = do
  more ← draw 2
  column ← draw made.columns
  row ← draw made.rows
  pins ← each (λ _. pin made (record { column = column; row = row })) 0 (pins_for number more)
  pure (record { number = number; pins = pins })

-- the nets, drawn one after another
unfoldable pub nets_of : Made → List MadeNet
nets_of made = (each (net made) 0 made.nets (made.seed % 2 ^ 31)).0

-- how many nets there are, and how many pins they have together
abbrev pub count_of : List MadeNet → Count
count_of nets = record { nets = length nets; pins = sum_by (λ net. length net.pins) nets }
