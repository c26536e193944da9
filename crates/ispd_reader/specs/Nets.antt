-- The nets of a design text and their pins.
use Rattle.std.specs.Prelude.{ℕ, ◌+◌, ◌&&◌, nat_lt, nat_le, ℤ, pos, neg_ℤ, List, [], is_none, codes}
use Rattle.gr_base.specs.Limits.{most_pins, most_id, most_width, most_nets, most_coordinate}
use Rattle.gr_base.specs.Grid.{number_of}
use Rattle.gr_base.specs.Designs.{net_from, pins_of, tile_of}
use Rattle.gr_base.specs.declared.frame.Frame.{Frame}
use Rattle.gr_base.specs.declared.frame.Net.{Net}
use Rattle.gr_text.specs.Reading.{Reader, ◌>>=◌, ◌>>◌, pure, check, given, token, number, natural, several}
use Rattle.ispd_reader.specs.Faults.{ends}
use Rattle.ispd_reader.specs.Steps.{words, layer_in}
use Rattle.ispd_reader.specs.declared.fault.DesignFault.{DesignFault}
use Rattle.ispd_reader.specs.declared.fault.DesignFault.TheVariants.{Number, Pins, PinOutside, PinLayer, RepeatedId}

-- a coordinate of a pin
unfoldable pub coordinate : Reader DesignFault ℤ
coordinate = number ends Number (neg_ℤ (pos most_coordinate)) (pos most_coordinate)

-- a pin, as the number of its cell
unfoldable pub pin : Frame → Reader DesignFault ℕ
pin frame = do
  x ← coordinate
  column ← given (tile_of frame.lower_x frame.tile_width frame.shape.columns x) PinOutside
  y ← coordinate
  row ← given (tile_of frame.lower_y frame.tile_height frame.shape.rows y) PinOutside
  layer ← layer_in frame.shape PinLayer
  pure (number_of frame.shape (record { x = column; y = row; layer = layer }))

-- a net's id, which none of the nets before it has
unfoldable pub net_id : List Net → Reader DesignFault ℕ
net_id found = do
  id ← natural ends Number most_id
  check (is_none (net_from 0 id found)) RepeatedId
  pure id

-- the number of a net's pins: at least one, and with those of the nets before it no more than a design may have
unfoldable pub pin_count : ℕ → Reader DesignFault ℕ
pin_count before = do
  count ← natural ends Number most_pins
  check (nat_lt 0 count && nat_le (before + count) most_pins) Pins
  pure count

-- a net, behind those found before it
unfoldable pub net : Frame → List Net → Reader DesignFault Net
net frame found = do
  name ← token ends
  id ← net_id found
  count ← pin_count (pins_of found)
  width ← natural ends Number most_width
  pins ← several (λ _. pin frame) count []
  pure (record { name = name; id = id; width = width; pins = pins })

-- the words `num net`, and how many nets there are
unfoldable pub net_count : Reader DesignFault ℕ
net_count = do
  words (codes "num") (codes "net")
  natural ends Number most_nets

-- how many nets there are, and the nets
unfoldable pub nets : Frame → Reader DesignFault (List Net)
nets frame = do
  count ← net_count
  several (net frame) count []
