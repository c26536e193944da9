-- The items of a library text: each is read behind its word, and adds to what was gathered before it.
use Rattle.std.specs.Prelude.{ℕ, ◌-◌, ◌&&◌, not, nat_lt, nat_le, Bool, true, false, pos, neg_ℤ, List, length, Option, Some, None, is_none, slice_index_or}
use Rattle.std.specs.List.{list_any}
use Rattle.std.specs.Str.{bytes_eq}
use Rattle.gr_base.specs.Limits.{most_id, most_pins}
use Rattle.gr_base.specs.Designs.{DesignView, net_with_id, pins_at}
use Rattle.gr_text.specs.Reading.{Reader, ◌>>=◌, ◌>>◌, pure, check, given, token, number, natural}
use Rattle.rc_library.specs.Faults.{ends}
use Rattle.rc_library.specs.Limits.{most_resistance, most_capacitance, most_time, most_kinds}
use Rattle.rc_library.specs.Gathered.{Gathered, with_wire, with_kind, with_places, with_block, with_driver_of, with_sink_of, with_flip}
use Rattle.rc_library.specs.declared.fault.LibraryFault.{LibraryFault}
use Rattle.rc_library.specs.declared.fault.LibraryFault.TheVariants as fault
use Rattle.rc_library.specs.declared.keyword.Keyword.{Keyword}
use Rattle.rc_library.specs.declared.keyword.Keyword.TheVariants as word
use Rattle.rc_library.specs.declared.parts.Wire.{Wire}
use Rattle.rc_library.specs.declared.parts.Kind.{Kind}
use Rattle.rc_library.specs.declared.parts.Sinking.{Sinking}
use Rattle.rc_library.specs.declared.parts.NamedKind.{NamedKind}

-- `R C`
unfoldable pub wire : Reader LibraryFault Wire
wire = do
  r ← natural ends fault.Number most_resistance
  c ← natural ends fault.Number most_capacitance
  pure (record { r = r; c = c })

-- `C TIME`
unfoldable pub sinking : Reader LibraryFault Sinking
sinking = do
  c ← natural ends fault.Number most_capacitance
  time ← number ends fault.Number (neg_ℤ (pos most_time)) (pos most_time)
  pure (record { c = c; time = time })

-- `C R D`
unfoldable pub kind : Reader LibraryFault Kind
kind = do
  c ← natural ends fault.Number most_capacitance
  r ← natural ends fault.Number most_resistance
  delay ← number ends fault.Number (pos 0) (pos most_time)
  pure (record { c = c; r = r; delay = delay })

-- there is a layer of this number, counted from 1, and its wire isn't given yet
abbrev pub waits_for_wire : List (Option Wire) → ℕ → Bool
waits_for_wire wires layer =
    nat_le 1 layer && nat_le layer (length wires) && is_none (slice_index_or wires (layer - 1) None)

-- `LAYER`
unfoldable pub layer : List (Option Wire) → Reader LibraryFault ℕ
layer wires = do
  layer ← natural ends fault.Number most_id
  check (waits_for_wire wires layer) fault.Layer
  pure (layer - 1)

-- `wire LAYER R C`
unfoldable pub wire_item : Gathered → Reader LibraryFault Gathered
wire_item g = do
  layer ← layer g.wires
  wire ← wire
  pure (with_wire layer wire g)

-- `via R C`
unfoldable pub via_item : Gathered → Reader LibraryFault Gathered
via_item g = do
  check (is_none g.via) fault.Word
  via ← wire
  pure (record g { via = Some via })

-- `driver R`
unfoldable pub driver_item : Gathered → Reader LibraryFault Gathered
driver_item g = do
  check (is_none g.driver) fault.Word
  driver ← natural ends fault.Number most_resistance
  pure (record g { driver = Some driver })

-- `sink C TIME`
unfoldable pub sink_item : Gathered → Reader LibraryFault Gathered
sink_item g = do
  check (is_none g.sink) fault.Word
  sink ← sinking
  pure (record g { sink = Some sink })

-- a kind has the name
abbrev pub has_kind : List NamedKind → List ℕ → Bool
has_kind kinds name = list_any (λ kind. bytes_eq kind.name name) kinds

-- `NAME` of a kind
unfoldable pub kind_name : List NamedKind → Reader LibraryFault (List ℕ)
kind_name kinds = do
  name ← token ends
  check (not (has_kind kinds name)) fault.RepeatedKind
  pure name

-- `kind NAME C R D`, and `inverter` likewise
unfoldable pub kind_item : Bool → Gathered → Reader LibraryFault Gathered
kind_item inverts g = do
  check (nat_lt (length g.kinds) most_kinds) fault.TooMany
  name ← kind_name g.kinds
  kind ← kind
  pure (with_kind (record { name = name; kind = kind; inverts = inverts }) g)

-- `block COLUMN ROW`
unfoldable pub block_item : DesignView → Gathered → Reader LibraryFault Gathered
block_item d g = do
  column ← natural ends fault.Number most_id
  check (nat_lt column d.frame.shape.columns) fault.Tile
  row ← natural ends fault.Number most_id
  check (nat_lt row d.frame.shape.rows) fault.Tile
  pure (with_places (with_block column row g.places) g)

-- `ID`, as the number of its net
unfoldable pub net : DesignView → Reader LibraryFault ℕ
net d = do
  id ← natural ends fault.Number most_id
  given (net_with_id d id) fault.UnknownId

-- `PIN` of a net, whose driver is pin 0
unfoldable pub pin : DesignView → ℕ → Reader LibraryFault ℕ
pin d net = do
  pin ← natural ends fault.Number most_pins
  check (nat_le 1 pin && nat_lt pin (length (pins_at d net))) fault.Pin
  pure pin

-- `drive ID R`
unfoldable pub drive_item : DesignView → Gathered → Reader LibraryFault Gathered
drive_item d g = do
  net ← net d
  r ← natural ends fault.Number most_resistance
  pure (with_places (with_driver_of net r g.places) g)

-- `pin ID PIN C TIME`
unfoldable pub pin_item : DesignView → Gathered → Reader LibraryFault Gathered
pin_item d g = do
  net ← net d
  pin ← pin d net
  sink ← sinking
  pure (with_places (with_sink_of net pin sink g.places) g)

-- `flip ID PIN`
unfoldable pub flip_item : DesignView → Gathered → Reader LibraryFault Gathered
flip_item d g = do
  net ← net d
  pin ← pin d net
  pure (with_places (with_flip net pin g.places) g)

-- an item behind its word
abbrev pub item : DesignView → Keyword → Gathered → Reader LibraryFault Gathered
item d word.Wire g = wire_item g
item d word.Via g = via_item g
item d word.Driver g = driver_item g
item d word.Sink g = sink_item g
item d word.Kind g = kind_item false g
item d word.Inverter g = kind_item true g
item d word.Block g = block_item d g
item d word.Drive g = drive_item d g
item d word.Pin g = pin_item d g
item d word.Flip g = flip_item d g
item d word.End g = pure g
