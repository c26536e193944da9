-- Libraries, read for the nets and the tiles of one design.
use Rattle.std.specs.Prelude.{◌≡◌, ℕ, ◌+◌, ◌*◌, ◌-◌, ◌<◌, ◌≤◌, pos, negsuc, ◌≤ℤ◌, Bool, true, false, List, length, map, take, All, Option, None, IfSome, option_map, unwrap_or, slice_get, slice_index_or}
use Rattle.std.specs.List.{IsDistinct, range_with_len}
use Rattle.std.specs.Str.{bytes_eq}
use Rattle.gr_base.specs.Limits.{most_cells, most_pins}
use Rattle.gr_base.specs.Names.{is_token}
use Rattle.gr_base.specs.Designs.{DesignView, pins_of}
use Rattle.gr_base.specs.declared.frame.Net.{Net}
use Rattle.rc_library.specs.Limits.{most_resistance, most_capacitance, most_time, most_kinds}
use Rattle.rc_library.specs.declared.parts.Wire.{Wire}
use Rattle.rc_library.specs.declared.parts.Kind.{Kind}
use Rattle.rc_library.specs.declared.parts.Sinking.{Sinking}
use Rattle.rc_library.specs.declared.parts.NamedKind.{NamedKind}

-- how many columns and rows of tiles there are, and the number of each net's first pin, where the pins of all nets are
-- counted one after another; behind the last net's stands the number of all pins
pub record Sizes : Type 0 where
  pub columns : ℕ
  pub rows : ℕ
  pub firsts : List ℕ

abbrev pub firsts_of : List Net → List ℕ
firsts_of nets = map (λ net. pins_of (take net nets)) (range_with_len 0 (length nets + 1))

abbrev pub sizes_of : DesignView → Sizes
sizes_of d = record {
  columns = d.frame.shape.columns;
  rows = d.frame.shape.rows;
  firsts = firsts_of d.nets;
}

-- what a library says: the wires by layer, the via, the driver and the sink where nothing else is said, and the kinds
-- of buffers; by tile, row after row, whether it is blocked; by net the driver of its own, and by pin the sink of its
-- own and whether it wants the inverted signal
pub record LibraryView : Type 0 where
  pub version : ℕ
  pub sizes : Sizes
  pub wires : List Wire
  pub via : Wire
  pub driver : ℕ
  pub sink : Sinking
  pub kinds : List NamedKind
  pub blocked : List Bool
  pub drivers : List (Option ℕ)
  pub sinks : List (Option Sinking)
  pub flips : List Bool

-- the kind of a number, without its name; its name; and whether it inverts
abbrev pub kind_of : LibraryView → ℕ → Option Kind
kind_of lib kind = option_map (λ named. named.kind) (slice_get lib.kinds kind)

abbrev pub name_of : LibraryView → ℕ → Option (List ℕ)
name_of lib kind = option_map (λ named. named.name) (slice_get lib.kinds kind)

abbrev pub inverts_at : LibraryView → ℕ → Option Bool
inverts_at lib kind = option_map (λ named. named.inverts) (slice_get lib.kinds kind)

-- no buffer may stand in the tile
abbrev pub blocked_at : LibraryView → (x y : ℕ) → Bool
blocked_at lib x y = slice_index_or lib.blocked (y * lib.sizes.columns + x) false

-- the resistance of a net's driver
abbrev pub driver_of : LibraryView → (net : ℕ) → ℕ
driver_of lib net = unwrap_or (slice_index_or lib.drivers net None) lib.driver

-- the number of a net's pin among the pins of all nets
abbrev pub pin_number : Sizes → (net pin : ℕ) → ℕ
pin_number sizes net pin = slice_index_or sizes.firsts net 0 + pin

-- the net has this pin
abbrev pub HasPin : Sizes → (net pin : ℕ) → Type 0
HasPin sizes net pin = pin_number sizes net pin < slice_index_or sizes.firsts (net + 1) 0

-- the capacitance and the time of a net's sink
abbrev pub sink_of : LibraryView → (net pin : ℕ) → Sinking
sink_of lib net pin = unwrap_or (slice_index_or lib.sinks (pin_number lib.sizes net pin) None) lib.sink

-- the sink wants the inverted signal
abbrev pub is_flipped : LibraryView → (net pin : ℕ) → Bool
is_flipped lib net pin = slice_index_or lib.flips (pin_number lib.sizes net pin) false

-- numbers in range
pub record IsWire (wire : Wire) : Type 0 where
  pub r : wire.r ≤ most_resistance
  pub c : wire.c ≤ most_capacitance

pub record IsSinking (sink : Sinking) : Type 0 where
  pub c : sink.c ≤ most_capacitance
  pub early : negsuc (most_time - 1) ≤ℤ sink.time
  pub late : sink.time ≤ℤ pos most_time

pub record IsKind (kind : Kind) : Type 0 where
  pub c : kind.c ≤ most_capacitance
  pub r : kind.r ≤ most_resistance
  pub fast : pos 0 ≤ℤ kind.delay
  pub slow : kind.delay ≤ℤ pos most_time

-- at most so many kinds of buffers, no two of one name
pub record AreKinds (kinds : List NamedKind) : Type 0 where
  pub few : length kinds ≤ most_kinds
  pub names : IsDistinct bytes_eq (map (λ kind. kind.name) kinds)
  pub tokens : All (λ kind. is_token kind.name ≡ true) kinds
  pub each : All (λ kind. IsKind kind.kind) kinds

-- a value for each tile, each net and each pin
pub record IsSized (sizes : Sizes) (blocked : List Bool) (drivers : List (Option ℕ)) (sinks : List (Option Sinking))
    (flips : List Bool) : Type 0 where
  pub tiles : length blocked ≡ sizes.columns * sizes.rows
  pub nets : length drivers + 1 ≡ length sizes.firsts
  pub pins : All (λ first. first ≤ length sinks) sizes.firsts
  pub same_pins : length flips ≡ length sinks
  pub few_tiles : length blocked ≤ most_cells
  pub few_pins : length sinks ≤ most_pins

-- each part is in range; what a later version brought is in none of the earlier ones
pub record IsLibrary (lib : LibraryView) : Type 0 where
  pub least : 1 ≤ lib.version
  pub greatest : lib.version ≤ 3
  pub sized : IsSized lib.sizes lib.blocked lib.drivers lib.sinks lib.flips
  pub wires : All IsWire lib.wires
  pub via : IsWire lib.via
  pub driver : lib.driver ≤ most_resistance
  pub sink : IsSinking lib.sink
  pub kinds : AreKinds lib.kinds
  pub drivers : All (λ driver. IfSome driver (λ r. r ≤ most_resistance)) lib.drivers
  pub sinks : All (λ sink. IfSome sink IsSinking) lib.sinks
  pub no_blocks : lib.version < 2 → All (λ blocked. blocked ≡ false) lib.blocked
  pub no_drivers : lib.version < 2 → All (λ driver. driver ≡ None) lib.drivers
  pub no_sinks : lib.version < 2 → All (λ sink. sink ≡ None) lib.sinks
  pub no_flips : lib.version < 3 → All (λ flipped. flipped ≡ false) lib.flips
  pub no_inverters : lib.version < 3 → All (λ kind. kind.inverts ≡ false) lib.kinds

-- a library that was read for a design
pub record IsLibraryOf (d : DesignView) (lib : LibraryView) : Type 0 where
  pub library : IsLibrary lib
  pub sizes : lib.sizes ≡ sizes_of d
  pub layers : length lib.wires ≡ d.frame.shape.layers
  pub nets : length lib.drivers ≡ length d.nets
