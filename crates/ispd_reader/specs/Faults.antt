-- The faults of a design text and their numbers.
use Rattle.std.specs.Prelude.{ℕ}
use Rattle.gr_text.specs.declared.source.Ends.{Ends}
use Rattle.ispd_reader.specs.declared.fault.DesignFault.{DesignFault}
use Rattle.ispd_reader.specs.declared.fault.DesignFault.TheVariants.{Ended, Word, Number, Grid, Tile, NoLayer, Pins, PinOutside, PinLayer, RepeatedId, Adjust, Trailing, TooLong}

-- the faults of a text that ends where a token is due, and of one that goes on past its limit
abbrev pub ends : Ends DesignFault
ends = record { ended = Ended; too_long = TooLong }

-- the number under which a fault is told to the user
abbrev pub fault_number : DesignFault → ℕ
fault_number Ended = 1
fault_number Word = 2
fault_number Number = 3
fault_number Grid = 4
fault_number Tile = 5
fault_number NoLayer = 6
fault_number Pins = 7
fault_number PinOutside = 8
fault_number PinLayer = 9
fault_number RepeatedId = 10
fault_number Adjust = 11
fault_number Trailing = 12
fault_number TooLong = 13
