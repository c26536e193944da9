-- The faults of a library text and their numbers.
use Rattle.std.specs.Prelude.{ℕ}
use Rattle.gr_text.specs.declared.source.Ends.{Ends}
use Rattle.rc_library.specs.declared.fault.LibraryFault.{LibraryFault}
use Rattle.rc_library.specs.declared.fault.LibraryFault.TheVariants.{Ended, Word, Number, Layer, RepeatedKind, Missing, Trailing, TooLong, TooMany, Tile, UnknownId, Pin}

-- the faults of a text that ends where a token is due, and of one that goes on past its limit
abbrev pub ends : Ends LibraryFault
ends = record { ended = Ended; too_long = TooLong }

-- the number under which a fault is told to the user
abbrev pub fault_number : LibraryFault → ℕ
fault_number Ended = 1
fault_number Word = 2
fault_number Number = 3
fault_number Layer = 4
fault_number RepeatedKind = 5
fault_number Missing = 6
fault_number Trailing = 7
fault_number TooLong = 8
fault_number TooMany = 9
fault_number Tile = 10
fault_number UnknownId = 11
fault_number Pin = 12
