-- The faults of a solution's text and their numbers.
use Rattle.std.specs.Prelude.{ℕ}
use Rattle.gr_text.specs.declared.source.Ends.{Ends}
use Rattle.solution_text.specs.declared.fault.SolutionFault.{SolutionFault}
use Rattle.solution_text.specs.declared.fault.SolutionFault.TheVariants.{Ended, Form, Number, UnknownId, Name, RepeatedNet, Outside, Slanted, TooLong}

-- the faults of a text that ends where a token is due, and of one that goes on past its limit
abbrev pub ends : Ends SolutionFault
ends = record { ended = Ended; too_long = TooLong }

-- the number under which a fault is told to the user
abbrev pub fault_number : SolutionFault → ℕ
fault_number Ended = 1
fault_number Form = 2
fault_number Number = 3
fault_number UnknownId = 4
fault_number Name = 5
fault_number RepeatedNet = 6
fault_number Outside = 7
fault_number Slanted = 8
fault_number TooLong = 9
