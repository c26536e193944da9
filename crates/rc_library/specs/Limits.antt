-- The limits of libraries.
use Rattle.std.specs.Prelude.{ℕ}

-- the greatest resistance in ohms, and the greatest capacitance in femtofarads
abbrev pub most_resistance : ℕ
most_resistance = 1000000

abbrev pub most_capacitance : ℕ
most_capacitance = 1000000

-- the greatest time in femtoseconds, either way
abbrev pub most_time : ℕ
most_time = 1125899906842624

-- how many kinds of buffers a library may have
abbrev pub most_kinds : ℕ
most_kinds = 32
