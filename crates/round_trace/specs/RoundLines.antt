-- The line of a round.
use Rattle.std.specs.Prelude.{ℕ, List, ◌++◌, codes}
use Rattle.std.specs.Fmt.{decimal}
use Rattle.round_trace.specs.declared.done.RoundDone.{RoundDone}

-- a word and a number
abbrev pub counted : (word : List ℕ) → ℕ → List ℕ
counted word number = word ++ decimal number

abbrev pub round_line : RoundDone → List ℕ
round_line done =
    counted (codes "round ") done.round ++ counted (codes " overflow ") done.overflow ++
    counted (codes " nets ") done.nets ++ counted (codes " full ") done.full ++ codes "\n"
