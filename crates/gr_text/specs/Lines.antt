-- Lines of a text.
use Rattle.std.specs.Prelude.{ℕ, List, ◌++◌, codes}
use Rattle.std.specs.Fmt.{decimal}

-- the line of a word and a number
abbrev pub number_line : (word : List ℕ) → ℕ → List ℕ
number_line word n = word ++ codes " " ++ decimal n ++ codes "\n"
