-- Which nets are put in which deque.
use Rattle.std.specs.Prelude.{ℕ, suc, ◌%◌, ◌==◌, if◌then◌else◌, List, [], ◌∷◌, map}
use Rattle.std.specs.List.{range_with_len}

-- of nets whose first has this place, those whose place modulo the number of workers is the hand's number
abbrev pub dealt_from : ℕ → ℕ → ℕ → List ℕ → List ℕ
dealt_from place workers hand [] = []
dealt_from place workers hand (net ∷ nets) =
    if place % workers == hand
    then net ∷ dealt_from (suc place) workers hand nets
    else dealt_from (suc place) workers hand nets

-- the nets that are put in a hand's deque, in order
abbrev pub dealt : ℕ → List ℕ → ℕ → List ℕ
dealt workers nets hand = dealt_from 0 workers hand nets

-- those of each deque
abbrev pub deals : ℕ → List ℕ → List (List ℕ)
deals workers nets = map (dealt workers nets) (range_with_len 0 workers)
