-- What the bytes of a text say for a design: a solution, or the first fault and the number of its token.
use Rattle.std.specs.Prelude.{ℕ, ◌+◌, ◌==◌, Bool, true, false, List, [], ◌∷◌, length, map, Result, Ok, Err, if◌then◌else◌}
use Rattle.std.specs.List.{filter, range_with_len}
use Rattle.gr_base.specs.Limits.{most_bytes}
use Rattle.gr_base.specs.Designs.{DesignView}
use Rattle.gr_text.specs.Tokens.{Ending, AtEnd, PastLimit, Place, place_in}
use Rattle.solution_text.specs.declared.run.Run.{Run}
use Rattle.solution_text.specs.declared.fault.SolutionFault.{SolutionFault}
use Rattle.solution_text.specs.declared.fault.SolutionFault.TheVariants.{Ended, TooLong}
use Rattle.solution_text.specs.Grammar.{Checked, Mode, Between, Named, First, Within, Progress, start, step}
use Rattle.route_reader.specs.Solutions.{SolutionView}

-- what tokens say, or the first fault and the number of its token
abbrev pub Said : Type 0 → Type 0
Said A = Result A (SolutionFault × ℕ)

-- on to the next token, but not past one that is at fault
abbrev pub go_on : Checked Progress → (number : ℕ) → (Progress → Said Progress) → Said Progress
go_on (Ok progress) number next = next progress
go_on (Err fault) number next = Err (fault, number)

abbrev pub is_between : Mode → Bool
is_between Between = true
is_between (Named name) = false
is_between (First net) = false
is_between (Within net) = false

-- behind the last token: a text may end between two records, but not within one; a text past its limit is too long
-- wherever it stands
abbrev pub end_of : Progress → (number : ℕ) → Ending → Said Progress
end_of s number AtEnd = if is_between s.mode then Ok s else Err (Ended, number + 1)
end_of s number PastLimit = Err (TooLong, number + 1)

-- the tokens, one by one, behind so many others
abbrev pub records : DesignView → Progress → (number : ℕ) → List (List ℕ) → Ending → Said Progress
records d s number [] ending = end_of s number ending
records d s number (token ∷ rest) ending =
    go_on (step d s token) (number + 1) (λ progress. records d progress (number + 1) rest ending)

-- the runs that were found for a net, in the order of the text
abbrev pub runs_of_net : List (ℕ × Run) → ℕ → List Run
runs_of_net found net = map (λ f. f.1) (filter (λ f. f.0 == net) found)

-- the runs found for each of the design's nets
abbrev pub solution_in : DesignView → Progress → SolutionView
solution_in d s = record { shape = d.frame.shape; runs = map (runs_of_net s.found) (range_with_len 0 (length d.nets)) }

abbrev pub solution_from : DesignView → Said Progress → Said SolutionView
solution_from d (Ok s) = Ok (solution_in d s)
solution_from d (Err fault) = Err fault

-- what the tokens from a place on say
abbrev pub solution_at : DesignView → Progress → Place → Said SolutionView
solution_at d s place = solution_from d (records d s place.number place.rest place.ending)

-- what the bytes of a text say
unfoldable pub solution_of : DesignView → List ℕ → Said SolutionView
solution_of d bytes = solution_at d start (place_in most_bytes 0 bytes)
