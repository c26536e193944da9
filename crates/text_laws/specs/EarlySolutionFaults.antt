-- What decides a solution's text.
use Rattle.std.specs.Prelude.{◌≡◌, ℕ, ◌≤◌, List, length, take, Err}
use Rattle.gr_base.specs.Limits.{most_bytes}
use Rattle.gr_base.specs.Designs.{DesignView}
use Rattle.gr_text.specs.Tokens.{tokens}
use Rattle.route_reader.specs.SolutionText.{solution_of}
use Rattle.solution_text.specs.declared.fault.SolutionFault.{SolutionFault}

-- The first fault is decided by the design and by the tokens up to it, as that of a design text is.
abbrev pub SolutionFaultsAreDecidedEarly : Type 0
SolutionFaultsAreDecidedEarly = (d : DesignView) (text other : List ℕ) (fault : SolutionFault) (token : ℕ) →
    length text ≤ most_bytes → length other ≤ most_bytes → take token (tokens text) ≡ take token (tokens other) →
    solution_of d text ≡ Err (fault, token) → solution_of d other ≡ Err (fault, token)

-- What a text says for a design is decided by its tokens.
abbrev pub TokensDecideSolutions : Type 0
TokensDecideSolutions = (d : DesignView) (text other : List ℕ) → length text ≤ most_bytes → length other ≤ most_bytes →
    tokens text ≡ tokens other → solution_of d text ≡ solution_of d other
