-- The edges that a solution's text gives to a net.
use Rattle.std.specs.Prelude.{ℕ, ◌&&◌, ◌==◌, List, [], ◌∷◌, Ok, Err}
use Rattle.std.specs.List.{list_any}
use Rattle.gr_base.specs.declared.grid.Shape.{Shape}
use Rattle.gr_base.specs.Designs.{DesignView}
use Rattle.gr_base.specs.EdgeSets.{Edges}
use Rattle.gr_text.specs.Tokens.{tokens}
use Rattle.solution_text.specs.declared.run.Run.{Run}
use Rattle.solution_text.specs.Covers.{covers}
use Rattle.solution_text.specs.Grammar.{Checked, Progress, start, step}

-- on to the next token, but not past one that is at fault
abbrev pub go_on : Progress → (Progress → Progress) → Checked Progress → Progress
go_on s next (Ok progress) = next progress
go_on s next (Err fault) = s

-- what the tokens say, up to the first that is at fault
abbrev pub read : DesignView → Progress → List (List ℕ) → Progress
read d s [] = s
read d s (token ∷ rest) = go_on s (λ progress. read d progress rest) (step d s token)

-- the edges that a net's runs cover
abbrev pub edges_in : Shape → List (ℕ × Run) → ℕ → Edges
edges_in g found net e = list_any (λ segment. segment.0 == net && covers g segment.1 e) found

-- the edges that a solution's text gives to a net: all that its segments cover. A net without a record has none. A text that
-- breaks the grammar counts up to the token at fault
abbrev pub cover : DesignView → List ℕ → ℕ → Edges
cover d bytes = edges_in d.frame.shape (read d start (tokens bytes)).found
