-- How choices are told apart: a choice is written as a list of signs, from which it is read back.
use Rattle.std.specs.Prelude.{◌≡◌, ℕ, List, [], ◌∷◌, Option, Some, None, refl}
use Rattle.std.specs.Coded.{Coded, code_by, coded×, coded_ℕ, coded_list, coded_option}
use mathlib.Core.Path.{ap, ◌∙◌}
use Rattle.ginneken_lists.specs.Candidates.{Chosen, Nothing, Buffered, Both}

-- no buffer; two branches; or a buffer of a kind at a node
abbrev Sign : Type 0
Sign = Option (Option (ℕ × ℕ))

-- the signs of a choice, its parts before it, in front of others
abbrev signs : Chosen → List Sign → List Sign
signs Nothing rest = None ∷ rest
signs (Buffered node kind below) rest = signs below (Some (Some (node, kind)) ∷ rest)
signs (Both left right) rest = signs left (signs right (Some None ∷ rest))

-- what signs say, each of the parts that were read last
abbrev read : List Sign → List Chosen → List Chosen
read [] parts = parts
read (None ∷ rest) parts = read rest (Nothing ∷ parts)
read (Some (Some sign) ∷ rest) (below ∷ parts) = read rest (Buffered sign.0 sign.1 below ∷ parts)
read (Some None ∷ rest) (right ∷ left ∷ parts) = read rest (Both left right ∷ parts)
read (Some sign ∷ rest) parts = read rest parts

pub read-signs : (chosen : Chosen) (rest : List Sign) (parts : List Chosen) → read (signs chosen rest) parts ≡ read rest (chosen ∷ parts)
read-signs Nothing rest parts = refl
read-signs (Buffered node kind below) rest parts = read-signs below (Some (Some (node, kind)) ∷ rest) parts
read-signs (Both left right) rest parts =
    read-signs left (signs right (Some None ∷ rest)) parts ∙ read-signs right (Some None ∷ rest) (left ∷ parts)

abbrev first : List Chosen → Chosen
first [] = Nothing
first (chosen ∷ rest) = chosen

abbrev pub trail_code : Coded (List Chosen)
trail_code = coded_list (code_by (List Sign) (coded_list (coded_option (coded_option (coded× coded_ℕ coded_ℕ))))
    (λ chosen. signs chosen []) (λ all. first (read all [])) (λ chosen. ap first (read-signs chosen [] [])))
