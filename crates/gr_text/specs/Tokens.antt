-- The tokens of a text, and a place among them.
use Rattle.std.specs.Prelude.{ℕ, nat_lt, nat_le, List, [], ◌∷◌, length, take, filter, if◌then◌else◌}
use Rattle.std.specs.List.{slice_split}
pub use Rattle.gr_base.specs.Names.{is_blank}

-- the runs of one byte or more
abbrev pub some_runs : List (List ℕ) → List (List ℕ)
some_runs = filter (λ run. nat_lt 0 (length run))

-- the tokens of a text: its maximal runs of bytes that aren't blank
unfoldable pub tokens : List ℕ → List (List ℕ)
tokens bytes = some_runs (slice_split is_blank bytes)

-- all parts but the last
abbrev pub but_last : List (List ℕ) → List (List ℕ)
but_last [] = []
but_last (part ∷ []) = []
but_last (part ∷ other ∷ parts) = part ∷ but_last (other ∷ parts)

-- the tokens that a blank follows: all but one that reaches the end
unfoldable pub closed_tokens : List ℕ → List (List ℕ)
closed_tokens bytes = some_runs (but_last (slice_split is_blank bytes))

-- what stands behind the last token that may be read: the text's end, or the limit of what may be read of it
pub data Ending : Type 0 where
  AtEnd : Ending
  PastLimit : Ending

-- a place among a text's tokens: how many are read, those that are left, and what stands behind them
pub record Place : Type 0 where
  pub number : ℕ
  pub rest : List (List ℕ)
  pub ending : Ending

-- what may be read of a text: all tokens, but in a text longer than the limit only those that a blank follows within it
unfoldable pub place_in : (limit number : ℕ) → List ℕ → Place
place_in limit number bytes =
    if nat_le (length bytes) limit
    then (record { number = number; rest = tokens bytes; ending = AtEnd })
    else (record { number = number; rest = closed_tokens (take limit bytes); ending = PastLimit })
