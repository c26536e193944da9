-- A first part of a text behind other bytes.
use Rattle.std.specs.Prelude.{◌≡◌, ℕ, List, ◌++◌}

-- to the old bytes came a first part of a text, and no more
pub record AppendsPart (old new text : List ℕ) : Type 0 where
  pub done : List ℕ
  pub rest : List ℕ
  pub written : new ≡ old ++ done
  pub whole : done ++ rest ≡ text
