-- How far a text is read.
use Rattle.std.specs.Prelude.{◌≡◌, ℕ, ◌-◌, ◌≤◌, ◌⊎◌, true, not, List, [], ◌++◌, length}
use Rattle.std.specs.List.{list_all}
use Rattle.gr_text.specs.Tokens.{tokens, is_blank}

-- so much of a text was read that this is left of it: what stands before its token of this number, the token or a first
-- part of it, and behind that at most one piece, or nothing but blanks to the text's end
pub record IsReadTo (bytes : List ℕ) (token : ℕ) (left : List ℕ) : Type 0 where
  pub front : List ℕ
  pub word : List ℕ
  pub ahead : List ℕ
  pub is : bytes ≡ front ++ (word ++ (ahead ++ left))
  pub earlier : length (tokens front) ≤ token - 1
  pub solid : list_all (λ byte. not (is_blank byte)) word ≡ true
  pub little : (length ahead ≤ 65536) ⊎ ((list_all is_blank ahead ≡ true) × (left ≡ []))

-- the same of a text of which so many tokens were given, with the blanks behind the last one and what was read and lies
-- ahead
pub record HasRead (bytes : List ℕ) (number : ℕ) (pending left : List ℕ) : Type 0 where
  pub front : List ℕ
  pub word : List ℕ
  pub behind : List ℕ
  pub is : bytes ≡ front ++ (word ++ (behind ++ (pending ++ left)))
  pub earlier : length (tokens front) ≤ number - 1
  pub so_far : length (tokens (front ++ word)) ≤ number
  pub solid : list_all (λ byte. not (is_blank byte)) word ≡ true
  pub closed : list_all is_blank behind ≡ true
  pub little : (length (behind ++ pending) ≤ 65536) ⊎ ((pending ≡ []) × (left ≡ []))
