-- A queue of pairs as its callers see it.
use Rattle.std.specs.Prelude.{◌≡◌, ℕ, ◌≤◌, List, [], ◌∷◌, All, Option, Some, None}
use Rattle.std.specs.List.Sorted.{IsPermutation}

-- the pairs of key and cell that wait, in no particular order, and the last key taken
pub record QueueView : Type 0 where
  pub pairs : List (ℕ × ℕ)
  pub last : ℕ

-- the pair was put in, once
pub record IsPushed (key cell : ℕ) (before after : QueueView) : Type 0 where
  pub pairs : IsPermutation ((key, cell) ∷ before.pairs) after.pairs
  pub last : after.last ≡ before.last

-- a pair of least key was taken out, once
pub record IsPopped (key cell : ℕ) (before after : QueueView) : Type 0 where
  pub pairs : IsPermutation before.pairs ((key, cell) ∷ after.pairs)
  pub least : All (λ (p : ℕ × ℕ). key ≤ p.0) after.pairs
  pub last : after.last ≡ key

-- what taking a pair answers and leaves; there is none exactly where none waits
abbrev pub Pops : Option (ℕ × ℕ) → QueueView → QueueView → Type 0
Pops None before after = (before.pairs ≡ []) × (after ≡ before)
Pops (Some pair) before after = IsPopped pair.0 pair.1 before after
