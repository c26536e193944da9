-- Trails: the choices of buffers that marks name, each made of earlier ones.
use Rattle.std.specs.Prelude.{◌≡◌, ℕ, zero, suc, ◌<◌, ◌≤◌, List, [], ◌∷◌, ◌++◌, length, slice_index_or, ⊤}
use Rattle.std.specs.List.{fold}
use Rattle.ginneken_lists.specs.Candidates.{Chosen, Nothing, Buffered, Both}
use Rattle.ginneken_lists.specs.declared.choice.Choice.{Choice}
use Rattle.ginneken_lists.specs.declared.choice.Choice.TheVariants.{Empty, Buffer, Both as Branches}

-- what a mark names, where mark 1 names the first of a trail, and mark 0 no buffer
abbrev pub chosen_of : List Chosen → ℕ → Chosen
chosen_of trail zero = Nothing
chosen_of trail (suc at) = slice_index_or trail at Nothing

-- what a choice names, whose marks are of a trail
abbrev pub chosen_by : List Chosen → Choice → Chosen
chosen_by trail Empty = Nothing
chosen_by trail (Buffer node kind below) = Buffered node kind (chosen_of trail below)
chosen_by trail (Branches left right) = Both (chosen_of trail left) (chosen_of trail right)

-- the trail of some choices, where the marks of each are of those before it
abbrev pub trail_of : List Choice → List Chosen
trail_of choices = fold (λ trail choice. trail ++ chosen_by trail choice ∷ []) [] choices

-- a choice has a buffer
abbrev pub HasBuffer : Choice → Type 0
HasBuffer Empty = ⊥
HasBuffer (Buffer node kind below) = ⊤
HasBuffer (Branches left right) = ⊤

-- the marks of a choice are lower than a mark
abbrev pub IsBelow : ℕ → Choice → Type 0
IsBelow mark Empty = ⊤
IsBelow mark (Buffer node kind below) = below < mark
IsBelow mark (Branches left right) = (left < mark) × (right < mark)

-- marks of a trail name in another one what they name there
pub record Keeps (trail other : List Chosen) : Type 0 where
  pub longer : length trail ≤ length other
  pub same : (mark : ℕ) → mark ≤ length trail → chosen_of other mark ≡ chosen_of trail mark
