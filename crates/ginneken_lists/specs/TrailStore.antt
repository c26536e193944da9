-- How a trail stores its choices.
use Rattle.std.specs.Prelude.{ℕ, ◌+◌, ◌<◌, List, length, slice_index_or}
use Rattle.ginneken_lists.specs.Trails.{HasBuffer, IsBelow}
use Rattle.ginneken_lists.specs.declared.choice.Choice.{Choice}

-- a choice at a mark has a buffer, and its marks are lower
pub record IsChoiceAt (mark : ℕ) (choice : Choice) : Type 0 where
  pub some : HasBuffer choice
  pub below : IsBelow mark choice

-- each choice is one at the mark that names it
abbrev pub AreChoices : List Choice → Type 0
AreChoices choices = (at : ℕ) (d : Choice) → at < length choices → IsChoiceAt (at + 1) (slice_index_or choices at d)
