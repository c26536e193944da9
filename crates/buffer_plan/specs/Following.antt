-- Marks that are followed to the buffers that they name.
use Rattle.std.specs.Prelude.{◌≡◌, ℕ, suc, ◌+◌, ◌<◌, ◌≤◌, List, length, All, fold, sum_by, Option, None}
use Rattle.std.specs.Option.{option_or}
use Rattle.elmore_delay.specs.Placements.{placed_at}
use Rattle.ginneken_lists.specs.Candidates.{Chosen, Nothing, Buffered, Both, chosen_at}
use Rattle.ginneken_lists.specs.Trails.{chosen_of}
use Rattle.buffer_plan.specs.Gathered.{IsWithin}

-- what a stack of marks names at a node, where the last mark comes first
abbrev pub named_at : List Chosen → List ℕ → ℕ → Option ℕ
named_at trail marks node = fold (λ named mark. option_or (chosen_at (chosen_of trail mark) node) named) None marks

-- what stands at a node, and else what the marks name there
abbrev pub named_with : List Chosen → List ℕ → List (Option ℕ) → ℕ → Option ℕ
named_with trail marks p node = option_or (placed_at p node) (named_at trail marks node)

-- the same where one mark more is above the others
abbrev pub named_first : List Chosen → ℕ → List ℕ → ℕ → Option ℕ
named_first trail mark marks node = option_or (chosen_at (chosen_of trail mark) node) (named_at trail marks node)

-- the size of a choice, and of what a stack of marks names
abbrev pub size_of : Chosen → ℕ
size_of Nothing = 1
size_of (Buffered node kind below) = suc (size_of below)
size_of (Both left right) = suc (size_of left + size_of right)

abbrev pub sizes_of : List Chosen → List ℕ → ℕ
sizes_of trail marks = sum_by (λ mark. size_of (chosen_of trail mark)) marks

-- each mark is of the trail, and names nodes of the tree
pub record AreFollowable (nodes : ℕ) (trail : List Chosen) (marks : List ℕ) : Type 0 where
  pub marked : All (λ mark. mark ≤ length trail) marks
  pub within : All (λ mark. IsWithin nodes (chosen_of trail mark)) marks

-- one mark more, above others, is followed: the same stands or is named at each node, and less is left to follow
pub record IsFollowed (trail : List Chosen) (mark : ℕ) (marks : List ℕ) (p : List (Option ℕ)) (now : List ℕ)
    (q : List (Option ℕ)) : Type 0 where
  pub long : length q ≡ length p
  pub same : (node : ℕ) → named_with trail now q node ≡ option_or (placed_at p node) (named_first trail mark marks node)
  pub followable : AreFollowable (length p) trail marks → AreFollowable (length q) trail now
  pub less : sizes_of trail now < size_of (chosen_of trail mark) + sizes_of trail marks
