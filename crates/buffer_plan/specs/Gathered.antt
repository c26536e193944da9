-- The lists of nodes while they are gathered.
use Rattle.std.specs.Prelude.{◌≡◌, ℕ, ◌+◌, ◌-◌, ◌*◌, ◌^◌, ◌<◌, ◌≤◌, List, [], ◌∷◌, length, All, sum_by, Option, Some, None, slice_index_or}
use Rattle.gr_base.specs.Trees.{TreeView}
use Rattle.rc_library.specs.Libraries.{LibraryView}
use Rattle.elmore_delay.specs.Loadings.{LoadingView}
use Rattle.elmore_delay.specs.Ranges.{IsSeen}
use Rattle.ginneken_lists.specs.Candidates.{Chosen, Candidate, Nothing, Buffered, Both}
use Rattle.ginneken_lists.specs.Pairs.{candidates as candidates_of, AreMarked}
use Rattle.ginneken_lists.specs.declared.pair.Pair.{Pair}
use Rattle.buffer_plan.specs.Picked.{Sites, candidates_of_last}

-- the pairs of a branch without sinks, and those of a list that such a branch may lack
abbrev pub no_pairs : List Pair
no_pairs = record { load = 0; time = None; mark = 0 } ∷ []

abbrev pub pairs_in : Option (List Pair) → List Pair
pairs_in None = no_pairs
pairs_in (Some pairs) = pairs

abbrev pub pairs_at : List (Option (List Pair)) → ℕ → List Pair
pairs_at lists node = pairs_in (slice_index_or lists node None)

-- how many pairs a list has beyond one
abbrev pub more_pairs : Option (List Pair) → ℕ
more_pairs list = length (pairs_in list) - 1

-- the loading is one of this tree, by this library
pub record IsLoadingOf (loading : LoadingView) (tree : TreeView) (library : LibraryView) : Type 0 where
  pub tree_is : loading.tree ≡ tree
  pub library_is : loading.library ≡ library

-- at each node before a number stands the list of its candidates, of its children those from that number on
pub record AreGathered (s : Sites) (from : ℕ) (trail : List Chosen) (lists : List (Option (List Pair))) : Type 0 where
  pub long : length lists ≡ s.tree.nodes
  pub some : 0 < from
  pub within : from ≤ s.tree.nodes
  pub listed : (node : ℕ) → node < from →
      candidates_of trail (pairs_at lists node) ≡ candidates_of_last (s.tree.nodes - from) s node
  pub marked : (node : ℕ) → node < from → AreMarked trail (pairs_at lists node)
  pub few : sum_by more_pairs lists ≤ length s.library.kinds * (s.tree.nodes - from)

-- loads and times are far within what lists may hold
abbrev pub AreSmall : List Candidate → Type 0
AreSmall all = All (λ o. IsSeen (2 ^ 100) o.seen) all

-- the most steps that the lists of a node may take
abbrev pub most_steps : (kinds nodes : ℕ) → ℕ
most_steps kinds nodes = 8 * (1 + kinds) * (1 + kinds * nodes)

-- what is chosen stands at later nodes than node 0, below a number
abbrev pub IsWithin : ℕ → Chosen → Type 0
IsWithin nodes Nothing = Unit {0}
IsWithin nodes (Buffered node kind below) = (0 < node) × (node < nodes) × IsWithin nodes below
IsWithin nodes (Both left right) = IsWithin nodes left × IsWithin nodes right
