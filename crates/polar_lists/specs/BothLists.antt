-- The lists of nodes for both signals while they are gathered.
use Rattle.std.specs.Prelude.{◌≡◌, ℕ, ◌+◌, ◌-◌, ◌*◌, ◌<◌, ◌≤◌, Bool, true, false, not, List, [], ◌∷◌, length, All, sum_by, Option, Some, None, IfSome, option_map, slice_index_or, if◌then◌else◌}
use Rattle.std.specs.List.{filter_map, range_with_len}
use Rattle.gr_base.specs.Trees.{TreeView}
use Rattle.rc_library.specs.Libraries.{LibraryView}
use Rattle.elmore_delay.specs.RcTrees.{RcTree}
use Rattle.elmore_delay.specs.FromLeaves.{sinks_seen}
use Rattle.elmore_delay.specs.Loadings.{LoadingView, IsLoading}
use Rattle.elmore_delay.specs.declared.wants.Wants.{Wants}
use Rattle.elmore_delay.specs.declared.wants.Wants.TheVariants.{Any, Plain, Inverse, Both}
use Rattle.ginneken_lists.specs.Candidates.{Chosen, Candidate, with_one}
use Rattle.ginneken_lists.specs.Pairs.{buffer_of, candidates as candidates_of, AreMarked, IsInRange}
use Rattle.ginneken_lists.specs.declared.pair.Pair.{Pair}
use Rattle.buffer_plan.specs.Picked.{Sites}
use Rattle.buffer_plan.specs.Gathered.{no_pairs, IsLoadingOf, AreSmall}
use Rattle.polar_lists.specs.Signals.{BySignal, suits_all, both_of_last}
use Rattle.polar_lists.specs.declared.sides.Sides.{Sides}

-- the loading is one of this tree, by this library, and holds what each does
pub record IsOurLoading (loading : LoadingView) (tree : TreeView) (library : LibraryView) : Type 0 where
  pub of : IsLoadingOf loading tree library
  pub is : IsLoading loading

-- the pairs of a list that a signal may lack
abbrev pub all_in : Option (List Pair) → List Pair
all_in None = []
all_in (Some pairs) = pairs

-- the pairs for a signal
abbrev pub side : Sides → (inverted : Bool) → List Pair
side sides false = all_in sides.plain
side sides true = all_in sides.inverse

-- a branch without sinks, and what stands at a node, where none stands for such a branch
abbrev pub bare : Sides
bare = record { plain = Some no_pairs; inverse = Some no_pairs }

abbrev pub sides_in : Option Sides → Sides
sides_in None = bare
sides_in (Some sides) = sides

abbrev pub sides_at : List (Option Sides) → ℕ → Sides
sides_at lists node = sides_in (slice_index_or lists node None)

-- a signal is what all sinks with these wishes want
abbrev pub suits_those : Wants → (inverted : Bool) → Bool
suits_those Any inverted = true
suits_those Plain inverted = not inverted
suits_those Inverse inverted = inverted
suits_those Both inverted = false

-- the one pair of the sinks at a node for a signal that all of them want, and else none; and the lists for each signal
abbrev pub pairs_of_sinks : RcTree → ℕ → (wanted : Bool) → List Pair
pairs_of_sinks t node wanted =
    if wanted then record { load = (sinks_seen t node).load; time = (sinks_seen t node).time; mark = 0 } ∷ [] else []

abbrev pub AreOfSinks : RcTree → ℕ → Sides → Type 0
AreOfSinks t node sides = (inverted : Bool) → side sides inverted ≡ pairs_of_sinks t node (suits_all t node inverted)

-- the candidates for each signal
abbrev pub candidates_by : List Chosen → Sides → BySignal
candidates_by trail sides inverted = candidates_of trail (side sides inverted)

-- the marks for each signal are those of a trail, and the pairs are in the range of lists
abbrev pub AreBothMarked : List Chosen → Sides → Type 0
AreBothMarked trail sides = (inverted : Bool) → AreMarked trail (side sides inverted)

abbrev pub AreBothInRange : Sides → Type 0
AreBothInRange sides = (inverted : Bool) → All IsInRange (side sides inverted)

-- loads and times for each signal are far within what lists may hold
abbrev pub AreBothSmall : BySignal → Type 0
AreBothSmall all = (inverted : Bool) → AreSmall (all inverted)

-- no list has more pairs than a number
abbrev pub AreShort : ℕ → Sides → Type 0
AreShort most sides = (inverted : Bool) → length (side sides inverted) ≤ most

-- how many pairs the list for a signal has beyond one
abbrev pub more_pairs : (inverted : Bool) → Option Sides → ℕ
more_pairs inverted sides = length (side (sides_in sides) inverted) - 1

-- at each node before a number stand the lists of its candidates, of its children those from that number on
pub record AreBothGathered (s : Sites) (from : ℕ) (trail : List Chosen) (lists : List (Option Sides)) : Type 0 where
  pub long : length lists ≡ s.tree.nodes
  pub some : 0 < from
  pub within : from ≤ s.tree.nodes
  pub listed : (node : ℕ) → node < from → (inverted : Bool) →
      candidates_by trail (sides_at lists node) inverted ≡ both_of_last (s.tree.nodes - from) s node inverted
  pub marked : (node : ℕ) → node < from → AreBothMarked trail (sides_at lists node)
  pub few : (inverted : Bool) → sum_by (more_pairs inverted) lists ≤ length s.library.kinds * (s.tree.nodes - from)

-- the candidate of the offer of a kind at a node, if it makes one
abbrev pub offer_at : List Chosen → (node : ℕ) → List (Option Pair) → (number : ℕ) → Option Candidate
offer_at trail node offers number = option_map (buffer_of trail node number) (slice_index_or offers number None)

abbrev pub all_offers : List Chosen → (node : ℕ) → List (Option Pair) → List Candidate
all_offers trail node offers = filter_map (offer_at trail node offers) (range_with_len 0 (length offers))

-- the marks of offers are of a trail of this length
abbrev pub AreOffersMarked : ℕ → List (Option Pair) → Type 0
AreOffersMarked most offers = All (λ offer. IfSome offer (λ pair. pair.mark ≤ most)) offers

-- with one more candidate, if there is one
abbrev pub with_some : Option Candidate → List Candidate → List Candidate
with_some None all = all
with_some (Some o) all = with_one o all

-- the most steps of the offers for both signals over lists of so many pairs
abbrev pub most_offer_steps : (kinds most : ℕ) → ℕ
most_offer_steps kinds most = 6 * (kinds * (most + kinds))
