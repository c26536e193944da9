-- The picked placement of a net's tree, by van Ginneken's method: candidates from the leaves to the driver.
use Rattle.std.specs.Prelude.{ℕ, zero, suc, ◌-◌, Bool, ◌==◌, List, length, map, Option, Some, None, is_some, if◌then◌else◌}
use Rattle.std.specs.List.{range_with_len}
use Rattle.rc_library.specs.Libraries.{LibraryView}
use Rattle.elmore_delay.specs.RcTrees.{RcTree}
use Rattle.elmore_delay.specs.FromLeaves.{sinks_seen}
use Rattle.elmore_delay.specs.Loadings.{LoadingView, rc_of, is_free}
use Rattle.ginneken_lists.specs.Candidates.{Chosen, Nothing, Candidate, leaf, all_along, all_joined, with_offers, best_driven, chosen_at}
use Rattle.buffer_plan.specs.Best.{has_sinks}

-- an RC tree with the library whose buffers may stand in it, and the nodes at which they may
pub record Sites : Type 0 where
  pub tree : RcTree
  pub library : LibraryView
  pub free : ℕ → Bool

abbrev pub sites_of : LoadingView → Sites
sites_of l = record { tree = rc_of l; library = l.library; free = is_free l }

-- above a node: where a buffer may stand there, also with one of each kind
abbrev pub all_above : Sites → ℕ → List Candidate → List Candidate
all_above s node all = if s.free node then with_offers s.library node all else all

-- what a node's parent sees of it
abbrev pub all_hanging : Sites → ℕ → List Candidate → List Candidate
all_hanging s node all = all_along (s.tree.wire node) (all_above s node all)

-- below a node, of its children those that are among so many last nodes: each of these, from the last down, is hung on
-- its parent
abbrev pub candidates_of_last : ℕ → Sites → ℕ → List Candidate
candidates_of_last zero s v = leaf (sinks_seen s.tree v)
candidates_of_last (suc n) s v =
    let node = s.tree.nodes - suc n in
    let before = candidates_of_last n s in
    if v == s.tree.parent node then all_joined (before v) (all_hanging s node (before node)) else before v

-- below a node, where all later nodes are hung on their parents, and so below node 0
abbrev pub candidates_at : LoadingView → ℕ → List Candidate
candidates_at l v = candidates_of_last (length l.tree.nodes - suc v) (sites_of l) v

abbrev pub candidates : LoadingView → List Candidate
candidates l = candidates_at l 0

-- the candidate that the driver drives best
abbrev pub picked_candidate : LoadingView → Option Candidate
picked_candidate l = best_driven (rc_of l).driver (candidates l)

-- what is chosen with a candidate, and where there is none
abbrev pub chosen_with : Option Candidate → Chosen
chosen_with None = Nothing
chosen_with (Some o) = o.chosen

-- the placement with what is chosen
abbrev pub placement_of : LoadingView → Chosen → List (Option ℕ)
placement_of l chosen = map (chosen_at chosen) (range_with_len 0 (length l.tree.nodes))

-- what is chosen with a candidate at node 0, where no time says that there is no sink: then nothing
abbrev pub choice_with : Candidate → Chosen
choice_with o = if is_some o.seen.time then o.chosen else Nothing

-- the picked placement: of the candidate that the driver drives best, and without a sink no buffers
abbrev pub picked_choice : LoadingView → Chosen
picked_choice l = if has_sinks l then chosen_with (picked_candidate l) else Nothing

abbrev pub picked : LoadingView → List (Option ℕ)
picked l = placement_of l (picked_choice l)
