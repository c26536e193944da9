-- Candidates for the plain and for the inverted signal at the points of a tree, by van Ginneken's method.
use Rattle.std.specs.Prelude.{ℕ, zero, suc, ◌-◌, Bool, false, not, ◌==◌, List, [], ◌++◌, length, Option, Some, option_map, if◌then◌else◌}
use Rattle.std.specs.List.{filter_map, list_all, range_with_len}
use Rattle.rc_library.specs.Libraries.{LibraryView}
use Rattle.elmore_delay.specs.RcTrees.{Sink, RcTree, sinks_at}
use Rattle.elmore_delay.specs.FromLeaves.{sinks_seen}
use Rattle.elmore_delay.specs.Loadings.{LoadingView, rc_of}
use Rattle.ginneken_lists.specs.Candidates.{Nothing, Candidate, thinned, leaf, all_along, all_joined, with_kind, best_driven}
use Rattle.buffer_plan.specs.Best.{has_sinks}
use Rattle.buffer_plan.specs.Picked.{Sites, sites_of, placement_of}
use Rattle.polar_lists.specs.Polarity.{is_inverter}

-- the candidates at a point for each signal there: for the plain one, and where the signal is inverted for that
abbrev pub BySignal : Type 0
BySignal = Bool → List Candidate

-- the signal below something that inverts it or doesn't
abbrev pub below_it : (inverting inverted : Bool) → Bool
below_it inverting inverted = if inverting then not inverted else inverted

-- a sink wants the signal
abbrev pub suits : (inverted : Bool) → Sink → Bool
suits inverted sink = if inverted then sink.flipped else not sink.flipped

-- all sinks at a node want the signal
abbrev pub suits_all : RcTree → ℕ → (inverted : Bool) → Bool
suits_all t v inverted = list_all (suits inverted) (sinks_at t v)

-- what a kind makes at a node: a buffer over the candidate that it drives best, of those for the signal that it is
-- driven by
abbrev pub made_by : LibraryView → ℕ → BySignal → (inverted : Bool) → (number : ℕ) → Option Candidate
made_by lib node all inverted number =
    with_kind lib node (all (below_it (is_inverter lib (Some number)) inverted)) number

-- what is offered at a node: what each kind makes, in the order of the kinds
abbrev pub offers_by : LibraryView → ℕ → BySignal → BySignal
offers_by lib node all inverted = filter_map (made_by lib node all inverted) (range_with_len 0 (length lib.kinds))

abbrev pub with_both_offers : LibraryView → ℕ → BySignal → BySignal
with_both_offers lib node all inverted = thinned (all inverted ++ offers_by lib node all inverted)

-- above a node: where a buffer may stand there, also with what is offered
abbrev pub both_above : Sites → ℕ → BySignal → BySignal
both_above s node all = if s.free node then with_both_offers s.library node all else all

-- what a node's parent sees of it
abbrev pub both_hanging : Sites → ℕ → BySignal → BySignal
both_hanging s node all inverted = all_along (s.tree.wire node) (both_above s node all inverted)

-- below a node, of its children those that are among so many last nodes: each of these, from the last down, is hung on
-- its parent
abbrev pub both_of_last : ℕ → Sites → ℕ → BySignal
both_of_last zero s v inverted = if suits_all s.tree v inverted then leaf (sinks_seen s.tree v) else []
both_of_last (suc n) s v inverted =
    let node = s.tree.nodes - suc n in
    let before = both_of_last n s in
    if v == s.tree.parent node then all_joined (before v inverted) (both_hanging s node (before node) inverted)
    else before v inverted

-- those for the plain signal below node 0, where all nodes are hung on their parents
abbrev pub plain_candidates : LoadingView → List Candidate
plain_candidates l = both_of_last (length l.tree.nodes - 1) (sites_of l) 0 false

-- of these the one that the driver drives best, if there is one
abbrev pub legal_candidate : LoadingView → Option Candidate
legal_candidate l = best_driven (rc_of l).driver (plain_candidates l)

-- the picked legal placement, if there is one; without a sink no buffers
abbrev pub picked_legal : LoadingView → Option (List (Option ℕ))
picked_legal l = option_map (λ o. placement_of l (if has_sinks l then o.chosen else Nothing)) (legal_candidate l)
