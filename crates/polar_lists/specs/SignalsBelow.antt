-- Which candidates at a node are complete and real for a signal there, over the placements below it.
use Rattle.std.specs.Prelude.{◌≡◌, ℕ, ◌-◌, Bool, ◌==◌, List, All, length, Option, IsTrue, suc}
use Rattle.std.specs.List.{count_by, list_any, before_first}
use Rattle.rc_library.specs.Libraries.{LibraryView}
use Rattle.elmore_delay.specs.BelowNodes.{sinks_within}
use Rattle.elmore_delay.specs.Loadings.{LoadingView, rc_of}
use Rattle.elmore_delay.specs.Placements.{placed_at}
use Rattle.elmore_delay.specs.RcTrees.{RcTree, path_to}
use Rattle.ginneken_lists.specs.Candidates.{Candidate, serves}
use Rattle.buffer_plan.specs.CandidatesBelow.{IsAllowedBelow, seen_with}
use Rattle.buffer_plan.specs.Picked.{placement_of, sites_of}
use Rattle.polar_lists.specs.Polarity.{is_inverter, is_odd}
use Rattle.polar_lists.specs.Signals.{below_it, both_of_last}

-- the number of inverters on the path from v to a node below it, without what v holds
abbrev pub inverters_from : RcTree → LibraryView → (ℕ → Option ℕ) → (v node : ℕ) → ℕ
inverters_from t lib held v node =
    count_by (λ above. is_inverter lib (held above)) (before_first (λ other. other == v) (path_to t node))

-- the signal at a node, where v has this one below what it holds
abbrev pub signal_from : RcTree → LibraryView → (ℕ → Option ℕ) → (v : ℕ) → (inverted : Bool) → (node : ℕ) → Bool
signal_from t lib held v inverted node = below_it (is_odd (inverters_from t lib held v node)) inverted

-- an allowed placement below node v with which, from this signal there, each sink at v and below it gets what it wants
pub record IsLegalBelow (l : LoadingView) (v : ℕ) (inverted : Bool) (p : List (Option ℕ)) : Type 0 where
  pub allowed : IsAllowedBelow l v p
  pub served : All (λ sink. signal_from (rc_of l) l.library (placed_at p) v inverted sink.node ≡ sink.flipped)
      (sinks_within (rc_of l) v)

-- for each such placement a candidate has no greater load and no smaller time
abbrev pub AreCompleteFor : LoadingView → (v : ℕ) → (inverted : Bool) → List Candidate → Type 0
AreCompleteFor l v inverted all = (p : List (Option ℕ)) → IsLegalBelow l v inverted p →
    IsTrue (list_any (λ o. serves o.seen (seen_with l v p)) all)

-- what a candidate names is such a placement, with which just its load and its time are seen
pub record IsRealFor (l : LoadingView) (v : ℕ) (inverted : Bool) (o : Candidate) : Type 0 where
  pub legal : IsLegalBelow l v inverted (placement_of l o.chosen)
  pub seen : seen_with l v (placement_of l o.chosen) ≡ o.seen

abbrev pub AreRealFor : LoadingView → (v : ℕ) → (inverted : Bool) → List Candidate → Type 0
AreRealFor l v inverted all = All (IsRealFor l v inverted) all

-- the candidates below a node for a signal, where all later nodes are hung on their parents
abbrev pub both_at : LoadingView → (v : ℕ) → (inverted : Bool) → List Candidate
both_at l v inverted = both_of_last (length l.tree.nodes - suc v) (sites_of l) v inverted
