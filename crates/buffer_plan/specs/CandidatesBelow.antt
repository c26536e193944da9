-- Which candidates at a node are complete and real, over the placements of buffers below it.
use Rattle.std.specs.Prelude.{◌≡◌, ℕ, List, All, length, Option, None, IsTrue, IsFalse}
use Rattle.std.specs.List.{list_any}
use Rattle.elmore_delay.specs.BelowNodes.{lies_below, seen_at}
use Rattle.elmore_delay.specs.Loadings.{LoadingView, rc_of, is_free}
use Rattle.elmore_delay.specs.Placements.{placed_at, NamesKinds, buffers_of}
use Rattle.elmore_delay.specs.declared.seen.Seen.{Seen}
use Rattle.ginneken_lists.specs.Candidates.{Candidate, serves}
use Rattle.buffer_plan.specs.Picked.{placement_of}

-- a placement of buffers below node v: a node that lies below it holds nothing or, where a buffer may stand, a kind of
-- the library, and each other node holds nothing
pub record IsAllowedBelow (l : LoadingView) (v : ℕ) (p : List (Option ℕ)) : Type 0 where
  pub long : length p ≡ length l.tree.nodes
  pub kinds : NamesKinds l.library p
  pub free : (node : ℕ) → IsFalse (is_free l node) → placed_at p node ≡ None
  pub below : (node : ℕ) → IsFalse (lies_below (rc_of l) v node) → placed_at p node ≡ None

-- what is seen at node v, below its own buffer, with a placement
abbrev pub seen_with : LoadingView → ℕ → List (Option ℕ) → Seen
seen_with l v p = seen_at (rc_of l) (buffers_of l.library p) v

-- for each allowed placement below node v a candidate has no greater load and no smaller time
abbrev pub AreComplete : LoadingView → ℕ → List Candidate → Type 0
AreComplete l v all = (p : List (Option ℕ)) → IsAllowedBelow l v p →
    IsTrue (list_any (λ o. serves o.seen (seen_with l v p)) all)

-- what a candidate names is an allowed placement below node v, with which just its load and its time are seen
pub record IsRealAt (l : LoadingView) (v : ℕ) (o : Candidate) : Type 0 where
  pub allowed : IsAllowedBelow l v (placement_of l o.chosen)
  pub seen : seen_with l v (placement_of l o.chosen) ≡ o.seen

abbrev pub AreReal : LoadingView → ℕ → List Candidate → Type 0
AreReal l v all = All (IsRealAt l v) all
