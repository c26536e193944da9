-- Which candidates above a node, and at the upper end of the edge into it, are complete and real, over the placements
-- of buffers at the node and below it.
use Rattle.std.specs.Prelude.{◌≡◌, ℕ, ◌+◌, ℤ, pos, ◌-ℤ◌, List, All, map, length, Option, None, IsTrue, IsFalse}
use Rattle.std.specs.List.{list_any}
use Rattle.elmore_delay.specs.BelowNodes.{is_within, sinks_within, delay_from}
use Rattle.elmore_delay.specs.Loadings.{LoadingView, rc_of, wire_at, is_free}
use Rattle.elmore_delay.specs.Placements.{placed_at, NamesKinds, buffers_of}
use Rattle.elmore_delay.specs.RcTrees.{RcTree, Buffers, below, up, buffer_delay, node_delay, soonest, twice}
use Rattle.elmore_delay.specs.declared.seen.Seen.{Seen}
use Rattle.ginneken_lists.specs.Candidates.{Candidate, serves}
use Rattle.buffer_plan.specs.Picked.{placement_of}

-- a placement of buffers at node v and below it: a node that is v or lies below it holds nothing or, where a buffer may
-- stand, a kind of the library, and each other node holds nothing
pub record IsAllowedWithin (l : LoadingView) (v : ℕ) (p : List (Option ℕ)) : Type 0 where
  pub long : length p ≡ length l.tree.nodes
  pub kinds : NamesKinds l.library p
  pub free : (node : ℕ) → IsFalse (is_free l node) → placed_at p node ≡ None
  pub within : (node : ℕ) → IsFalse (is_within (rc_of l) v node) → placed_at p node ≡ None

-- the delay to a node that is v or lies below it: from above v, where v's buffer adds to it, and from the upper end of
-- the edge into v, where that edge adds to it too
abbrev pub delay_from_above : RcTree → Buffers → (v node : ℕ) → ℕ
delay_from_above t b v node = buffer_delay (b v) (below t b v) + delay_from t b v node

abbrev pub delay_from_edge : RcTree → Buffers → (v node : ℕ) → ℕ
delay_from_edge t b v node = node_delay t b v + delay_from t b v node

-- the least, over the sinks at v and below it, of twice the time of a sink less the delay to its node
abbrev pub least_slack : RcTree → (v : ℕ) → (ℕ → ℕ) → Option ℤ
least_slack t v delay = soonest (map (λ sink. twice sink -ℤ pos (delay sink.node)) (sinks_within t v))

-- what is seen above node v and its buffer with a placement: the load that the edge into v sees there, and the least
-- slack
abbrev pub seen_above_with : LoadingView → ℕ → List (Option ℕ) → Seen
seen_above_with l v p =
    let b = buffers_of l.library p in
    record {
      load = up (rc_of l) b v;
      time = least_slack (rc_of l) v (delay_from_above (rc_of l) b v);
    }

-- what is seen at the upper end of the edge into node v with a placement: that load and the edge's, and the least slack
abbrev pub seen_over_edge : LoadingView → ℕ → List (Option ℕ) → Seen
seen_over_edge l v p =
    let b = buffers_of l.library p in
    record {
      load = up (rc_of l) b v + (wire_at l v).c;
      time = least_slack (rc_of l) v (delay_from_edge (rc_of l) b v);
    }

-- for each allowed placement at node v and below it a candidate has no greater load and no smaller time than what is
-- seen with that placement
abbrev pub AreCompleteWithin : LoadingView → ℕ → (List (Option ℕ) → Seen) → List Candidate → Type 0
AreCompleteWithin l v seen_with all = (p : List (Option ℕ)) → IsAllowedWithin l v p →
    IsTrue (list_any (λ o. serves o.seen (seen_with p)) all)

-- what a candidate names is an allowed placement at node v and below it, with which just its load and its time are seen
pub record IsRealWithin (l : LoadingView) (v : ℕ) (seen_with : List (Option ℕ) → Seen) (o : Candidate) : Type 0 where
  pub allowed : IsAllowedWithin l v (placement_of l o.chosen)
  pub seen : seen_with (placement_of l o.chosen) ≡ o.seen

abbrev pub AreRealWithin : LoadingView → ℕ → (List (Option ℕ) → Seen) → List Candidate → Type 0
AreRealWithin l v seen_with all = All (IsRealWithin l v seen_with) all
