-- The candidates at each node are complete and real.
use Rattle.std.proofs.Common.{◌≡◌, ℕ, zero, suc, ◌+◌, ◌-◌, ◌<◌, ◌≤◌, inl, inr, Bool, true, false, ◌==◌, List, length, slice_index_or, Contains, Option, None, IfSome, option_and_then, if◌then◌else◌, refl, sym, ap, subst, ◌∙◌, arith}
use Rattle.std.specs.List.{list_any}
use Rattle.std.proofs.lemmas.Bool.{cases_eq, cases_lt, cases_Bool, cond-true, cond-false}
use Rattle.std.proofs.lemmas.List.FromFn.{length-map-range_with_len}
use Rattle.std.proofs.lemmas.List.Elements.{All-contains_itself}
use Rattle.std.proofs.lemmas.List.Folds.{list_any-from_Any}
use Rattle.rc_library.specs.Libraries.{kind_of}
use Rattle.rc_library.specs.declared.parts.Kind.{Kind}
use Rattle.elmore_delay.specs.BelowNodes.{lies_below}
use Rattle.elmore_delay.specs.FromLeaves.{along, behind, joined, hanging, seen_of_last}
use Rattle.elmore_delay.specs.Loadings.{LoadingView, IsLoading, rc_of, is_free}
use Rattle.elmore_delay.specs.Placements.{placed_at, buffers_of}
use Rattle.elmore_delay.specs.RcTrees.{RcTree, Buffers, IsRcTree}
use Rattle.elmore_delay.specs.declared.seen.Seen.{Seen}
use Rattle.elmore_delay.proofs.BelowLemmas.{below-parent, below-through}
use Rattle.elmore_delay.proofs.Loads.{seen-other}
use Rattle.elmore_delay.proofs.RcLemmas.{rc-tree}
use Rattle.elmore_delay.proofs.SeenFromLeaves.{seen-last}
use Rattle.ginneken_lists.specs.Candidates.{Chosen, Candidate, serves, chosen_at}
use Rattle.buffer_plan.specs.CandidatesBelow.{seen_with, AreComplete, IsRealAt, AreReal}
use Rattle.buffer_plan.specs.Picked.{sites_of, candidates_of_last, candidates_at, placement_of}
use Rattle.buffer_plan.proofs.Apart.{chosen-below}
use Rattle.buffer_plan.proofs.BestLemmas.{held-may, may-named, may-none, placement-at, placement-past}
use Rattle.buffer_plan.proofs.Complete.{complete}
use Rattle.buffer_plan.proofs.HungLemmas.{if-same, if-other, buffers_by, seen-hung}
use Rattle.buffer_plan.proofs.Real.{IsReal, real}

pub any-has : {A : Type 0} (p : A → Bool) (xs : List A) (x : A) → Contains xs x → p x ≡ true → list_any p xs ≡ true
any-has p xs x at is = list_any-from_Any p xs (at.0, x, at.1, at.2, is)

pub complete-at : (l : LoadingView) (v : ℕ) → IsLoading l → v < length l.tree.nodes → AreComplete l v (candidates_at l v)
complete-at l v loading inside p allowed =
    let n : ℕ = length l.tree.nodes - suc v in
    let served = complete n (suc v) v (sites_of l) (placed_at p) (omega arith) (held-may l p allowed.kinds allowed.free) in
    any-has (λ (o : Candidate). serves o.seen (seen_with l v p)) (candidates_at l v) served.by served.among
    (subst (λ (s : Seen). serves served.by.seen s ≡ true) (sym (seen-last n v (rc_of l) (buffers_of l.library p) (rc-tree l loading) (omega arith))) served.well)

-- what is seen below v depends on the buffers below v alone
pub seen-within : (n k v : ℕ) (t : RcTree) (b c : Buffers) → IsRcTree t → v < k → k + n ≡ t.nodes →
    ((node : ℕ) → k ≤ node → node < t.nodes → lies_below t v node ≡ true → b node ≡ c node) → seen_of_last n t b v ≡ seen_of_last n t c v
seen-within zero k v t b c tree later at each = refl
seen-within (suc n) k v t b c tree later at each =
    let own = seen-within n (suc k) v t b c tree (omega arith) (omega arith) (λ node le lt under. each node (omega arith) lt under) in
    elim (cases_eq v (t.parent k)) [
      | inl same ↦
          let hangs : lies_below t v k ≡ true = subst (λ (u : ℕ). lies_below t u k ≡ true) (sym same) (below-parent t k tree (omega arith) (omega arith)) in
          let lower = seen-within n (suc k) k t b c tree (omega arith) (omega arith)
          (λ node le lt under. each node (omega arith) lt (below-through t v k node tree lt hangs under)) in
          seen-hung n k v t b at same
          ∙ ap (λ (x : Seen). joined x (hanging t b k (seen_of_last n t b k))) own
          ∙ ap (λ (x : Seen). joined (seen_of_last n t c v) (hanging t b k x)) lower
          ∙ ap (λ (o : Option Kind). joined (seen_of_last n t c v) (along (t.wire k) (behind o (seen_of_last n t c k)))) (each k (omega arith) (omega arith) hangs)
          ∙ sym (seen-hung n k v t c at same)
      | inr other ↦ seen-other n k v t b at other ∙ own ∙ sym (seen-other n k v t c at other)
    ]

-- what is held, with which each of a selection of candidates is seen and chosen: the placement that the one at v names
module _ (l : LoadingView) (v n : ℕ) (loading : IsLoading l) (at : suc v + n ≡ length l.tree.nodes) (o : Candidate)
    (selected : ℕ → Candidate) (selected-v : selected v ≡ o) (found : IsReal n (suc v) (sites_of l) selected) where
  -- the named placement holds below v what is found, and else nothing
  named-at : (node : ℕ) (d : Option ℕ) → node < length l.tree.nodes →
      slice_index_or (placement_of l o.chosen) node d ≡ (if lies_below (rc_of l) v node then found.held node else None)
  named-at node d within =
      placement-at l o.chosen node d within
      ∙ ap (λ (c : Chosen). chosen_at c node) (sym (found.chosen v (omega arith) ∙ ap (λ (x : Candidate). x.chosen) selected-v))
      ∙ chosen-below n v node (rc_of l) found.held (rc-tree l loading) at within

  pub named-below : (node : ℕ) (d : Option ℕ) → node < length l.tree.nodes → lies_below (rc_of l) v node ≡ true →
      slice_index_or (placement_of l o.chosen) node d ≡ found.held node
  named-below node d within under = named-at node d within ∙ cond-true (lies_below (rc_of l) v node) (found.held node) None under

  named-apart : (node : ℕ) (d : Option ℕ) → node < length l.tree.nodes → lies_below (rc_of l) v node ≡ false →
      slice_index_or (placement_of l o.chosen) node d ≡ None
  named-apart node d within apart = named-at node d within ∙ cond-false (lies_below (rc_of l) v node) (found.held node) None apart

  named-kinds : (node : ℕ) (d : Option ℕ) → node < length l.tree.nodes →
      IfSome (slice_index_or (placement_of l o.chosen) node d) (λ m. m < length l.library.kinds)
  named-kinds node d within = elim (cases_Bool (lies_below (rc_of l) v node)) [
    | inl under ↦ subst (λ (m : Option ℕ). IfSome m (λ k. k < length l.library.kinds)) (sym (named-below node d within under))
        (may-named (sites_of l) node (found.held node) (found.may node))
    | inr apart ↦ subst (λ (m : Option ℕ). IfSome m (λ k. k < length l.library.kinds)) (sym (named-apart node d within apart)) tt
  ]

  named-free : (node : ℕ) → is_free l node ≡ false → placed_at (placement_of l o.chosen) node ≡ None
  named-free node blocked = elim (cases_lt node (length l.tree.nodes)) [
    | inl within ↦ elim (cases_Bool (lies_below (rc_of l) v node)) [
      | inl under ↦ named-below node None within under ∙ may-none (sites_of l) node (found.held node) (found.may node) blocked
      | inr apart ↦ named-apart node None within apart
    ]
    | inr past ↦ placement-past l o.chosen node past
  ]

  named-outside : (node : ℕ) → lies_below (rc_of l) v node ≡ false → placed_at (placement_of l o.chosen) node ≡ None
  named-outside node apart = elim (cases_lt node (length l.tree.nodes)) [
    | inl within ↦ named-apart node None within apart
    | inr past ↦ placement-past l o.chosen node past
  ]

  named-seen : seen_with l v (placement_of l o.chosen) ≡ o.seen
  named-seen =
      let t = rc_of l in
      let b = buffers_of l.library (placement_of l o.chosen) in
      let c = buffers_by l.library found.held in
      seen-last n v t b (rc-tree l loading) at
      ∙ seen-within n (suc v) v t b c (rc-tree l loading) (omega arith) at
      (λ node le lt under. ap (λ (m : Option ℕ). option_and_then (kind_of l.library) m) (named-below node None lt under))
      ∙ found.seen v (omega arith)
      ∙ ap (λ (x : Candidate). x.seen) selected-v

  pub named-real : IsRealAt l v o
  named-real =
      let long = length-map-range_with_len (chosen_at o.chosen) 0 (length l.tree.nodes) in
      record {
        allowed = record {
          long = long;
          kinds = λ node d within. named-kinds node d (omega arith);
          free = named-free;
          below = named-outside;
        };
        seen = named-seen;
      }

-- a selection of candidates with a given one at v
module _ (l : LoadingView) (v n : ℕ) (loading : IsLoading l) (at : suc v + n ≡ length l.tree.nodes) (o : Candidate)
    (among : Contains (candidates_of_last n (sites_of l) v) o) where
  abbrev any_at : (u : ℕ) → (x : Candidate) × Contains (candidates_of_last n (sites_of l) u) x
  any_at u =
      let served = complete n (suc v) u (sites_of l) (λ node. None) at (λ node. tt) in
      (served.by, served.among)

  abbrev selected : ℕ → Candidate
  selected u = if u == v then o else (any_at u).0

  selected-v : selected v ≡ o
  selected-v = if-same v v o (any_at v).0 refl

  selected-each : (u : ℕ) → u < suc v → Contains (candidates_of_last n (sites_of l) u) (selected u)
  selected-each u below = elim (cases_eq u v) [
    | inl same ↦
        subst (λ (x : Candidate). Contains (candidates_of_last n (sites_of l) u) x) (sym (if-same u v o (any_at u).0 same))
        (subst (λ (w : ℕ). Contains (candidates_of_last n (sites_of l) w) o) (sym same) among)
    | inr other ↦
        subst (λ (x : Candidate). Contains (candidates_of_last n (sites_of l) u) x) (sym (if-other u v o (any_at u).0 other)) (any_at u).1
  ]

  found : IsReal n (suc v) (sites_of l) selected
  found = real n (suc v) (sites_of l) selected (rc-tree l loading) (omega arith) at selected-each

  pub real-one : IsRealAt l v o
  real-one = named-real l v n loading at o selected selected-v found

pub real-at : (l : LoadingView) (v : ℕ) → IsLoading l → v < length l.tree.nodes → AreReal l v (candidates_at l v)
real-at l v loading inside k d below =
    real-one l v (length l.tree.nodes - suc v) loading (omega arith) (slice_index_or (candidates_at l v) k d) (All-contains_itself (candidates_at l v) k d below)
