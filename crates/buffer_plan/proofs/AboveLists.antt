-- The candidates above each node, and at the upper end of the edge into it, are complete and real.
use Rattle.std.proofs.Common.{◌≡◌, ◌≢◌, ℕ, suc, ◌+◌, ◌-◌, ◌*◌, ◌<◌, ◌≤◌, ℤ, pos, ◌-ℤ◌, inl, inr, Bool, true, false, ◌==◌, List, [], ◌∷◌, ◌++◌, length, map, slice_index_or, Option, Some, None, IfSome, option_and_then, if◌then◌else◌, refl, sym, ap, subst, ◌∙◌, arith}
use Rattle.std.specs.List.{list_any}
use Rattle.std.proofs.lemmas.Bool.{cases_eq, cases_lt, or_parts, eqb-false}
use Rattle.std.proofs.lemmas.Int.{ints}
use Rattle.std.proofs.lemmas.List.FromFn.{length-map-range_with_len}
use Rattle.std.proofs.lemmas.List.Elements.{All-contains, All-contains_itself}
use Rattle.rc_library.specs.Libraries.{kind_of}
use Rattle.rc_library.specs.declared.parts.Kind.{Kind}
use Rattle.elmore_delay.specs.BelowNodes.{lies_below, is_within, nodes_below, sinks_within, delay_from, seen_at}
use Rattle.elmore_delay.specs.FromLeaves.{less, along, behind, seen_of_last}
use Rattle.elmore_delay.specs.Loadings.{LoadingView, IsLoading, rc_of, is_free}
use Rattle.elmore_delay.specs.Placements.{placed_at, buffers_of}
use Rattle.elmore_delay.specs.RcTrees.{Sink, RcTree, Buffers, below, up, load_above, buffer_delay, edge_delay, soonest, sooner, twice}
use Rattle.elmore_delay.specs.declared.seen.Seen.{Seen}
use Rattle.elmore_delay.proofs.BelowLemmas.{not-below}
use Rattle.elmore_delay.proofs.Ranges.{less-twice, less-sooner, less-none}
use Rattle.elmore_delay.proofs.RcLemmas.{rc-tree}
use Rattle.elmore_delay.proofs.SeenFromLeaves.{seen-last}
use Rattle.ginneken_lists.specs.Candidates.{Chosen, Candidate, serves, chosen_at, offers, with_offers}
use Rattle.ginneken_lists.specs.Thinning.{AreRising}
use Rattle.ginneken_lists.proofs.Thinned.{thinned-rising}
use Rattle.buffer_plan.specs.CandidatesAbove.{IsAllowedWithin, seen_above_with, seen_over_edge, AreCompleteWithin, AreRealWithin}
use Rattle.buffer_plan.specs.CandidatesBelow.{seen_with, IsRealAt}
use Rattle.buffer_plan.specs.Picked.{sites_of, all_above, all_hanging, candidates_at, placement_of}
use Rattle.buffer_plan.proofs.Apart.{over-here, over-other}
use Rattle.buffer_plan.proofs.BestLemmas.{held-may, may-named, may-none, placement-at, placement-past}
use Rattle.buffer_plan.proofs.Comings.{above-is, hanging-comes}
use Rattle.buffer_plan.proofs.Complete.{complete}
use Rattle.buffer_plan.proofs.FewCandidates.{rising-at, few-at, above-few, hanging-few}
use Rattle.buffer_plan.proofs.HungLemmas.{over}
use Rattle.buffer_plan.proofs.NodeLists.{any-has, seen-within, real-at}
use Rattle.buffer_plan.proofs.Served.{IsServed, MayHold, seen_above, served-above, served-hanging}

-- the least slack where each delay is greater by the same
slack-less : (d : ℕ) (delay : ℕ → ℕ) (sinks : List Sink) →
    soonest (map (λ sink. twice sink -ℤ pos (d + delay sink.node)) sinks) ≡ less d (soonest (map (λ sink. twice sink -ℤ pos (delay sink.node)) sinks))
slack-less d delay [] = refl
slack-less d delay (sink ∷ sinks) =
    let rest : Option ℤ = soonest (map (λ (other : Sink). twice other -ℤ pos (delay other.node)) sinks) in
    let more : Option ℤ = soonest (map (λ (other : Sink). twice other -ℤ pos (d + delay other.node)) sinks) in
    let own : ℤ = twice sink -ℤ pos (delay sink.node) in
    ap (λ (z : ℤ). sooner (Some z) more) (later (twice sink) (delay sink.node))
    ∙ ap (λ (o : Option ℤ). sooner (Some (own -ℤ pos d)) o) (slack-less d delay sinks)
    ∙ sym (less-sooner d (Some own) rest)
  where
    later : (z : ℤ) (n : ℕ) → z -ℤ pos (d + n) ≡ z -ℤ pos n -ℤ pos d
    later z n = omega (arith, ints)

-- what is seen above a node is what is seen below it behind its buffer
abbrev behind-by : (t : RcTree) (b : Buffers) (v : ℕ) (o : Option Kind) → Seen
behind-by t b v o = record {
  load = load_above o (below t b v);
  time = soonest (map (λ sink. twice sink -ℤ pos (buffer_delay o (below t b v) + delay_from t b v sink.node)) (sinks_within t v));
}

seen-behind : (t : RcTree) (b : Buffers) (v : ℕ) (o : Option Kind) → behind-by t b v o ≡ behind o (seen_at t b v)
seen-behind t b v None =
    let made : Option ℤ → Seen = λ time. record { load = below t b v; time = time } in
    ap made (slack-less 0 (delay_from t b v) (sinks_within t v) ∙ less-none (seen_at t b v).time)
seen-behind t b v (Some kind) =
    let made : Option ℤ → Seen = λ time. record { load = kind.c; time = time } in
    ap made (slack-less (buffer_delay (Some kind) (below t b v)) (delay_from t b v) (sinks_within t v))

above-behind : (l : LoadingView) (v : ℕ) (p : List (Option ℕ)) → seen_above_with l v p ≡ behind (buffers_of l.library p v) (seen_with l v p)
above-behind l v p = seen-behind (rc_of l) (buffers_of l.library p) v (buffers_of l.library p v)

-- and at the upper end of the edge what is seen above the node along the edge
edge-along : (l : LoadingView) (v : ℕ) (p : List (Option ℕ)) → seen_over_edge l v p ≡ along ((rc_of l).wire v) (seen_above_with l v p)
edge-along l v p =
    let t = rc_of l in
    let b = buffers_of l.library p in
    let e : ℕ = edge_delay (t.wire v) (up t b v) in
    let d : ℕ = buffer_delay (b v) (below t b v) in
    let delay : ℕ → ℕ = delay_from t b v in
    let made : Option ℤ → Seen = λ o. record { load = up t b v + (t.wire v).c; time = o } in
    ap made
    (slack-less (e + d) delay (sinks_within t v)
    ∙ sym (less-twice d e (seen_at t b v).time)
    ∙ ap (less e) (sym (slack-less d delay (sinks_within t v))))

-- whatever is placed at a node and below it, one of the candidates serves as well
module _ (l : LoadingView) (v : ℕ) (loading : IsLoading l) (inside : v < length l.tree.nodes) (p : List (Option ℕ)) (allowed : IsAllowedWithin l v p) where
  abbrev lower : Seen
  lower = seen_of_last (length l.tree.nodes - suc v) (rc_of l) (buffers_of l.library p) v

  lower-is : seen_with l v p ≡ lower
  lower-is = seen-last (length l.tree.nodes - suc v) v (rc_of l) (buffers_of l.library p) (rc-tree l loading) (omega arith)

  above-lower : seen_above_with l v p ≡ seen_above (sites_of l) (placed_at p v) lower
  above-lower = above-behind l v p ∙ ap (behind (buffers_of l.library p v)) lower-is

  served-below : IsServed (candidates_at l v) lower
  served-below = complete (length l.tree.nodes - suc v) (suc v) v (sites_of l) (placed_at p) (omega arith) (held-may l p allowed.kinds allowed.free)

  served-all_above : list_any (λ o. serves o.seen (seen_above_with l v p)) (all_above (sites_of l) v (candidates_at l v)) ≡ true
  served-all_above =
      let served = served-above (sites_of l) v (placed_at p v) (candidates_at l v) lower (held-may l p allowed.kinds allowed.free v) served-below in
      any-has (λ (o : Candidate). serves o.seen (seen_above_with l v p)) (all_above (sites_of l) v (candidates_at l v)) served.by served.among
      (subst (λ (s : Seen). serves served.by.seen s ≡ true) (sym above-lower) served.well)

  served-all_hanging : list_any (λ o. serves o.seen (seen_over_edge l v p)) (all_hanging (sites_of l) v (candidates_at l v)) ≡ true
  served-all_hanging =
      let served = served-hanging (sites_of l) v (placed_at p v) (candidates_at l v) lower (held-may l p allowed.kinds allowed.free v) served-below in
      any-has (λ (o : Candidate). serves o.seen (seen_over_edge l v p)) (all_hanging (sites_of l) v (candidates_at l v)) served.by served.among
      (subst (λ (s : Seen). serves served.by.seen s ≡ true) (sym (edge-along l v p ∙ ap (along ((rc_of l).wire v)) above-lower)) served.well)

pub complete-above : (l : LoadingView) (v : ℕ) → IsLoading l → v < length l.tree.nodes →
    AreCompleteWithin l v (seen_above_with l v) (all_above (sites_of l) v (candidates_at l v))
complete-above l v loading inside p allowed = served-all_above l v loading inside p allowed

pub complete-edge : (l : LoadingView) (v : ℕ) → IsLoading l → v < length l.tree.nodes →
    AreCompleteWithin l v (seen_over_edge l v) (all_hanging (sites_of l) v (candidates_at l v))
complete-edge l v loading inside p allowed = served-all_hanging l v loading inside p allowed

-- what a real candidate below a node names, with what the node may hold
module _ (l : LoadingView) (v : ℕ) (loading : IsLoading l) (inside : v < length l.tree.nodes) (from : Candidate) (is : IsRealAt l v from)
    (held : Option ℕ) (may : MayHold (sites_of l) v held) where
  abbrev chosen : Chosen
  chosen = over v held from.chosen

  from-empty : chosen_at from.chosen v ≡ None
  from-empty =
      sym (placement-at l from.chosen v None inside)
      ∙ is.allowed.below v (not-below (rc_of l) v v (rc-tree l loading) inside (omega arith))

  named-here : (d : Option ℕ) → slice_index_or (placement_of l chosen) v d ≡ held
  named-here d = placement-at l chosen v d inside ∙ over-here v held from.chosen from-empty

  named-other : (node : ℕ) (d : Option ℕ) → node < length l.tree.nodes → node ≢ v →
      slice_index_or (placement_of l chosen) node d ≡ slice_index_or (placement_of l from.chosen) node d
  named-other node d within other =
      placement-at l chosen node d within ∙ over-other v node held from.chosen other ∙ sym (placement-at l from.chosen node d within)

  over-kinds : (node : ℕ) (d : Option ℕ) → node < length l.tree.nodes →
      IfSome (slice_index_or (placement_of l chosen) node d) (λ m. m < length l.library.kinds)
  over-kinds node d within = elim (cases_eq node v) [
    | inl same ↦ subst (λ (u : ℕ). IfSome (slice_index_or (placement_of l chosen) u d) (λ m. m < length l.library.kinds)) (sym same)
        (subst (λ (m : Option ℕ). IfSome m (λ k. k < length l.library.kinds)) (sym (named-here d)) (may-named (sites_of l) v held may))
    | inr other ↦
        let long = length-map-range_with_len (chosen_at from.chosen) 0 (length l.tree.nodes) in
        subst (λ (m : Option ℕ). IfSome m (λ k. k < length l.library.kinds)) (sym (named-other node d within other)) (is.allowed.kinds node d (omega arith))
  ]

  over-free : (node : ℕ) → is_free l node ≡ false → placed_at (placement_of l chosen) node ≡ None
  over-free node blocked = elim (cases_lt node (length l.tree.nodes)) [
    | inl within ↦ elim (cases_eq node v) [
      | inl same ↦
          ap (placed_at (placement_of l chosen)) same ∙ named-here None
          ∙ may-none (sites_of l) v held may (ap (is_free l) (sym same) ∙ blocked)
      | inr other ↦ named-other node None within other ∙ is.allowed.free node blocked
    ]
    | inr past ↦ placement-past l chosen node past
  ]

  over-outside : (node : ℕ) → is_within (rc_of l) v node ≡ false → placed_at (placement_of l chosen) node ≡ None
  over-outside node apart =
      let parts = or_parts (node == v) (lies_below (rc_of l) v node) apart in
      elim (cases_lt node (length l.tree.nodes)) [
        | inl within ↦ named-other node None within (eqb-false node v parts.0) ∙ is.allowed.below node parts.1
        | inr past ↦ placement-past l chosen node past
      ]

  over-allowed : IsAllowedWithin l v (placement_of l chosen)
  over-allowed =
      let long = length-map-range_with_len (chosen_at chosen) 0 (length l.tree.nodes) in
      record {
        long = long;
        kinds = λ node d within. over-kinds node d (omega arith);
        free = over-free;
        within = over-outside;
      }

  over-seen : seen_above_with l v (placement_of l chosen) ≡ seen_above (sites_of l) held from.seen
  over-seen =
      let t = rc_of l in
      let n : ℕ = length l.tree.nodes - suc v in
      let b = buffers_of l.library (placement_of l chosen) in
      let c = buffers_of l.library (placement_of l from.chosen) in
      let kind : Option ℕ → Option Kind = λ m. option_and_then (kind_of l.library) m in
      let seen : seen_with l v (placement_of l chosen) ≡ from.seen =
      seen-last n v t b (rc-tree l loading) (omega arith)
      ∙ seen-within n (suc v) v t b c (rc-tree l loading) (omega arith) (omega arith)
      (λ node le lt under. ap kind (named-other node None lt (λ e. omega arith)))
      ∙ sym (seen-last n v t c (rc-tree l loading) (omega arith))
      ∙ is.seen in
      above-behind l v (placement_of l chosen)
      ∙ ap (λ (m : Option ℕ). behind (kind m) (seen_with l v (placement_of l chosen))) (named-here None)
      ∙ ap (behind (kind held)) seen

pub real-above : (l : LoadingView) (v : ℕ) → IsLoading l → v < length l.tree.nodes →
    AreRealWithin l v (seen_above_with l v) (all_above (sites_of l) v (candidates_at l v))
real-above l v loading inside k d below =
    let all = all_above (sites_of l) v (candidates_at l v) in
    let o : Candidate = slice_index_or all k d in
    let above = above-is (sites_of l) v (candidates_at l v) o (All-contains_itself all k d below) in
    let is = All-contains (IsRealAt l v) (candidates_at l v) above.from (real-at l v loading inside) above.among in
    record {
      allowed = subst (λ (c : Chosen). IsAllowedWithin l v (placement_of l c)) (sym above.chosen)
          (over-allowed l v loading inside above.from is above.held above.may);
      seen = ap (λ (c : Chosen). seen_above_with l v (placement_of l c)) above.chosen
          ∙ over-seen l v loading inside above.from is above.held above.may ∙ sym above.seen;
    }

pub real-edge : (l : LoadingView) (v : ℕ) → IsLoading l → v < length l.tree.nodes →
    AreRealWithin l v (seen_over_edge l v) (all_hanging (sites_of l) v (candidates_at l v))
real-edge l v loading inside k d below =
    let all = all_hanging (sites_of l) v (candidates_at l v) in
    let o : Candidate = slice_index_or all k d in
    let above = hanging-comes (sites_of l) v (candidates_at l v) o (All-contains_itself all k d below) in
    let is = All-contains (IsRealAt l v) (candidates_at l v) above.from (real-at l v loading inside) above.among in
    let chosen : Chosen = over v above.held above.from.chosen in
    record {
      allowed = subst (λ (c : Chosen). IsAllowedWithin l v (placement_of l c)) (sym above.chosen)
          (over-allowed l v loading inside above.from is above.held above.may);
      seen = ap (λ (c : Chosen). seen_over_edge l v (placement_of l c)) above.chosen
          ∙ edge-along l v (placement_of l chosen)
          ∙ ap (along ((rc_of l).wire v)) (over-seen l v loading inside above.from is above.held above.may) ∙ sym above.seen;
    }

-- the lists above nodes rise
pub rising-above : (l : LoadingView) (v : ℕ) → v < length l.tree.nodes → AreRising (all_above (sites_of l) v (candidates_at l v))
rising-above l v inside = by (is_free l v)
  where
    by : (free : Bool) → AreRising (if free then with_offers l.library v (candidates_at l v) else candidates_at l v)
    by true = thinned-rising (candidates_at l v ++ offers l.library v (candidates_at l v))
    by false = rising-at l v inside

-- and all have at most one candidate more than kinds times the nodes at and below the node
few-from : (n m kinds nodes : ℕ) → n ≤ m + kinds → m ≤ 1 + kinds * nodes → n ≤ 1 + kinds * (1 + nodes)
few-from n m kinds nodes first second =
    let product : kinds * (1 + nodes) ≡ kinds + kinds * nodes = omega arith in
    omega (arith, first, second, product)

pub few-above : (l : LoadingView) (v : ℕ) → IsLoading l → v < length l.tree.nodes →
    length (all_above (sites_of l) v (candidates_at l v)) ≤ 1 + length l.library.kinds * (1 + length (nodes_below (rc_of l) v))
few-above l v loading inside =
    few-from (length (all_above (sites_of l) v (candidates_at l v))) (length (candidates_at l v)) (length l.library.kinds)
    (length (nodes_below (rc_of l) v)) (above-few (sites_of l) v (candidates_at l v)) (few-at l v loading inside)

pub few-edge : (l : LoadingView) (v : ℕ) → IsLoading l → v < length l.tree.nodes →
    length (all_hanging (sites_of l) v (candidates_at l v)) ≤ 1 + length l.library.kinds * (1 + length (nodes_below (rc_of l) v))
few-edge l v loading inside =
    few-from (length (all_hanging (sites_of l) v (candidates_at l v))) (length (candidates_at l v)) (length l.library.kinds)
    (length (nodes_below (rc_of l) v)) (hanging-few (sites_of l) v (candidates_at l v)) (few-at l v loading inside)
