-- The picked placement is allowed, and best.
use Rattle.std.proofs.Common.{◌≡◌, ℕ, zero, suc, ◌-◌, ◌*◌, ◌<◌, ◌≤◌, ℤ, pos, ◌≤ℤ◌, inl, inr, true, false, List, [], length, map, slice_index_or, Contains, Option, Some, None, IfSome, is_some, unwrap_or, option_and_then, refl, sym, ap, subst, ◌∙◌, arith}
use Rattle.std.specs.List.{range_with_len}
use Rattle.std.proofs.lemmas.Bool.{cases_Bool, cases_lt, true≢false, ltb-false, cond-true, cond-false}
use Rattle.std.proofs.lemmas.List.{get_or_past}
use Rattle.std.proofs.lemmas.List.FromFn.{length-map-range_with_len, get_or-map-range_with_len}
use Rattle.std.proofs.lemmas.Int.{ints}
use Rattle.rc_library.specs.Libraries.{kind_of}
use Rattle.elmore_delay.specs.RcTrees.{Sink, RcTree, Buffers, slack, soonest, required_time}
use Rattle.elmore_delay.specs.FromLeaves.{seen_whole, at_driver}
use Rattle.elmore_delay.specs.Loadings.{LoadingView, IsLoading, rc_of, is_free, sink_at, sinks_of}
use Rattle.elmore_delay.specs.Placements.{placed_at, NamesKinds, buffers_of}
use Rattle.elmore_delay.specs.declared.seen.Seen.{Seen}
use Rattle.elmore_delay.proofs.RequiredFromLeaves.{required-from_leaves}
use Rattle.elmore_delay.proofs.RcLemmas.{rc-tree, no-root_buffer}
use Rattle.ginneken_lists.specs.Candidates.{Chosen, Nothing, Candidate, no_later, serves, driven_time, chosen_at}
use Rattle.buffer_plan.specs.Best.{has_sinks, time_with, IsAllowed, IsBest}
use Rattle.buffer_plan.specs.Picked.{Sites, sites_of, candidates_of_last, candidates, picked_candidate, chosen_with, placement_of, picked_choice, picked}
use Rattle.ginneken_lists.proofs.TimeOrder.{no_later-through}
use Rattle.buffer_plan.proofs.ServingKept.{unwrap-kept, driven-kept}
use Rattle.buffer_plan.proofs.BestDriven.{best-is, best-some, best-greatest}
use Rattle.buffer_plan.proofs.Served.{MayHold}
use Rattle.buffer_plan.proofs.HungLemmas.{buffers_by, choice_of_last, seen-same}
use Rattle.buffer_plan.proofs.Complete.{AllMay, complete}
use Rattle.buffer_plan.proofs.Real.{IsReal, real}
use Rattle.buffer_plan.proofs.TimeKnown.{less-known, time-known, sinks-known}
use Rattle.buffer_plan.proofs.Apart.{not-chosen, chosen-whole}

-- what a node holds in an allowed placement
placed-inside : (p : List (Option ℕ)) (node number : ℕ) → placed_at p node ≡ Some number → node < length p
placed-inside p node number is = elim (cases_lt node (length p)) [
  | inl inside ↦ inside
  | inr past ↦ let none : placed_at p node ≡ None = get_or_past p node None past in absurd (grind arith)
]

pub held-may : (l : LoadingView) (p : List (Option ℕ)) → NamesKinds l.library p → ((node : ℕ) → is_free l node ≡ false → placed_at p node ≡ None) →
    AllMay (sites_of l) (placed_at p)
held-may l p kinds free node = may (placed_at p node) refl
  where
    may : (o : Option ℕ) → placed_at p node ≡ o → MayHold (sites_of l) node o
    may None is = tt
    may (Some number) is =
        let named = subst (λ (o : Option ℕ). IfSome o (λ m. m < length l.library.kinds)) is (kinds node None (placed-inside p node number is)) in
        elim (cases_Bool (is_free l node)) [
          | inl stands ↦ (stands, named)
          | inr blocked ↦ let none = free node blocked in absurd (grind arith)
        ]

pub allowed-may : (l : LoadingView) (p : List (Option ℕ)) → IsAllowed l p → AllMay (sites_of l) (placed_at p)
allowed-may l p allowed = held-may l p allowed.kinds allowed.free

pub may-named : (s : Sites) (node : ℕ) (o : Option ℕ) → MayHold s node o → IfSome o (λ m. m < length s.library.kinds)
may-named s node None may = tt
may-named s node (Some number) may = may.1

pub may-none : (s : Sites) (node : ℕ) (o : Option ℕ) → MayHold s node o → s.free node ≡ false → o ≡ None
may-none s node None may blocked = refl
may-none s node (Some number) may blocked = absurd (true≢false (sym may.0 ∙ blocked))

-- what a placement holds is what is chosen
pub placement-at : (l : LoadingView) (chosen : Chosen) (node : ℕ) (d : Option ℕ) → node < length l.tree.nodes →
    slice_index_or (placement_of l chosen) node d ≡ chosen_at chosen node
placement-at l chosen node d inside = get_or-map-range_with_len (chosen_at chosen) 0 (length l.tree.nodes) node node d inside (omega arith)

pub placement-past : (l : LoadingView) (chosen : Chosen) (node : ℕ) → length l.tree.nodes ≤ node → placed_at (placement_of l chosen) node ≡ None
placement-past l chosen node past =
    let long = length-map-range_with_len (chosen_at chosen) 0 (length l.tree.nodes) in
    get_or_past (placement_of l chosen) node None (omega arith)

-- one of the candidates at the driver is picked
pub some-picked : (l : LoadingView) → IsLoading l → (o : Candidate) × (picked_candidate l ≡ Some o)
some-picked l loading =
    let rooted = loading.tree.rooted in
    let n : ℕ = length l.tree.nodes - 1 in
    let served = complete n 1 0 (sites_of l) (λ node. None) (omega arith) (λ node. tt) in
    best-some (rc_of l).driver (candidates l) served.by served.among

-- the picked candidate is that of a placement
pub picked-real : (l : LoadingView) (o : Candidate) → IsLoading l → picked_candidate l ≡ Some o → IsReal (length l.tree.nodes - 1) 1 (sites_of l) (λ v. o)
picked-real l o loading is =
    let rooted = loading.tree.rooted in
    let n : ℕ = length l.tree.nodes - 1 in
    let among = (best-is (rc_of l).driver (candidates l) o is).among in
    real n 1 (sites_of l) (λ v. o) (rc-tree l loading) (omega arith) (omega arith)
    (λ v below. let root : v ≡ 0 = omega arith in subst (λ (u : ℕ). Contains (candidates_of_last n (sites_of l) u) o) (sym root) among)

-- the placement of a candidate at node 0 that is real
abbrev pub IsRealAtRoot : LoadingView → Candidate → Type 0
IsRealAtRoot l o = IsReal (length l.tree.nodes - 1) 1 (sites_of l) (λ v. o)

module _ (l : LoadingView) (loading : IsLoading l) (o : Candidate) (found : IsRealAtRoot l o) where
  choice-is : o.chosen ≡ choice_of_last (length l.tree.nodes - 1) (rc_of l) found.held 0
  choice-is = sym (found.chosen 0 (omega arith))

  pub real-held : (node : ℕ) (d : Option ℕ) → 0 < node → node < length l.tree.nodes → slice_index_or (placement_of l o.chosen) node d ≡ found.held node
  real-held node d later inside =
      placement-at l o.chosen node d inside ∙ ap (λ (c : Chosen). chosen_at c node) choice-is
      ∙ chosen-whole (length l.tree.nodes - 1) node (rc_of l) found.held (rc-tree l loading) (omega arith) later inside

  pub real-root : (d : Option ℕ) → slice_index_or (placement_of l o.chosen) 0 d ≡ None
  real-root d =
      let rooted = loading.tree.rooted in
      placement-at l o.chosen 0 d rooted ∙ ap (λ (c : Chosen). chosen_at c 0) choice-is
      ∙ not-chosen (length l.tree.nodes - 1) 1 0 0 (rc_of l) found.held (omega arith) (omega arith)

  pub real-allowed : has_sinks l ≡ true → IsAllowed l (placement_of l o.chosen)
  real-allowed sinks =
      let long = length-map-range_with_len (chosen_at o.chosen) 0 (length l.tree.nodes) in
      record {
        long = long;
        root = real-root None;
        kinds = λ node d inside. named node d (omega arith);
        free = λ node blocked. empty node blocked;
        needed = λ node none. absurd (true≢false (sym sinks ∙ none));
      }
    where
      named : (node : ℕ) (d : Option ℕ) → node < length l.tree.nodes → IfSome (slice_index_or (placement_of l o.chosen) node d) (λ m. m < length l.library.kinds)
      named zero d inside = subst (λ (m : Option ℕ). IfSome m (λ k. k < length l.library.kinds)) (sym (real-root d)) tt
      named (suc node) d inside =
          subst (λ (m : Option ℕ). IfSome m (λ k. k < length l.library.kinds)) (sym (real-held (suc node) d (omega arith) inside))
          (may-named (sites_of l) (suc node) (found.held (suc node)) (found.may (suc node)))

      empty : (node : ℕ) → is_free l node ≡ false → placed_at (placement_of l o.chosen) node ≡ None
      empty zero blocked = real-root None
      empty (suc node) blocked = elim (cases_lt (suc node) (length l.tree.nodes)) [
        | inl inside ↦
            real-held (suc node) None (omega arith) inside
            ∙ may-none (sites_of l) (suc node) (found.held (suc node)) (found.may (suc node)) blocked
        | inr past ↦ placement-past l o.chosen (suc node) past
      ]

  real-seen : seen_whole (rc_of l) (buffers_of l.library (placement_of l o.chosen)) ≡ o.seen
  real-seen =
      let rooted = loading.tree.rooted in
      let n : ℕ = length l.tree.nodes - 1 in
      seen-same n 1 0 (rc_of l) (buffers_of l.library (placement_of l o.chosen)) (buffers_by l.library found.held) (omega arith)
      (λ node later inside. ap (λ (m : Option ℕ). option_and_then (kind_of l.library) m) (real-held node None (omega arith) inside))
      ∙ found.seen 0 (omega arith)

  -- its time at the driver, and whether there is one
  pub real-time : time_with l (placement_of l o.chosen) ≡ at_driver (rc_of l).driver o.seen
  real-time =
      required-from_leaves (rc_of l) (buffers_of l.library (placement_of l o.chosen)) (rc-tree l loading)
      (no-root_buffer l.library (placement_of l o.chosen) (real-root None))
      ∙ ap (λ (s : Seen). at_driver (rc_of l).driver s) real-seen

  pub real-known : is_some o.seen.time ≡ has_sinks l
  real-known =
      ap (λ (s : Seen). is_some s.time) (sym (found.seen 0 (omega arith)))
      ∙ time-known (rc_of l) (buffers_by l.library found.held) (rc-tree l loading) ∙ sinks-known l

  -- what another placement gives is no better than it, where another candidate that serves as well as that isn't driven better
  pub other-time : (q : List (Option ℕ)) (by : Candidate) → placed_at q 0 ≡ None → serves by.seen (seen_whole (rc_of l) (buffers_of l.library q)) ≡ true →
      no_later (driven_time (rc_of l).driver by.seen) (driven_time (rc_of l).driver o.seen) ≡ true → time_with l q ≤ℤ time_with l (placement_of l o.chosen)
  other-time q by root well no_better =
      let t = rc_of l in
      let b = buffers_of l.library q in
      let r = t.driver in
      let s : Seen = seen_whole t b in
      let driven = no_later-through (driven_time r s) (driven_time r by.seen) (driven_time r o.seen) (driven-kept r by.seen s well) no_better in
      let known : is_some (driven_time r s) ≡ is_some (driven_time r o.seen) =
      less-known (2 * r * s.load) s.time ∙ time-known t b (rc-tree l loading) ∙ sinks-known l ∙ sym real-known ∙ sym (less-known (2 * r * o.seen.load) o.seen.time) in
      subst (λ (z : ℤ). z ≤ℤ time_with l (placement_of l o.chosen)) (sym (required-from_leaves t b (rc-tree l loading) (no-root_buffer l.library q root)))
      (subst (λ (z : ℤ). at_driver r s ≤ℤ z) (sym real-time) (unwrap-kept (driven_time r s) (driven_time r o.seen) driven known))

-- it has a time exactly where the net has a sink
pub candidate-known : (l : LoadingView) (o : Candidate) → IsLoading l → picked_candidate l ≡ Some o → is_some o.seen.time ≡ has_sinks l
candidate-known l o loading is = real-known l loading o (picked-real l o loading is)

-- with a sink the placement of the picked candidate is picked
pub choice-picked : (l : LoadingView) (o : Candidate) → has_sinks l ≡ true → picked_candidate l ≡ Some o → picked_choice l ≡ o.chosen
choice-picked l o sinks is = cond-true (has_sinks l) (chosen_with (picked_candidate l)) Nothing sinks ∙ ap chosen_with is

picked-best_driven : (l : LoadingView) (o : Candidate) → IsLoading l → has_sinks l ≡ true → picked_candidate l ≡ Some o → IsBest l (placement_of l o.chosen)
picked-best_driven l o loading sinks is =
    let found = picked-real l o loading is in
    record {
      allowed = real-allowed l loading o found sinks;
      greatest = λ q allowed.
          let rooted = loading.tree.rooted in
          let served = complete (length l.tree.nodes - 1) 1 0 (sites_of l) (placed_at q) (omega arith) (allowed-may l q allowed) in
          other-time l loading o found q served.by allowed.root served.well
          (best-greatest (rc_of l).driver (candidates l) o served.by (best-is (rc_of l).driver (candidates l) o is) served.among);
    }

-- without a sink: nothing is placed, and the required time is 0
pub empty-choice : (l : LoadingView) → has_sinks l ≡ false → picked_choice l ≡ Nothing
empty-choice l none = cond-false (has_sinks l) (chosen_with (picked_candidate l)) Nothing none

pub no-sinks : (l : LoadingView) → has_sinks l ≡ false → sinks_of l ≡ []
no-sinks l none =
    let few = ltb-false 1 (length l.pins) none in
    let zero_more : length l.pins - 1 ≡ 0 = omega arith in
    ap (λ (m : ℕ). map (sink_at l) (range_with_len 1 m)) zero_more

pub no-time : (t : RcTree) (b : Buffers) → t.sinks ≡ [] → required_time t b ≡ pos 0
no-time t b none = ap (λ (sinks : List Sink). unwrap_or (soonest (map (slack t b) sinks)) (pos 0)) none

-- the placement of no buffers
pub empty-at : (l : LoadingView) (node : ℕ) → placed_at (placement_of l Nothing) node ≡ None
empty-at l node = elim (cases_lt node (length l.tree.nodes)) [
  | inl inside ↦ placement-at l Nothing node None inside
  | inr past ↦ placement-past l Nothing node past
]

pub empty-allowed : (l : LoadingView) → IsAllowed l (placement_of l Nothing)
empty-allowed l = record {
  long = length-map-range_with_len (chosen_at Nothing) 0 (length l.tree.nodes);
  root = empty-at l 0;
  kinds = λ node d inside.
      let long = length-map-range_with_len (chosen_at Nothing) 0 (length l.tree.nodes) in
      subst (λ (m : Option ℕ). IfSome m (λ k. k < length l.library.kinds)) (sym (placement-at l Nothing node d (omega arith))) tt;
  free = λ node blocked. empty-at l node;
  needed = λ node none. empty-at l node;
}

-- without a sink no placement has a greater time than another
pub same-time : (l : LoadingView) (p q : List (Option ℕ)) → has_sinks l ≡ false → time_with l q ≤ℤ time_with l p
same-time l p q none =
    let first = no-time (rc_of l) (buffers_of l.library q) (no-sinks l none) in
    let second = no-time (rc_of l) (buffers_of l.library p) (no-sinks l none) in
    let same : pos 0 ≤ℤ pos 0 = omega (arith, ints) in
    subst (λ (z : ℤ). z ≤ℤ time_with l p) (sym first) (subst (λ (z : ℤ). pos 0 ≤ℤ z) (sym second) same)

picked-empty : (l : LoadingView) → has_sinks l ≡ false → IsBest l (picked l)
picked-empty l none = subst (λ (c : Chosen). IsBest l (placement_of l c)) (sym (empty-choice l none)) (record {
  allowed = empty-allowed l;
  greatest = λ q allowed. same-time l (placement_of l Nothing) q none;
})

pub picked-is_best : (l : LoadingView) → IsLoading l → IsBest l (picked l)
picked-is_best l loading = elim (cases_Bool (has_sinks l)) [
  | inl sinks ↦
      let some = some-picked l loading in
      subst (λ (c : Chosen). IsBest l (placement_of l c)) (sym (choice-picked l some.0 sinks some.1)) (picked-best_driven l some.0 loading sinks some.1)
  | inr none ↦ picked-empty l none
]
