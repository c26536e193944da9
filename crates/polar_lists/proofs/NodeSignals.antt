-- The candidates for each signal at each node are complete and real, and few.
use Rattle.std.proofs.Common.{◌≡◌, ℕ, suc, ◌+◌, ◌-◌, ◌*◌, ◌<◌, ◌≤◌, Bool, true, false, ◌==◌, List, [], ◌∷◌, ◌++◌, length, map, slice_index_or, Contains, None, if◌then◌else◌, refl, sym, ap, subst, ◌∙◌, arith}
use Rattle.std.specs.List.{range_with_len}
use Rattle.std.proofs.lemmas.Bool.{eqb-true, eq-eqb}
use Rattle.std.proofs.lemmas.List.{length-append, length-map}
use Rattle.std.proofs.lemmas.List.FromFn.{length-range_with_len}
use Rattle.std.proofs.lemmas.List.Elements.{All-contains_itself}
use Rattle.elmore_delay.specs.BelowNodes.{nodes_below}
use Rattle.elmore_delay.specs.FromLeaves.{sinks_seen}
use Rattle.elmore_delay.specs.Loadings.{LoadingView, IsLoading, rc_of}
use Rattle.elmore_delay.specs.Placements.{placed_at, buffers_of}
use Rattle.elmore_delay.specs.declared.seen.Seen.{Seen}
use Rattle.elmore_delay.proofs.RcLemmas.{rc-tree}
use Rattle.elmore_delay.proofs.SeenFromLeaves.{seen-last}
use Rattle.ginneken_lists.specs.Candidates.{Candidate, serves, leaf, along_edge, all_joined}
use Rattle.ginneken_lists.specs.Thinning.{AreRising}
use Rattle.ginneken_lists.proofs.FewKept.{length-thinned, length-joined}
use Rattle.buffer_plan.specs.CandidatesBelow.{seen_with}
use Rattle.buffer_plan.specs.Picked.{Sites, sites_of, placement_of}
use Rattle.buffer_plan.proofs.BestLemmas.{held-may}
use Rattle.buffer_plan.proofs.FewCandidates.{IsCount, few-counted, length-filter_map}
use Rattle.buffer_plan.proofs.HungLemmas.{if-same}
use Rattle.buffer_plan.proofs.NodeLists.{any-has, named-below, named-real}
use Rattle.polar_lists.specs.Signals.{BySignal, suits_all, made_by, offers_by, with_both_offers, both_above, both_hanging, both_of_last}
use Rattle.polar_lists.specs.SignalsBelow.{AreCompleteFor, IsRealFor, AreRealFor, both_at}
use Rattle.polar_lists.proofs.BelowSignals.{served-from, from-served, served-within}
use Rattle.polar_lists.proofs.BothReal.{IsRealBoth, IsSelected, unbuffered, both-real}
use Rattle.polar_lists.proofs.BothServed.{both-complete}
use Rattle.polar_lists.proofs.ServedSinks.{served_of_last}
use Rattle.polar_lists.proofs.SignalLemmas.{both-hung, both-other, both-rising, hanging-rising}

pub complete-for : (l : LoadingView) (v : ℕ) (inverted : Bool) → IsLoading l → v < length l.tree.nodes → AreCompleteFor l v inverted (both_at l v inverted)
complete-for l v inverted loading inside p legal =
    let n : ℕ = length l.tree.nodes - suc v in
    let tree = rc-tree l loading in
    let wanted = from-served (rc_of l) l.library (placed_at p) v inverted tree n (omega arith) legal.served in
    let served = both-complete n (suc v) v (sites_of l) (placed_at p) inverted (omega arith) (held-may l p legal.allowed.kinds legal.allowed.free) wanted in
    any-has (λ (o : Candidate). serves o.seen (seen_with l v p)) (both_at l v inverted) served.by served.among
    (subst (λ (s : Seen). serves served.by.seen s ≡ true) (sym (seen-last n v (rc_of l) (buffers_of l.library p) tree (omega arith))) served.well)

-- a candidate for a signal at v, and what is seen elsewhere without buffers
module _ (l : LoadingView) (v n : ℕ) (inverted : Bool) (loading : IsLoading l) (at : suc v + n ≡ length l.tree.nodes) (o : Candidate)
    (among : Contains (both_of_last n (sites_of l) v inverted) o) where
  abbrev selected : ℕ → Candidate
  selected u = if u == v then o else unbuffered n (sites_of l) u

  selected-v : selected v ≡ o
  selected-v = if-same v v o (unbuffered n (sites_of l) v) refl

  selected-each : (u : ℕ) → u < suc v → IsSelected n (sites_of l) (u == v) inverted u (selected u)
  selected-each u below = by (u == v) refl
    where
      by : (b : Bool) → (u == v) ≡ b → IsSelected n (sites_of l) b inverted u (if b then o else unbuffered n (sites_of l) u)
      by true is = subst (λ (w : ℕ). Contains (both_of_last n (sites_of l) w inverted) o) (sym (eqb-true u v is)) among
      by false is = refl

  found : IsRealBoth n (suc v) (sites_of l) (λ u. u == v) (λ u. inverted) selected
  found = both-real n (suc v) (sites_of l) (λ u. u == v) (λ u. inverted) selected (rc-tree l loading) (omega arith) at selected-each

  named-served : served_of_last n (rc_of l) l.library (placed_at (placement_of l o.chosen)) v inverted ≡ true
  named-served =
      served-within n (suc v) v (rc_of l) l.library (placed_at (placement_of l o.chosen)) found.real.held inverted (rc-tree l loading) (omega arith) at
      (λ node le lt under. named-below l v n loading at o selected selected-v found.real node None lt under)
      ∙ found.served v (omega arith) (eq-eqb v v refl)

  real-one : IsRealFor l v inverted o
  real-one =
      let named = named-real l v n loading at o selected selected-v found.real in
      record {
        legal = record {
          allowed = named.allowed;
          served = served-from (rc_of l) l.library (placed_at (placement_of l o.chosen)) v inverted (rc-tree l loading) n at named-served;
        };
        seen = named.seen;
      }

pub real-for : (l : LoadingView) (v : ℕ) (inverted : Bool) → IsLoading l → v < length l.tree.nodes → AreRealFor l v inverted (both_at l v inverted)
real-for l v inverted loading inside k d below =
    real-one l v (length l.tree.nodes - suc v) inverted loading (omega arith) (slice_index_or (both_at l v inverted) k d)
    (All-contains_itself (both_at l v inverted) k d below)

pub rising-for : (l : LoadingView) (v : ℕ) (inverted : Bool) → v < length l.tree.nodes → AreRising (both_at l v inverted)
rising-for l v inverted inside = both-rising (length l.tree.nodes - suc v) (suc v) v (sites_of l) inverted (omega arith)

-- each kind makes at most one candidate for a signal
above-few : (s : Sites) (node : ℕ) (all : BySignal) (inverted : Bool) → length (both_above s node all inverted) ≤ length (all inverted) + length s.library.kinds
above-few s node all inverted = by (s.free node)
  where
    by : (free : Bool) → length ((if free then with_both_offers s.library node all else all) inverted) ≤ length (all inverted) + length s.library.kinds
    by true =
        let lib = s.library in
        let kept = length-thinned (all inverted ++ offers_by lib node all inverted) in
        let both = length-append (all inverted) (offers_by lib node all inverted) in
        let each = length-filter_map (made_by lib node all inverted) (range_with_len 0 (length lib.kinds)) in
        let kinds = length-range_with_len 0 (length lib.kinds) in
        omega arith
    by false = omega arith

hanging-few : (s : Sites) (node : ℕ) (all : BySignal) (inverted : Bool) → length (both_hanging s node all inverted) ≤ length (all inverted) + length s.library.kinds
hanging-few s node all inverted =
    let wire = s.tree.wire node in
    let kept = length-thinned (map (along_edge wire) (both_above s node all inverted)) in
    let same = length-map (both_above s node all inverted) (along_edge wire) in
    let above = above-few s node all inverted in
    omega arith

joined-none : (right : List Candidate) → length (all_joined [] right) ≡ 0
joined-none right = refl

abbrev more : Bool → Sites → ℕ → ℕ → ℕ
more inverted s n v = length (both_of_last n s v inverted) - 1

more-joined : (kinds : ℕ) (own before hung : List Candidate) → AreRising own → AreRising hung → length hung ≤ length before + kinds →
    length (all_joined own hung) - 1 ≤ length own - 1 + (length before - 1 + kinds)
more-joined kinds [] before hung rising hung_rising few = let none = joined-none hung in omega (arith, none)
more-joined kinds (first ∷ own) before hung rising hung_rising few =
    let joined = length-joined (first ∷ own) hung rising hung_rising (omega arith) in
    omega (arith, joined, few)

count-more : (s : Sites) (inverted : Bool) → IsCount s (more inverted s)
count-more s inverted = record {
  start = λ v. by (suits_all s.tree v inverted) (leaf (sinks_seen s.tree v)) (omega arith);
  hung = λ n k at.
      let q = s.tree.parent k in
      let all : BySignal = both_of_last n s k in
      ap-less (both-hung n k q s inverted at refl)
      (more-joined (length s.library.kinds) (both_of_last n s q inverted) (all inverted) (both_hanging s k all inverted)
      (both-rising n (suc k) q s inverted (omega arith)) (hanging-rising s k all inverted) (hanging-few s k all inverted));
  other = λ n k v at apart. ap (λ (os : List Candidate). length os - 1) (both-other n k v s inverted at apart);
}
  where
    by : (b : Bool) (one : List Candidate) → length one ≡ 1 → length (if b then one else []) - 1 ≡ 0
    by true one is = omega (arith, is)
    by false one is = refl

    ap-less : {xs ys : List Candidate} {m : ℕ} → xs ≡ ys → length ys - 1 ≤ m → length xs - 1 ≤ m
    ap-less {xs} {ys} {m} same less = subst (λ (zs : List Candidate). length zs - 1 ≤ m) (sym same) less

pub few-for : (l : LoadingView) (v : ℕ) (inverted : Bool) → IsLoading l → v < length l.tree.nodes →
    length (both_at l v inverted) ≤ 1 + length l.library.kinds * length (nodes_below (rc_of l) v)
few-for l v inverted loading inside =
    let few = few-counted l v (more inverted (sites_of l)) (count-more (sites_of l) inverted) loading inside in
    omega (arith, few)
