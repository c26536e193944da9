-- Candidates for both signals, and those above nodes and at the upper ends of edges, are in range.
use Rattle.std.proofs.Common.{◌≡◌, ℕ, ◌+◌, ◌^◌, ◌<◌, inl, inr, Bool, ◌==◌, List, length, All, Contains, if◌then◌else◌, refl, sym, subst, arith}
use Rattle.std.proofs.lemmas.Bool.{cases_eq, eq-eqb, ne_eqb}
use Rattle.std.proofs.lemmas.List.Elements.{All-contains}
use Rattle.elmore_delay.specs.Loadings.{LoadingView, IsLoading}
use Rattle.elmore_delay.specs.Ranges.{IsSeen}
use Rattle.elmore_delay.specs.declared.seen.Seen.{Seen}
use Rattle.elmore_delay.proofs.RcLemmas.{rc-tree}
use Rattle.ginneken_lists.specs.Candidates.{Chosen, Candidate}
use Rattle.ginneken_lists.specs.Pairs.{candidates, IsInRange}
use Rattle.ginneken_lists.specs.declared.pair.Pair.{Pair}
use Rattle.buffer_plan.specs.Picked.{sites_of}
use Rattle.buffer_plan.proofs.Served.{seen_above}
use Rattle.buffer_plan.proofs.HungLemmas.{if-same, if-other}
use Rattle.buffer_plan.proofs.Small.{all-members, real-small, above-small, Fits, along-fits, pairs-fit, all-fit}
use Rattle.polar_lists.specs.Signals.{BySignal, both_above, both_hanging, both_of_last}
use Rattle.polar_lists.specs.BothLists.{AreBothSmall}
use Rattle.polar_lists.proofs.BothReal.{IsSelected, unbuffered, both-real, above-comes, hanging-comes}

one-small : (l : LoadingView) (n k v : ℕ) (inverted : Bool) (o : Candidate) → IsLoading l → 0 < k → k + n ≡ length l.tree.nodes → v < k →
    Contains (both_of_last n (sites_of l) v inverted) o → IsSeen (2 ^ 100) o.seen
one-small l n k v inverted o loading later at below among =
    let s = sites_of l in
    let selected : ℕ → Candidate = λ u. if u == v then o else unbuffered n s u in
    let each : (u : ℕ) → u < k → IsSelected n s (u == v) inverted u (selected u) = λ u inside. elim (cases_eq u v) [
      | inl same ↦
          subst (λ (b : Bool). IsSelected n s b inverted u (selected u)) (sym (eq-eqb u v same))
          (subst (λ (c : Candidate). Contains (both_of_last n s u inverted) c) (sym (if-same u v o (unbuffered n s u) same))
          (subst (λ (w : ℕ). Contains (both_of_last n s w inverted) o) (sym same) among))
      | inr other ↦
          subst (λ (b : Bool). IsSelected n s b inverted u (selected u)) (sym (ne_eqb u v other)) (sym (if-other u v o (unbuffered n s u) other))
    ] in
    subst (λ (c : Candidate). IsSeen (2 ^ 100) c.seen) (if-same v v o (unbuffered n s v) refl)
    (real-small l n k v selected loading at below (both-real n k s (λ u. u == v) (λ u. inverted) selected (rc-tree l loading) later at each).real)

pub both-small : (l : LoadingView) (n k v : ℕ) → IsLoading l → 0 < k → k + n ≡ length l.tree.nodes → v < k → AreBothSmall (both_of_last n (sites_of l) v)
both-small l n k v loading later at below inverted =
    all-members (λ (o : Candidate). IsSeen (2 ^ 100) o.seen) (both_of_last n (sites_of l) v inverted) (λ o among. one-small l n k v inverted o loading later at below among)

-- the pairs of lists above a node, and at the upper end of the edge
pub above-pairs : (l : LoadingView) (node : ℕ) (inverted : Bool) (trail : List Chosen) (pairs : List Pair) (all : BySignal) → IsLoading l → AreBothSmall all →
    candidates trail pairs ≡ both_above (sites_of l) node all inverted → All IsInRange pairs
above-pairs l node inverted trail pairs all loading small is =
    let s = sites_of l in
    let above : All (λ (o : Candidate). IsSeen (2 ^ 101) o.seen) (both_above s node all inverted) =
    all-members (λ (o : Candidate). IsSeen (2 ^ 101) o.seen) (both_above s node all inverted) (λ o among.
    let from = above-comes s node all inverted o among in
    subst (λ (u : Seen). IsSeen (2 ^ 101) u) (sym from.seen) (above-small l from.held from.from.seen loading
    (All-contains (λ (c : Candidate). IsSeen (2 ^ 100) c.seen) (all _) from.from (small _) from.among))) in
    pairs-fit trail pairs (both_above s node all inverted) is (all-fit (2 ^ 101) (both_above s node all inverted) (omega arith) above)

pub hanging-pairs : (l : LoadingView) (node : ℕ) (inverted : Bool) (trail : List Chosen) (pairs : List Pair) (all : BySignal) → IsLoading l → AreBothSmall all →
    candidates trail pairs ≡ both_hanging (sites_of l) node all inverted → All IsInRange pairs
hanging-pairs l node inverted trail pairs all loading small is =
    let s = sites_of l in
    pairs-fit trail pairs (both_hanging s node all inverted) is
    (all-members (λ (o : Candidate). Fits o.seen) (both_hanging s node all inverted) (λ o among.
    let hung = hanging-comes s node all inverted o among in
    let from = hung.below in
    subst (λ (u : Seen). Fits u) (sym hung.seen) (along-fits l node (seen_above s from.held from.from.seen) loading
    (above-small l from.held from.from.seen loading (All-contains (λ (c : Candidate). IsSeen (2 ^ 100) c.seen) (all _) from.from (small _) from.among)))))
