-- What a plan takes from the list at node 0.
use Rattle.std.proofs.Common.{◌≡◌, ℕ, zero, suc, ◌+◌, ◌-◌, ◌*◌, ◌^◌, ◌<◌, ◌≤◌, ℤ, pos, ◌-ℤ◌, Bool, true, false, ◌==◌, if◌then◌else◌, List, length, replicate, Option, Some, None, is_some, unwrap_or, Result, Ok, Err, IfOk, SFits, to_z, of_z, inl, inr, refl, mul_right_comm, mul-le-mul, le_refl, sym, ap, subst, ◌∙◌, arith}
use Rattle.std.specs.Int.{w128}
use Rattle.std.proofs.lemmas.List.{length-replicate, get_or-replicate, ext_get_or}
use Rattle.std.proofs.lemmas.List.FromFn.{length-map-range_with_len}
use Rattle.elmore_delay.specs.RcTrees.{RcTree}
use Rattle.elmore_delay.specs.FromLeaves.{less, at_driver}
use Rattle.elmore_delay.specs.Loadings.{LoadingView, IsLoading, rc_of}
use Rattle.elmore_delay.specs.Placements.{buffers_of}
use Rattle.elmore_delay.specs.declared.plans.Plan.{Plan}
use Rattle.elmore_delay.specs.declared.seen.Seen.{Seen}
use Rattle.elmore_delay.specs.Ranges.{IsSeen, IsTime, most_load}
use Rattle.rc_library.specs.Limits.{most_resistance}
use Rattle.std.proofs.lemmas.Int.{ints}
use Rattle.std.proofs.lemmas.Bool.{cases_Bool, true≢false, cond-true, cond-false}
use Rattle.ginneken_lists.specs.Candidates.{Chosen, Nothing, Buffered, Both, Candidate, both, best_driven, chosen_at}
use Rattle.ginneken_lists.specs.Pairs.{candidate_of, candidates as candidates_of}
use Rattle.ginneken_lists.specs.declared.pair.Pair.{Pair}
use Rattle.buffer_plan.specs.Best.{has_sinks, time_with, IsBest}
use Rattle.buffer_plan.specs.Picked.{sites_of, picked_candidate, chosen_with, choice_with, placement_of, picked}
use Rattle.buffer_plan.specs.Gathered.{pairs_at, AreGathered, IsWithin, most_steps}
use Rattle.buffer_plan.proofs.Small.{real-small}
use Rattle.buffer_plan.proofs.HungLemmas.{Held, over, choice_of_last}
use Rattle.buffer_plan.proofs.BestLemmas.{IsRealAtRoot, placement-at, real-time, real-known, picked-is_best, candidate-known, no-time, no-sinks}

-- what is chosen stands at the nodes that were hung
both-within : (nodes : ℕ) (left right : Chosen) → IsWithin nodes left → IsWithin nodes right → IsWithin nodes (both left right)
both-within nodes Nothing right first second = second
both-within nodes (Buffered at kind below) Nothing first second = first
both-within nodes (Buffered at kind below) (Buffered other number lower) first second = (first, second)
both-within nodes (Buffered at kind below) (Both one two) first second = (first, second)
both-within nodes (Both one two) Nothing first second = first
both-within nodes (Both one two) (Buffered at kind below) first second = (first, second)
both-within nodes (Both one two) (Both three four) first second = (first, second)

over-within : (nodes k : ℕ) (held : Option ℕ) (below : Chosen) → 0 < k → k < nodes → IsWithin nodes below → IsWithin nodes (over k held below)
over-within nodes k None below later inside within = within
over-within nodes k (Some kind) below later inside within = (later, inside, within)

hung-within : (b : Bool) (nodes m : ℕ) (held : Option ℕ) (own below : Chosen) → 0 < m → m < nodes → IsWithin nodes own → IsWithin nodes below →
    IsWithin nodes (if b then both own (over m held below) else own)
hung-within true nodes m held own below later inside first second =
    both-within nodes own (over m held below) first (over-within nodes m held below later inside second)
hung-within false nodes m held own below later inside first second = first

choice-within : (n k v : ℕ) (t : RcTree) (p : Held) → 0 < k → k + n ≡ t.nodes → IsWithin t.nodes (choice_of_last n t p v)
choice-within zero k v t p later at = tt
choice-within (suc n) k v t p later at =
    let m : ℕ = t.nodes - suc n in
    hung-within (v == t.parent m) t.nodes m (p m) (choice_of_last n t p v) (choice_of_last n t p m) (omega arith) (omega arith)
    (choice-within n (suc k) v t p (omega arith) (omega arith)) (choice-within n (suc k) m t p (omega arith) (omega arith))

-- the pair that the driver drives best is that of the picked candidate
pub pair-picked : (l : LoadingView) (trail : List Chosen) (lists : List (Option (List Pair))) (r : ℕ) (pair : Pair) → AreGathered (sites_of l) 1 trail lists →
    r ≡ (rc_of l).driver → best_driven r (candidates_of trail (pairs_at lists 0)) ≡ Some (candidate_of trail pair) →
    picked_candidate l ≡ Some (candidate_of trail pair)
pair-picked l trail lists r pair are driver is =
    ap (λ (os : List Candidate). best_driven (rc_of l).driver os) (sym (are.listed 0 (omega arith)))
    ∙ ap (λ (n : ℕ). best_driven n (candidates_of trail (pairs_at lists 0))) (sym driver) ∙ is

-- what a candidate at node 0 names stands at nodes of the tree, and its load and time are in range
pub real-within : (l : LoadingView) (o : Candidate) → IsLoading l → IsRealAtRoot l o → IsWithin (length l.tree.nodes) o.chosen
real-within l o loading found =
    let rooted = loading.tree.rooted in
    subst (λ (c : Chosen). IsWithin (length l.tree.nodes) c) (found.chosen 0 (omega arith))
    (choice-within (length l.tree.nodes - 1) 1 0 (rc_of l) found.held (omega arith) (omega arith))

pub real-in_range : (l : LoadingView) (o : Candidate) → IsLoading l → IsRealAtRoot l o → IsSeen (2 ^ 100) o.seen
real-in_range l o loading found =
    let rooted = loading.tree.rooted in
    real-small l (length l.tree.nodes - 1) 1 0 (λ v. o) loading (omega arith) (omega arith) found

-- with a time: the placement and the required time
pub plan-chosen : (l : LoadingView) (o : Candidate) (time : ℤ) (p : List (Option ℕ)) → o.seen.time ≡ Some time → p ≡ placement_of l o.chosen →
    p ≡ placement_of l (choice_with o)
plan-chosen l o time p known placed =
    placed ∙ ap (placement_of l) (sym (cond-true (is_some o.seen.time) o.chosen Nothing (ap (λ (x : Option ℤ). is_some x) known)))

pub plan-driven : (r : ℕ) (s : Seen) (time required : ℤ) → s.time ≡ Some time → required ≡ time -ℤ pos (2 * r * s.load) → required ≡ at_driver r s
plan-driven r s time required known told = told ∙ ap (λ (x : Option ℤ). unwrap_or (less (2 * r * s.load) x) (pos 0)) (sym known)

-- without a time: no buffers, and 0
pub plan-empty : (l : LoadingView) (o : Candidate) (nodes : ℕ) (p : List (Option ℕ)) → o.seen.time ≡ None → nodes ≡ length l.tree.nodes →
    p ≡ replicate nodes None → p ≡ placement_of l (choice_with o)
plan-empty l o nodes p unknown same is =
    let long = length-replicate nodes None in
    let other = length-map-range_with_len (chosen_at Nothing) 0 (length l.tree.nodes) in
    is ∙ ext_get_or None (replicate nodes None) (placement_of l Nothing) (long ∙ same ∙ sym other) (λ node inside.
    get_or-replicate nodes node None None (omega arith) ∙ sym (placement-at l Nothing node None (omega arith)))
    ∙ ap (placement_of l) (sym (cond-false (is_some o.seen.time) o.chosen Nothing (ap (λ (x : Option ℤ). is_some x) unknown)))

pub plan-no_time : (r : ℕ) (s : Seen) → s.time ≡ None → pos 0 ≡ at_driver r s
plan-no_time r s unknown = ap (λ (x : Option ℤ). unwrap_or (less (2 * r * s.load) x) (pos 0)) (sym unknown)

-- the required time with the placement of a real candidate
pub real-required : (l : LoadingView) (o : Candidate) → IsLoading l → IsRealAtRoot l o → at_driver (rc_of l).driver o.seen ≡ time_with l (placement_of l (choice_with o))
real-required l o loading found = elim (cases_Bool (has_sinks l)) [
  | inl sinks ↦
      sym (real-time l loading o found)
      ∙ ap (λ (c : Chosen). time_with l (placement_of l c))
      (sym (cond-true (is_some o.seen.time) o.chosen Nothing (real-known l loading o found ∙ sinks)))
  | inr none ↦
      sym (plan-no_time (rc_of l).driver o.seen (is-none o.seen.time (real-known l loading o found ∙ none)))
      ∙ sym (no-time (rc_of l) (buffers_of l.library (placement_of l (choice_with o))) (no-sinks l none))
]
  where
    is-none : (x : Option ℤ) → is_some x ≡ false → x ≡ None
    is-none None none = refl
    is-none (Some time) none = absurd (true≢false none)

-- what is ensured of a plan from what is known of its pair
pub plan-picked : (l : LoadingView) (o : Candidate) → IsLoading l → picked_candidate l ≡ Some o → placement_of l (choice_with o) ≡ picked l
plan-picked l o loading is =
    ap (λ (b : Bool). placement_of l (if b then o.chosen else Nothing)) (candidate-known l o loading is)
    ∙ ap (λ (x : Option Candidate). placement_of l (if has_sinks l then chosen_with x else Nothing)) (sym is)

-- its time at the driver, as it is computed: it fits, and is the time less the delay
pub driven-fits : (r load from other : ℕ) (time : ℤ) → from ≡ r → other ≡ load → r ≤ most_resistance → load ≤ most_load → IsTime (2 ^ 100) time →
    SFits w128 (to_z w128 (of_z w128 time) -ℤ to_z w128 (2 * from * other))
driven-fits r load from other time from_is other_is fits low is =
    let twice_r : 2 * from ≤ 2000000 = omega arith in
    let low_load : other ≤ most_load = omega arith in
    let product : 2 * from * other ≤ 2000000 * most_load = mul-le-mul twice_r low_load in
    let under = is.low in
    let above = is.high in
    omega (arith, ints)

pub driven-told : (r load from other : ℕ) (time : ℤ) → from ≡ r → other ≡ load → r ≤ most_resistance → load ≤ most_load → IsTime (2 ^ 100) time →
    to_z w128 (of_z w128 (to_z w128 (of_z w128 time) -ℤ to_z w128 (2 * from * other))) ≡ time -ℤ pos (2 * r * load)
driven-told r load from other time from_is other_is fits low is =
    let twice_r : 2 * from ≤ 2000000 = omega arith in
    let low_load : other ≤ most_load = omega arith in
    let product : 2 * from * other ≤ 2000000 * most_load = mul-le-mul twice_r low_load in
    let same : 2 * from * other ≡ 2 * r * load = ap (λ (n : ℕ). 2 * n * other) from_is ∙ ap (λ (n : ℕ). 2 * r * n) other_is in
    let under = is.low in
    let above = is.high in
    omega (arith, ints)

pub plan-is_picked : {E : Type 0} (l : LoadingView) (o : Candidate) (r : Result Plan E) → IsLoading l → picked_candidate l ≡ Some o →
    IfOk r (λ plan. plan.placement ≡ placement_of l (choice_with o)) → IfOk r (λ plan. plan.placement ≡ picked l)
plan-is_picked l o (Ok plan) loading is placed = placed ∙ plan-picked l o loading is
plan-is_picked l o (Err e) loading is placed = tt

pub plan-best : {E : Type 0} (l : LoadingView) (r : Result Plan E) → IsLoading l → IfOk r (λ plan. plan.placement ≡ picked l) →
    IfOk r (λ plan. IsBest l plan.placement)
plan-best l (Ok plan) loading is = subst (λ (p : List (Option ℕ)). IsBest l p) (sym is) (picked-is_best l loading)
plan-best l (Err e) loading is = tt

pub plan-time : {E : Type 0} (l : LoadingView) (o : Candidate) (r : Result Plan E) → IsLoading l → IsRealAtRoot l o →
    IfOk r (λ plan. plan.placement ≡ placement_of l (choice_with o)) → IfOk r (λ plan. plan.required ≡ at_driver (rc_of l).driver o.seen) →
    IfOk r (λ plan. plan.required ≡ time_with l plan.placement)
plan-time l o (Ok plan) loading found placed told =
    told ∙ real-required l o loading found ∙ ap (λ (p : List (Option ℕ)). time_with l p) (sym placed)
plan-time l o (Err e) loading found placed told = tt

-- the steps of a plan: those of all nodes, and of one list
steps-by_m : (m d old all now more : ℕ) → all ≤ old + m * d → more ≤ m → now ≤ all + more → now ≤ old + m * (d + 1)
steps-by_m m d old all now more first second third =
    let out : m * (d + 1) ≡ m * d + m = omega arith in
    omega arith

low-list : (k b len : ℕ) → 1 ≤ b → len ≤ b → len + 1 ≤ 8 * (1 + k) * b
low-list k b len some low =
    let out : 8 * (1 + k) * b ≡ 8 * b + 8 * (k * b) = omega arith in
    omega arith

turn-product : (a b c : ℕ) → a * b * c ≡ a * c * b
turn-product a b c = mul_right_comm a b c

pub plan-steps : (k nodes old all now len : ℕ) → 0 < nodes → all ≤ old + most_steps k nodes * (nodes - 1) → len ≤ 1 + k * (nodes - 1) → now ≤ all + len + 1 →
    now ≤ old + 8 * (1 + k) * nodes * (1 + k * nodes)
plan-steps k nodes old all now len some first low second =
    let d : ℕ = nodes - 1 in
    let same : d + 1 ≡ nodes = omega arith in
    let fewer : k * (nodes - 1) ≤ k * nodes = mul-le-mul (le_refl k) (omega arith) in
    let more : len + 1 ≤ most_steps k nodes = low-list k (1 + k * nodes) len (omega arith) (omega arith) in
    let total = steps-by_m (most_steps k nodes) d old all now (len + 1) first more (omega arith) in
    let whole : most_steps k nodes * (d + 1) ≡ 8 * (1 + k) * nodes * (1 + k * nodes) =
    ap (λ (n : ℕ). most_steps k nodes * n) same ∙ turn-product (8 * (1 + k)) (1 + k * nodes) nodes in
    subst (λ (n : ℕ). now ≤ old + n) whole total

pub plan-steps_part : (k nodes old now : ℕ) → 0 < nodes → now ≤ old + most_steps k nodes * (nodes - 1) → now ≤ old + 8 * (1 + k) * nodes * (1 + k * nodes)
plan-steps_part k nodes old now some first = plan-steps k nodes old now now 0 some first (omega arith) (omega arith)
