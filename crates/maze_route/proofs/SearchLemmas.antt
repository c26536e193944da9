-- What stands in a search from step to step.
use Rattle.std.proofs.Common.{◌≡◌, ◌≢◌, ℕ, ◌+◌, ◌*◌, ◌<◌, ◌≤◌, ◌⊎◌, inl, inr, Bool, true, false, ◌&&◌, nat_le, List, [], ◌∷◌, length, get_or, Option, Some, None, IfSome, IsSomeAnd, IsTrue, All, Contains, slice_set, refl, sym, ap, subst, ◌∙◌, arith, length-set}
use Rattle.std.specs.List.{sum}
use Rattle.std.specs.List.Sorted.{IsPermutation}
use Rattle.std.proofs.lemmas.Bool.{cases_eq}
use Rattle.std.proofs.lemmas.Bool.Decides.{nat_tests}
use Rattle.std.proofs.lemmas.Option.{none-some, same_Some}
use Rattle.std.proofs.lemmas.List.Sums.{sum_by-set}
use Rattle.std.proofs.lemmas.List.Sorted.{Contains-permutation, IsPermutation-sym, length_permutation}
use Rattle.maze_route.specs.Steps.{Step}
use Rattle.maze_route.specs.Labels.{unreached, label_at, is_lower, relabelled}
use Rattle.maze_route.specs.Queues.{QueueView}
use Rattle.maze_route.specs.Search.{most_distance, IsAtMost, IsConsistent, HasCosts, HasSources, AreWalked, IsRelaxed, AreGuided, IsSearching, HasGoal}
use Rattle.maze_route.specs.Handing.{Lowers, Stands, IsReachIf, does_lower, IsReach, AreReaches}
use Rattle.maze_route.specs.Walks.{Graph, Reaches, Starts, Goes_on}
use Rattle.maze_route.specs.declared.front.Frontier.{Frontier}
use Rattle.maze_route.proofs.Distances.{at-most, make-at-most}
use Rattle.maze_route.proofs.LabelLemmas.{label-set, relabelled-here, relabelled-there, lower-item, lower-label, not-lower, contains-head, contains-more, contains-cases}

-- the labels of a frontier
abbrev pub labels_of : Frontier → ℕ → Option ℕ
labels_of front = label_at front.labels.costs.items

-- how much the search has before it at most
abbrev pub weight_of : Frontier → ℕ
weight_of front = length front.queue.pairs + 2 * sum front.labels.costs.items

abbrev pub Falls : (ℕ → Option ℕ) → (ℕ → Option ℕ) → Type 0
Falls before after = (n cost : ℕ) → before n ≡ Some cost → IsAtMost (after n) cost

-- the step is one of the graph's from this cell
pub record IsStepFrom (graph : Graph) (rest : ℕ → ℕ) (v : ℕ) (step : Step) : Type 0 where
  pub taken : graph.step v step.cell ≡ Some step.cost
  pub left : step.rest ≡ rest step.cell

-- what the reach of a step from a settled cell leaves
pub record Grown (graph : Graph) (rest : ℕ → ℕ) (v from : ℕ) (before after : Frontier) : Type 0 where
  pub searching : IsSearching graph rest (labels_of after) after.queue.pairs v
  pub falls : Falls (labels_of before) (labels_of after)
  pub kept : labels_of after v ≡ Some from
  pub weight : weight_of after ≤ weight_of before
  pub size : length after.labels.costs.items ≡ length before.labels.costs.items
  pub last : after.queue.last ≡ before.queue.last

-- a frontier that stands as it was
stands-labels : (before after : Frontier) → Stands before after → (n : ℕ) → labels_of after n ≡ labels_of before n
stands-labels before after stands n = ap (λ (xs : List ℕ). label_at xs n) stands.costs

pub stands-grown : (graph : Graph) (rest : ℕ → ℕ) (v from : ℕ) (before after : Frontier) →
    IsSearching graph rest (labels_of before) before.queue.pairs v → labels_of before v ≡ Some from → Stands before after → Grown graph rest v from before after
stands-grown graph rest v from before after searching is stands =
    let P : List ℕ → QueueView → Type 0 = λ xs q. IsSearching graph rest (label_at xs) q.pairs v in
    let P1 : List ℕ → Type 0 = λ xs. P xs before.queue in
    let P2 : QueueView → Type 0 = λ q. P after.labels.costs.items q in
    record {
      searching = subst P2 (sym stands.queue) (subst P1 (sym stands.costs) searching);
      falls = λ n cost old. make-at-most (labels_of after n) cost cost (stands-labels before after stands n ∙ old) (omega arith);
      kept = stands-labels before after stands v ∙ is;
      weight =
          let one = ap (λ (xs : List ℕ). 2 * sum xs) stands.costs in
          let two = ap (λ (q : QueueView). length q.pairs) stands.queue in
          omega (arith, one, two);
      size = ap (λ (xs : List ℕ). length xs) stands.costs;
      last = ap (λ (q : QueueView). q.last) stands.queue;
    }

-- labels that fall keep a cell relaxed
pub relaxed-falls : (graph : Graph) (before after : ℕ → Option ℕ) (u cost : ℕ) → Falls before after → IsRelaxed graph before u cost → IsRelaxed graph after u cost
relaxed-falls graph before after u cost falls relaxed v k taken small =
    let old = at-most (before v) (cost + k) (relaxed v k taken small) in
    let new = at-most (after v) old.0 (falls v old.0 old.1.0) in
    let a = old.1.1 in
    let b = new.1.1 in
    make-at-most (after v) new.0 (cost + k) new.1.0 (omega arith)

-- one label is lowered, and its cell put into the queue: what changes, on plain values
pub record IsLowered (before after : ℕ → Option ℕ) (cell cost : ℕ) (pairs pairs_after : List (ℕ × ℕ)) (key : ℕ) : Type 0 where
  pub labels : (n : ℕ) → after n ≡ relabelled before cell cost n
  pub lower : is_lower (before cell) cost ≡ true
  pub pushed : IsPermutation ((key, cell) ∷ pairs) pairs_after

lowered-falls : (before after : ℕ → Option ℕ) (cell cost : ℕ) (pairs pairs_after : List (ℕ × ℕ)) (key : ℕ) →
    IsLowered before after cell cost pairs pairs_after key → Falls before after
lowered-falls before after cell cost pairs pairs_after key low n old is =
    elim (cases_eq n cell) [
      | inl same ↦
          let here = subst (λ (m : ℕ). before m ≡ Some old) same is in
          let less = lower-label (before cell) old cost here low.lower in
          make-at-most (after n) cost old (low.labels n ∙ relabelled-here before cell cost n same) (omega arith)
      | inr other ↦ make-at-most (after n) old old (low.labels n ∙ relabelled-there before cell cost n other ∙ is) (omega arith)
    ]

lowered-walked : (graph : Graph) (before after : ℕ → Option ℕ) (cell cost : ℕ) (pairs pairs_after : List (ℕ × ℕ)) (key : ℕ) →
    IsLowered before after cell cost pairs pairs_after key → AreWalked graph before → Reaches graph cell cost → AreWalked graph after
lowered-walked graph before after cell cost pairs pairs_after key low walked walk n found is =
    elim (cases_eq n cell) [
      | inl same ↦
          let e : cost ≡ found = same_Some cost found (sym (low.labels n ∙ relabelled-here before cell cost n same) ∙ is) in
          let P : ℕ → Type 0 = λ c. Reaches graph n c in
          let Q : ℕ → Type 0 = λ m. Reaches graph m cost in
          subst P e (subst Q (sym same) walk)
      | inr other ↦ walked n found (sym (low.labels n ∙ relabelled-there before cell cost n other) ∙ is)
    ]

pair-parts : (a b c d : ℕ) → ◌≡◌ {A = ℕ × ℕ} (a, b) (c, d) → (a ≡ c) × (b ≡ d)
pair-parts a b c d same = (ap (λ (p : ℕ × ℕ). p.0) same, ap (λ (p : ℕ × ℕ). p.1) same)

lowered-small : (before after : ℕ → Option ℕ) (cell cost : ℕ) (pairs pairs_after : List (ℕ × ℕ)) (key : ℕ) →
    IsLowered before after cell cost pairs pairs_after key → ((n found : ℕ) → before n ≡ Some found → found ≤ most_distance) → cost ≤ most_distance →
    (n found : ℕ) → after n ≡ Some found → found ≤ most_distance
lowered-small before after cell cost pairs pairs_after key low all small n found is =
    elim (cases_eq n cell) [
      | inl same ↦ let e : cost ≡ found = same_Some cost found (sym (low.labels n ∙ relabelled-here before cell cost n same) ∙ is) in omega arith
      | inr other ↦ all n found (sym (low.labels n ∙ relabelled-there before cell cost n other) ∙ is)
    ]

still-waits : (pairs pairs_after : List (ℕ × ℕ)) (pair other : ℕ × ℕ) → IsPermutation (pair ∷ pairs) pairs_after → Contains pairs other → Contains pairs_after other
still-waits pairs pairs_after pair other moved h = Contains-permutation (pair ∷ pairs) pairs_after other moved (contains-more pair other pairs h)

lowered-settled : (graph : Graph) (rest : ℕ → ℕ) (before after : ℕ → Option ℕ) (cell cost v : ℕ) (pairs pairs_after : List (ℕ × ℕ)) (key : ℕ) →
    IsLowered before after cell cost pairs pairs_after key → IsSearching graph rest before pairs v → key ≡ cost + rest cell →
    (n found : ℕ) → after n ≡ Some found → n ≢ v → Contains pairs_after (found + rest n, n) ⊎ IsRelaxed graph after n found
lowered-settled graph rest before after cell cost v pairs pairs_after key low searching is_key n found is other_v =
    elim (cases_eq n cell) [
      | inl same ↦
          let e : cost ≡ found = same_Some cost found (sym (low.labels n ∙ relabelled-here before cell cost n same) ∙ is) in
          let P : ℕ → Type 0 = λ m. Contains pairs_after (found + rest m, m) in
          let Q : ℕ → Type 0 = λ k. Contains pairs_after (k, cell) in
          let f : ℕ → ℕ = λ c. c + rest cell in
          inl (subst P (sym same) (subst Q (is_key ∙ ap f e) (Contains-permutation ((key, cell) ∷ pairs) pairs_after (key, cell) low.pushed (contains-head (key, cell) pairs))))
      | inr other ↦
          let old = sym (low.labels n ∙ relabelled-there before cell cost n other) ∙ is in
          elim (searching.settled n found old other_v) [
            | inl waits ↦ inl (still-waits pairs pairs_after (key, cell) (found + rest n, n) low.pushed waits)
            | inr relaxed ↦ inr (relaxed-falls graph before after n found (lowered-falls before after cell cost pairs pairs_after key low) relaxed)
          ]
    ]

some-and : (o : Option ℕ) (P : ℕ → Type 0) → IsSomeAnd o P → (x : ℕ) × ((o ≡ Some x) × P x)
some-and None P h = absurd h
some-and (Some x) P h = (x, (refl, h))

make-some-and : (o : Option ℕ) (P : ℕ → Type 0) (x : ℕ) → o ≡ Some x → P x → IsSomeAnd o P
make-some-and o P x is h = let Q : Option ℕ → Type 0 = λ q. IsSomeAnd q P in subst Q (sym is) h

lowered-queued : (graph : Graph) (rest : ℕ → ℕ) (before after : ℕ → Option ℕ) (cell cost v : ℕ) (pairs pairs_after : List (ℕ × ℕ)) (key : ℕ) →
    IsLowered before after cell cost pairs pairs_after key → IsSearching graph rest before pairs v → key ≡ cost + rest cell →
    (k n : ℕ) → Contains pairs_after (k, n) → IsSomeAnd (after n) (λ c. c + rest n ≤ k)
lowered-queued graph rest before after cell cost v pairs pairs_after key low searching is_key k n waits =
    let back = Contains-permutation pairs_after ((key, cell) ∷ pairs) (k, n) (IsPermutation-sym ((key, cell) ∷ pairs) pairs_after low.pushed) waits in
    elim (contains-cases (key, cell) (k, n) pairs back) [
      | inl same ↦
          let parts = pair-parts key cell k n same in
          let rests = ap (λ (m : ℕ). rest m) (parts.1) in
          make-some-and (after n) (λ c. c + rest n ≤ k) cost (low.labels n ∙ relabelled-here before cell cost n (sym (parts.1))) (omega (arith, parts.0, rests))
      | inr older ↦
          let old = some-and (before n) (λ c. c + rest n ≤ k) (searching.queued k n older) in
          let fall = at-most (after n) old.0 (lowered-falls before after cell cost pairs pairs_after key low n old.0 old.1.0) in
          let a = old.1.1 in
          let b = fall.1.1 in
          make-some-and (after n) (λ c. c + rest n ≤ k) fall.0 fall.1.0 (omega arith)
    ]

-- the reach of a step from an open cell
pub lowers-grown : (graph : Graph) (rest : ℕ → ℕ) (v from : ℕ) (step : Step) (before after : Frontier) → HasCosts graph →
    IsSearching graph rest (labels_of before) before.queue.pairs v → labels_of before v ≡ Some from → IsStepFrom graph rest v step →
    step.cell < length before.labels.costs.items → from + step.cost ≤ most_distance → Lowers (from + step.cost) step before after →
    (Grown graph rest v from before after) × (labels_of after step.cell ≡ Some (from + step.cost))
lowers-grown graph rest v from step before after costs searching is of_graph inside small lowers =
    let cost = from + step.cost in
    let key = cost + step.rest in
    let less : cost < unreached = omega arith in
    let some = costs v step.cell step.cost of_graph.taken in
    let labels = label-set before.labels.costs.items after.labels.costs.items step.cell cost inside less lowers.costs in
    let low : IsLowered (labels_of before) (labels_of after) step.cell cost before.queue.pairs after.queue.pairs key =
    record { labels = labels; lower = lowers.lower; pushed = lowers.queue.pairs } in
    let is_key : key ≡ cost + rest step.cell = omega (arith, of_graph.left) in
    let apart : v ≢ step.cell = λ same.
    let here = subst (λ (m : ℕ). labels_of before m ≡ Some from) same is in
    let h = lower-label (labels_of before step.cell) from cost here lowers.lower in absurd (omega arith) in
    let item = lower-item before.labels.costs.items step.cell cost inside lowers.lower less in
    let sums : sum (slice_set before.labels.costs.items step.cell cost) + get_or before.labels.costs.items step.cell 0 ≡ sum before.labels.costs.items + cost =
    sum_by-set (λ (x : ℕ). x) before.labels.costs.items step.cell cost 0 inside in
    let total : sum after.labels.costs.items ≡ sum (slice_set before.labels.costs.items step.cell cost) = ap (λ (xs : List ℕ). sum xs) lowers.costs in
    let count : length after.queue.pairs ≡ length ((key, step.cell) ∷ before.queue.pairs) = length_permutation ((key, step.cell) ∷ before.queue.pairs) after.queue.pairs lowers.queue.pairs in (
      record {
        searching = record {
          walked = lowered-walked graph (labels_of before) (labels_of after) step.cell cost before.queue.pairs after.queue.pairs key low searching.walked
              (Goes_on (searching.walked v from is) of_graph.taken);
          small = lowered-small (labels_of before) (labels_of after) step.cell cost before.queue.pairs after.queue.pairs key low searching.small small;
          settled = lowered-settled graph rest (labels_of before) (labels_of after) step.cell cost v before.queue.pairs after.queue.pairs key low searching is_key;
          queued = lowered-queued graph rest (labels_of before) (labels_of after) step.cell cost v before.queue.pairs after.queue.pairs key low searching is_key;
        };
        falls = lowered-falls (labels_of before) (labels_of after) step.cell cost before.queue.pairs after.queue.pairs key low;
        kept = labels v ∙ relabelled-there (labels_of before) step.cell cost v apart ∙ is;
        weight = omega (arith, sums, total, count, item);
        size = ap (λ (xs : List ℕ). length xs) lowers.costs ∙ length-set before.labels.costs.items step.cell cost;
        last = lowers.queue.last;
      },
      labels step.cell ∙ relabelled-here (labels_of before) step.cell cost step.cell refl,
    )

-- the step's end has a label as low
abbrev pub IsReached : (ℕ → Option ℕ) → ℕ → Step → Type 0
IsReached label from step = from + step.cost ≤ most_distance → IsAtMost (label step.cell) (from + step.cost)

reached-falls : (before after : ℕ → Option ℕ) (from : ℕ) (step : Step) → Falls before after → IsReached before from step → IsReached after from step
reached-falls before after from step falls reached small =
    let old = at-most (before step.cell) (from + step.cost) (reached small) in
    let new = at-most (after step.cell) old.0 (falls step.cell old.0 old.1.0) in
    let a = old.1.1 in
    let b = new.1.1 in
    make-at-most (after step.cell) new.0 (from + step.cost) new.1.0 (omega arith)

kept-reached : (before after : ℕ → Option ℕ) (from : ℕ) (step : Option Step) → Falls before after → IfSome step (IsReached before from) → IfSome step (IsReached after from)
kept-reached before after from None falls reached = tt
kept-reached before after from (Some step) falls reached = reached-falls before after from step falls reached

reach-if : (graph : Graph) (rest : ℕ → ℕ) (v from : ℕ) (step : Step) (before after : Frontier) (does : Bool) → does_lower (from + step.cost) step before ≡ does → HasCosts graph →
    IsSearching graph rest (labels_of before) before.queue.pairs v → labels_of before v ≡ Some from → IsStepFrom graph rest v step →
    step.cell < length before.labels.costs.items → IsReachIf does (from + step.cost) step before after →
    (Grown graph rest v from before after) × IsReached (labels_of after) from step
reach-if graph rest v from step before after true does costs searching is of_graph inside reach =
    let small : from + step.cost ≤ most_distance = grind (arith, nat_tests) in
    let grown = lowers-grown graph rest v from step before after costs searching is of_graph inside small reach in
    (grown.0, λ _. make-at-most (labels_of after step.cell) (from + step.cost) (from + step.cost) grown.1 (omega arith))
reach-if graph rest v from step before after false does costs searching is of_graph inside reach = (
  stands-grown graph rest v from before after searching is reach,
  λ small.
      let within : nat_le (from + step.cost) most_distance ≡ true = grind (arith, nat_tests) in
      let not_lower : is_lower (labels_of before step.cell) (from + step.cost) ≡ false = sym (ap (λ b. b && is_lower (labels_of before step.cell) (from + step.cost)) within) ∙ does in
      let old = not-lower (labels_of before step.cell) (from + step.cost) not_lower in
      make-at-most (labels_of after step.cell) old.0 (from + step.cost) (stands-labels before after reach step.cell ∙ old.1.0) (old.1.1),
)

-- each of these steps, where there is one
abbrev pub AllSteps : (Step → Type 0) → List (Option Step) → Type 0
AllSteps P [] = Unit {0}
AllSteps P (step ∷ steps) = IfSome step P × AllSteps P steps

-- a step from the cell to one of the window's
abbrev pub CanTake : Graph → (ℕ → ℕ) → ℕ → ℕ → Step → Type 0
CanTake graph rest size v step = IsStepFrom graph rest v step × (step.cell < size)

grown-again : (graph : Graph) (rest : ℕ → ℕ) (v from : ℕ) (before between after : Frontier) → Grown graph rest v from before between → Grown graph rest v from between after →
    Grown graph rest v from before after
grown-again graph rest v from before between after first second = record {
  searching = second.searching;
  falls = λ n cost is.
      let mid = at-most (labels_of between n) cost (first.falls n cost is) in
      let end = at-most (labels_of after n) mid.0 (second.falls n mid.0 mid.1.0) in
      let a = mid.1.1 in
      let b = end.1.1 in
      make-at-most (labels_of after n) end.0 cost end.1.0 (omega arith);
  kept = second.kept;
  weight = omega (arith, first.weight, second.weight);
  size = second.size ∙ first.size;
  last = second.last ∙ first.last;
}

reach-one : (graph : Graph) (rest : ℕ → ℕ) (v from size : ℕ) (step : Option Step) (before after : Frontier) → HasCosts graph →
    IsSearching graph rest (labels_of before) before.queue.pairs v → labels_of before v ≡ Some from → length before.labels.costs.items ≡ size →
    IfSome step (CanTake graph rest size v) → IsReach from step before after →
    (Grown graph rest v from before after) × IfSome step (IsReached (labels_of after) from)
reach-one graph rest v from size None before after costs searching is all can reach = (stands-grown graph rest v from before after searching is reach, tt)
reach-one graph rest v from size (Some step) before after costs searching is all can reach =
    let inside = can.1 in
    reach-if graph rest v from step before after (does_lower (from + step.cost) step before) refl costs searching is can.0 (omega arith) reach

pub reach-all : (graph : Graph) (rest : ℕ → ℕ) (v from size : ℕ) (steps : List (Option Step)) (before after : Frontier) → HasCosts graph →
    IsSearching graph rest (labels_of before) before.queue.pairs v → labels_of before v ≡ Some from → length before.labels.costs.items ≡ size →
    AllSteps (CanTake graph rest size v) steps → AreReaches from steps before after →
    (Grown graph rest v from before after) × AllSteps (IsReached (labels_of after) from) steps
reach-all graph rest v from size [] before after costs searching is all can reaches = (stands-grown graph rest v from before after searching is reaches, tt)
reach-all graph rest v from size (step ∷ []) before after costs searching is all can reaches =
    let one = reach-one graph rest v from size step before after costs searching is all can.0 reaches in (one.0, (one.1, tt))
reach-all graph rest v from size (step ∷ next ∷ steps) before after costs searching is all can reaches =
    let between = reaches.0 in
    let one = reach-one graph rest v from size step before between costs searching is all can.0 reaches.1.0 in
    let more = reach-all graph rest v from size (next ∷ steps) between after costs one.0.searching one.0.kept (one.0.size ∙ all) can.1 reaches.1.1 in
    (grown-again graph rest v from before between after one.0 more.0, (kept-reached (labels_of between) (labels_of after) from step more.0.falls one.1, more.1))

seed-if : (graph : Graph) (rest : ℕ → ℕ) (open_cell : ℕ) (step : Step) (before after : Frontier) (does : Bool) → does_lower (0 + step.cost) step before ≡ does →
    IsSearching graph rest (labels_of before) before.queue.pairs open_cell → IsTrue (graph.source step.cell) → step.cost ≡ 0 → step.rest ≡ rest step.cell →
    step.cell < length before.labels.costs.items → IsReachIf does (0 + step.cost) step before after →
    IsSearching graph rest (labels_of after) after.queue.pairs open_cell
seed-if graph rest open_cell step before after true does searching source free left inside lowers =
    let cost = 0 + step.cost in
    let key = cost + step.rest in
    let less : cost < unreached = omega arith in
    let labels = label-set before.labels.costs.items after.labels.costs.items step.cell cost inside less lowers.costs in
    let low : IsLowered (labels_of before) (labels_of after) step.cell cost before.queue.pairs after.queue.pairs key =
    record { labels = labels; lower = lowers.lower; pushed = lowers.queue.pairs } in
    let is_key : key ≡ cost + rest step.cell = omega (arith, left) in
    let none : 0 ≡ cost = omega arith in
    let P : ℕ → Type 0 = λ c. Reaches graph step.cell c in
    record {
      walked = lowered-walked graph (labels_of before) (labels_of after) step.cell cost before.queue.pairs after.queue.pairs key low searching.walked (subst P none (Starts source));
      small = lowered-small (labels_of before) (labels_of after) step.cell cost before.queue.pairs after.queue.pairs key low searching.small (omega arith);
      settled = lowered-settled graph rest (labels_of before) (labels_of after) step.cell cost open_cell before.queue.pairs after.queue.pairs key low searching is_key;
      queued = lowered-queued graph rest (labels_of before) (labels_of after) step.cell cost open_cell before.queue.pairs after.queue.pairs key low searching is_key;
    }
seed-if graph rest open_cell step before after false does searching source free left inside stands =
    let P : List ℕ → QueueView → Type 0 = λ xs q. IsSearching graph rest (label_at xs) q.pairs open_cell in
    let P1 : List ℕ → Type 0 = λ xs. P xs before.queue in
    let P2 : QueueView → Type 0 = λ q. P after.labels.costs.items q in
    subst P2 (sym stands.queue) (subst P1 (sym stands.costs) searching)

-- a source is reached with cost 0
pub seed-grown : (graph : Graph) (rest : ℕ → ℕ) (open_cell : ℕ) (step : Step) (before after : Frontier) →
    IsSearching graph rest (labels_of before) before.queue.pairs open_cell → IsTrue (graph.source step.cell) → step.cost ≡ 0 → step.rest ≡ rest step.cell →
    step.cell < length before.labels.costs.items → IsReach 0 (Some step) before after →
    IsSearching graph rest (labels_of after) after.queue.pairs open_cell
seed-grown graph rest open_cell step before after searching source free left inside reach =
    seed-if graph rest open_cell step before after (does_lower (0 + step.cost) step before) refl searching source free left inside reach

low-if : (step : Step) (before after : Frontier) (does : Bool) → does_lower (0 + step.cost) step before ≡ does → step.cost ≡ 0 → step.cell < length before.labels.costs.items →
    IsReachIf does (0 + step.cost) step before after → (Falls (labels_of before) (labels_of after)) × (labels_of after step.cell ≡ Some 0)
low-if step before after true does free inside lowers =
    let cost = 0 + step.cost in
    let less : cost < unreached = omega arith in
    let labels = label-set before.labels.costs.items after.labels.costs.items step.cell cost inside less lowers.costs in
    let low : IsLowered (labels_of before) (labels_of after) step.cell cost before.queue.pairs after.queue.pairs (cost + step.rest) =
    record { labels = labels; lower = lowers.lower; pushed = lowers.queue.pairs } in
    let none : 0 ≡ cost = omega arith in (
      lowered-falls (labels_of before) (labels_of after) step.cell cost before.queue.pairs after.queue.pairs (cost + step.rest) low,
      labels step.cell ∙ relabelled-here (labels_of before) step.cell cost step.cell refl ∙ ap (λ (c : ℕ). Some c) (sym none),
    )
low-if step before after false does free inside stands =
    let within : nat_le (0 + step.cost) most_distance ≡ true = let e : 0 + step.cost ≤ most_distance = omega arith in grind (arith, nat_tests) in
    let not_lower : is_lower (labels_of before step.cell) (0 + step.cost) ≡ false = sym (ap (λ b. b && is_lower (labels_of before step.cell) (0 + step.cost)) within) ∙ does in
    let old = not-lower (labels_of before step.cell) (0 + step.cost) not_lower in
    let at = old.1.1 in
    let none : old.0 ≡ 0 = omega arith in (
      λ n cost is. make-at-most (labels_of after n) cost cost (stands-labels before after stands n ∙ is) (omega arith),
      stands-labels before after stands step.cell ∙ old.1.0 ∙ ap (λ (c : ℕ). Some c) none,
    )

-- and has label 0 then
pub seed-low : (step : Step) (before after : Frontier) → step.cost ≡ 0 → step.cell < length before.labels.costs.items → IsReach 0 (Some step) before after →
    (Falls (labels_of before) (labels_of after)) × (labels_of after step.cell ≡ Some 0)
seed-low step before after free inside reach = low-if step before after (does_lower (0 + step.cost) step before) refl free inside reach

-- labels that fall keep sources at 0
pub sources-fall : (before after : ℕ → Option ℕ) (n : ℕ) → Falls before after → before n ≡ Some 0 → after n ≡ Some 0
sources-fall before after n falls is =
    let low = at-most (after n) 0 (falls n 0 is) in
    let h = low.1.1 in
    let none : low.0 ≡ 0 = omega arith in
    low.1.0 ∙ ap (λ (c : ℕ). Some c) none

-- what is taken out of the queue
pub record IsTaken (key cell : ℕ) (pairs after : List (ℕ × ℕ)) : Type 0 where
  pub moved : IsPermutation pairs ((key, cell) ∷ after)
  pub least : All (λ (p : ℕ × ℕ). key ≤ p.0) after

pub taken-label : (graph : Graph) (rest : ℕ → ℕ) (label : ℕ → Option ℕ) (pairs after : List (ℕ × ℕ)) (open_cell key cell : ℕ) →
    IsSearching graph rest label pairs open_cell → IsTaken key cell pairs after →
    IsSomeAnd (label cell) (λ c. c + rest cell ≤ key)
taken-label graph rest label pairs after open_cell key cell searching taken =
    searching.queued key cell (Contains-permutation ((key, cell) ∷ after) pairs (key, cell) (IsPermutation-sym pairs ((key, cell) ∷ after) taken.moved) (contains-head (key, cell) after))

left-contains : (pairs after : List (ℕ × ℕ)) (pair other : ℕ × ℕ) → IsPermutation pairs (pair ∷ after) → Contains after other → Contains pairs other
left-contains pairs after pair other moved h = Contains-permutation (pair ∷ after) pairs other (IsPermutation-sym pairs (pair ∷ after) moved) (contains-more pair other after h)

waits-still : (pairs after : List (ℕ × ℕ)) (pair other : ℕ × ℕ) → IsPermutation pairs (pair ∷ after) → Contains pairs other → (pair ≡ other) ⊎ Contains after other
waits-still pairs after pair other moved h = contains-cases pair other after (Contains-permutation pairs (pair ∷ after) other moved h)

-- an entry of a label that has fallen since is dropped
pub stale-taken : (graph : Graph) (rest : ℕ → ℕ) (label : ℕ → Option ℕ) (pairs after : List (ℕ × ℕ)) (open_cell key cell cost : ℕ) →
    IsSearching graph rest label pairs open_cell → IsTaken key cell pairs after → label cell ≡ Some cost → cost + rest cell < key →
    IsSearching graph rest label after open_cell
stale-taken graph rest label pairs after open_cell key cell cost searching taken is stale = record {
  walked = searching.walked;
  small = searching.small;
  settled = λ v found has other.
      elim (searching.settled v found has other) [
        | inl waits ↦ elim (waits-still pairs after (key, cell) (found + rest v, v) taken.moved waits) [
          | inl same ↦
              let parts = pair-parts key cell (found + rest v) v same in
              let e : found ≡ cost = same_Some found cost (sym has ∙ ap label (sym (parts.1)) ∙ is) in
              let r = ap (λ (m : ℕ). rest m) (parts.1) in
              absurd (omega (arith, parts.0, r))
          | inr more ↦ inl more
        ]
        | inr relaxed ↦ inr relaxed
      ];
  queued = λ k v waits. searching.queued k v (left-contains pairs after (key, cell) (k, v) taken.moved waits);
}

-- a cell whose entry is taken is open
pub open-taken : (graph : Graph) (rest : ℕ → ℕ) (label : ℕ → Option ℕ) (pairs after : List (ℕ × ℕ)) (nowhere key cell : ℕ) →
    IsSearching graph rest label pairs nowhere → label nowhere ≡ None → IsTaken key cell pairs after →
    IsSearching graph rest label after cell
open-taken graph rest label pairs after nowhere key cell searching none taken = record {
  walked = searching.walked;
  small = searching.small;
  settled = λ v found has other.
      elim (searching.settled v found has (λ same. none-some found (sym (ap label same ∙ none) ∙ has))) [
        | inl waits ↦ elim (waits-still pairs after (key, cell) (found + rest v, v) taken.moved waits) [
          | inl same ↦ absurd (other (sym ((pair-parts key cell (found + rest v) v same).1)))
          | inr more ↦ inl more
        ]
        | inr relaxed ↦ inr relaxed
      ];
  queued = λ k v waits. searching.queued k v (left-contains pairs after (key, cell) (k, v) taken.moved waits);
}

-- a relaxed cell is closed
pub close-relaxed : (graph : Graph) (rest : ℕ → ℕ) (label : ℕ → Option ℕ) (pairs : List (ℕ × ℕ)) (nowhere cell from : ℕ) →
    IsSearching graph rest label pairs cell → label cell ≡ Some from → IsRelaxed graph label cell from → IsSearching graph rest label pairs nowhere
close-relaxed graph rest label pairs nowhere cell from searching is relaxed = record {
  walked = searching.walked;
  small = searching.small;
  settled = λ v found has _.
      elim (cases_eq v cell) [
        | inl same ↦
            let e : from ≡ found = same_Some from found (sym is ∙ ap label (sym same) ∙ has) in
            let P : ℕ → Type 0 = λ c. IsRelaxed graph label v c in
            let Q : ℕ → Type 0 = λ u. IsRelaxed graph label u from in
            inr (subst P e (subst Q (sym same) relaxed))
        | inr other ↦ searching.settled v found has other
      ];
  queued = searching.queued;
}

-- once the least key that waits is above the bound, labels are distances up to it
pub stop-guided : (graph : Graph) (rest : ℕ → ℕ) (label : ℕ → Option ℕ) (pairs : List (ℕ × ℕ)) (nowhere bound : ℕ) → IsConsistent graph rest →
    IsSearching graph rest label pairs nowhere → label nowhere ≡ None → HasSources graph label → bound ≤ most_distance →
    ((key cell : ℕ) → Contains pairs (key, cell) → bound < key) → AreGuided graph rest label bound
stop-guided graph rest label pairs nowhere bound consistent searching none sources small above = record {
  sources = sources;
  walked = searching.walked;
  relaxed = λ u v cost k is taken near.
      let falls = consistent u v k taken in
      elim (searching.settled u cost is (λ same. none-some cost (sym (ap label same ∙ none) ∙ is))) [
        | inl waits ↦ let h = above (cost + rest u) u waits in absurd (omega arith)
        | inr relaxed ↦ relaxed v k taken (omega arith)
      ];
}

-- what stands at each turn of the search
pub record IsTurn (graph : Graph) (rest : ℕ → ℕ) (marks : List Bool) (size : ℕ) (nearest : Option ℕ) (front : Frontier) : Type 0 where
  pub size_is : length front.labels.costs.items ≡ size
  pub sources : HasSources graph (labels_of front)
  pub searching : IsSearching graph rest (labels_of front) front.queue.pairs size
  pub goal : IfSome nearest (HasGoal marks (labels_of front))
  pub near : IfSome nearest (λ distance. distance ≤ most_distance)
