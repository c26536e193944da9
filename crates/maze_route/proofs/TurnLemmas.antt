-- The turns of a search.
use Rattle.std.proofs.Common.{◌≡◌, ℕ, ◌+◌, ◌<◌, ◌≤◌, inl, inr, Bool, true, false, List, [], ◌∷◌, length, Option, Some, None, IfSome, IsSome, IsSomeAnd, Contains, get_or, if◌then◌else◌, refl, sym, ap, subst, ◌∙◌, arith}
use Rattle.std.proofs.lemmas.Bool.{both_ways}
use Rattle.std.proofs.lemmas.Bool.Decides.{nat_tests}
use Rattle.std.proofs.lemmas.Option.{same_Some, slice_get_past}
use Rattle.std.proofs.lemmas.List.Elements.{All-contains}
use Rattle.std.proofs.lemmas.List.Sorted.{Contains-permutation, length_permutation}
use Rattle.cost_rules.specs.Prices.{ArePrices}
use Rattle.gr_base.specs.declared.grid.Cell.{Cell}
use Rattle.gr_base.specs.declared.grid.Edge.{Edge}
use Rattle.gr_base.specs.declared.grid.Shape.{Shape}
use Rattle.gr_base.specs.declared.grid.Way.{Way}
use Rattle.gr_base.specs.Trees.{TreeView}
use Rattle.maze_route.specs.Labels.{label_from}
use Rattle.maze_route.specs.Queues.{QueueView, IsPopped}
use Rattle.maze_route.specs.Search.{most_distance, IsConsistent, is_marked, HasGoal, CanReach, Finds, is_above}
use Rattle.maze_route.specs.Handing.{HandsOn}
use Rattle.maze_route.specs.Steps.{size_of, pane_graph, rest_of, least_to, IsSpot}
use Rattle.maze_route.specs.Walks.{Graph}
use Rattle.maze_route.specs.declared.front.Frontier.{Frontier}
use Rattle.maze_route.specs.declared.pane.Pane.{Pane}
use Rattle.maze_route.specs.declared.pane.Spot.{Spot}
use Rattle.maze_route.specs.declared.pane.Aim.{Aim}
use Rattle.maze_route.proofs.Distances.{at-most, make-at-most, guided-low}
use Rattle.maze_route.proofs.LabelLemmas.{label-within, contains-cases}
use Rattle.maze_route.proofs.SearchLemmas.{labels_of, weight_of, Falls, IsTurn, IsTaken, taken-label, stale-taken, open-taken, close-relaxed, stop-guided, sources-fall}
use Rattle.maze_route.proofs.HandingLemmas.{spread-grown}

-- the frontier once a pair is taken
abbrev pub left_of : Frontier → QueueView → Frontier
left_of front queue = record { labels = front.labels; queue = queue }

taken-by : (key cell : ℕ) (before after : QueueView) → IsPopped key cell before after → IsTaken key cell before.pairs after.pairs
taken-by key cell before after popped = record { moved = popped.pairs; least = popped.least }

no-label : (front : Frontier) (size : ℕ) → length front.labels.costs.items ≡ size → labels_of front size ≡ None
no-label front size all = ap label_from (slice_get_past front.labels.costs.items size (omega arith))

some-label : (o : Option ℕ) (rest key : ℕ) → IsSomeAnd o (λ c. c + rest ≤ key) → (cost : ℕ) × ((o ≡ Some cost) × (cost + rest ≤ key))
some-label None rest key h = absurd h
some-label (Some cost) rest key h = (cost, (refl, h))

-- the cell that is taken has a label, no higher than its key says
pub record HasLabel (front : Frontier) (rest : ℕ → ℕ) (size key cell : ℕ) : Type 0 where
  pub cost : ℕ
  pub is : labels_of front cell ≡ Some cost
  pub low : cost + rest cell ≤ key
  pub small : cost ≤ most_distance
  pub inside : cell < size

pub taken-has : (graph : Graph) (rest : ℕ → ℕ) (marks : List Bool) (size : ℕ) (nearest : Option ℕ) (front : Frontier) (key cell : ℕ) (queue : QueueView) →
    IsTurn graph rest marks size nearest front → IsPopped key cell front.queue queue → HasLabel front rest size key cell
taken-has graph rest marks size nearest front key cell queue turn popped =
    let label = some-label (labels_of front cell) (rest cell) key
    (taken-label graph rest (labels_of front) front.queue.pairs queue.pairs size key cell turn.searching (taken-by key cell front.queue queue popped)) in
    let within = label-within front.labels.costs.items cell label.0 label.1.0 in
    let all = turn.size_is in
    record { cost = label.0; is = label.1.0; low = label.1.1; small = turn.searching.small cell label.0 label.1.0; inside = omega arith }

pub is-some : (o : Option ℕ) (x : ℕ) → o ≡ Some x → IsSome o
is-some o x is = subst (λ (p : Option ℕ). IsSome p) (sym is) refl

weight-less : (front : Frontier) (queue : QueueView) (key cell : ℕ) → IsPopped key cell front.queue queue → weight_of (left_of front queue) < weight_of front
weight-less front queue key cell popped =
    let count : length ((key, cell) ∷ queue.pairs) ≡ length front.queue.pairs = length_permutation front.queue.pairs ((key, cell) ∷ queue.pairs) popped.pairs in
    omega (arith, count)

-- the turn of a stale pair
pub stale-turn : (graph : Graph) (rest : ℕ → ℕ) (marks : List Bool) (size : ℕ) (nearest : Option ℕ) (front : Frontier) (key cell cost : ℕ) (queue : QueueView) →
    IsTurn graph rest marks size nearest front → IsPopped key cell front.queue queue → labels_of front cell ≡ Some cost → cost + rest cell < key →
    (IsTurn graph rest marks size nearest (left_of front queue)) × (weight_of (left_of front queue) < weight_of front)
stale-turn graph rest marks size nearest front key cell cost queue turn popped is stale = (
  record {
    size_is = turn.size_is;
    sources = turn.sources;
    searching = stale-taken graph rest (labels_of front) front.queue.pairs queue.pairs size key cell cost turn.searching (taken-by key cell front.queue queue popped) is stale;
    goal = turn.goal;
    near = turn.near;
  },
  weight-less front queue key cell popped,
)

-- the nearest goal keeps a label as low
goal-falls : (marks : List Bool) (before after : ℕ → Option ℕ) (most : ℕ) → Falls before after → HasGoal marks before most → HasGoal marks after most
goal-falls marks before after most falls has =
    let old = at-most (before has.goal) most has.low in
    let new = at-most (after has.goal) old.0 (falls has.goal old.0 old.1.0) in
    let a = old.1.1 in
    let b = new.1.1 in
    record { goal = has.goal; marked = has.marked; low = make-at-most (after has.goal) new.0 most new.1.0 (omega arith) }

next-goal : (marks : List Bool) (before after : ℕ → Option ℕ) (nearest next : Option ℕ) (marked : Bool) (key cell cost : ℕ) →
    Falls before after → before cell ≡ Some cost → cost ≤ key → is_marked marks cell ≡ marked → next ≡ (if marked then Some key else nearest) →
    IfSome nearest (HasGoal marks before) → IfSome next (HasGoal marks after)
next-goal marks before after nearest next true key cell cost falls is low marked is_next goal =
    let P : Option ℕ → Type 0 = λ o. IfSome o (HasGoal marks after) in
    let new = at-most (after cell) cost (falls cell cost is) in
    let b = new.1.1 in
    subst P (sym is_next) (record { goal = cell; marked = marked; low = make-at-most (after cell) new.0 key new.1.0 (omega arith) })
next-goal marks before after None next false key cell cost falls is low marked is_next goal =
    let P : Option ℕ → Type 0 = λ o. IfSome o (HasGoal marks after) in subst P (sym is_next) tt
next-goal marks before after (Some most) next false key cell cost falls is low marked is_next goal =
    let P : Option ℕ → Type 0 = λ o. IfSome o (HasGoal marks after) in subst P (sym is_next) (goal-falls marks before after most falls goal)

next-near : (nearest next : Option ℕ) (marked : Bool) (key : ℕ) → next ≡ (if marked then Some key else nearest) → (marked ≡ true → key ≤ most_distance) →
    IfSome nearest (λ distance. distance ≤ most_distance) → IfSome next (λ distance. distance ≤ most_distance)
next-near nearest next true key is_next small near = let P : Option ℕ → Type 0 = λ o. IfSome o (λ distance. distance ≤ most_distance) in subst P (sym is_next) (small refl)
next-near nearest next false key is_next small near = let P : Option ℕ → Type 0 = λ o. IfSome o (λ distance. distance ≤ most_distance) in subst P (sym is_next) near

-- a spot's distance is its cell's
pub spot-rest : (p : Pane) (aim : Aim) (spot : Spot) (cell rest : ℕ) → IsSpot p spot → spot.local ≡ cell → rest ≡ least_to aim spot.place → rest ≡ rest_of p aim cell
spot-rest p aim spot cell rest is local tiles =
    let f : Cell → ℕ = λ q. least_to aim q in
    tiles ∙ ap f is.place ∙ ap (λ (n : ℕ). rest_of p aim n) local

-- the turn of a pair whose cell, at this spot, is settled
pub settled-turn : (p : Pane) (t : TreeView) (grid : Shape) (ways : ℕ → Way → Bool) (price : Edge → Option ℕ) (aim : Aim) (marks : List Bool) (nearest next : Option ℕ)
    (front after : Frontier) (queue : QueueView) (spot : Spot) (key cell cost steps : ℕ) → grid ≡ p.grid → ArePrices grid ways price →
    IsTurn (pane_graph p t price) (rest_of p aim) marks (size_of p) nearest front → IsPopped key cell front.queue queue →
    labels_of front cell ≡ Some cost → IsSpot p spot → spot.local ≡ cell → steps ≡ least_to aim spot.place → key ≤ cost + steps →
    next ≡ (if get_or marks cell false then Some key else nearest) → ((n : ℕ) → is_marked marks n ≡ true → rest_of p aim n ≡ 0) →
    HandsOn p price aim spot.local cost (left_of front queue) after →
    (IsTurn (pane_graph p t price) (rest_of p aim) marks (size_of p) next after) × (weight_of after < weight_of front)
settled-turn p t grid ways price aim marks nearest next front after queue spot key cell cost steps on_grid given turn popped is at local steps_are due is_next aims handed =
    let prices = subst (λ (g : Shape). ArePrices g ways price) on_grid given in
    let spreads = subst (λ (n : ℕ). HandsOn p price aim n cost (left_of front queue) after) local handed in
    let rest = spot-rest p aim spot cell steps at local steps_are in
    let fresh : key ≤ cost + rest_of p aim cell = omega (arith, due, rest) in
    let marked = get_or marks cell false in
    let mark : is_marked marks cell ≡ marked = refl in
    let graph = pane_graph p t price in
    let none = no-label front (size_of p) turn.size_is in
    let opened = open-taken graph (rest_of p aim) (labels_of front) front.queue.pairs queue.pairs (size_of p) key cell turn.searching none (taken-by key cell front.queue queue popped) in
    let grown = spread-grown p t ways price aim cell cost (left_of front queue) after prices opened is turn.size_is spreads in
    let has = taken-has graph (rest_of p aim) marks (size_of p) nearest front key cell queue turn popped in
    let same : has.cost ≡ cost = same_Some has.cost cost (sym has.is ∙ is) in
    let small = has.small in
    let low = has.low in
    let less = weight-less front queue key cell popped in (
      record {
        size_is = grown.0.size ∙ turn.size_is;
        sources = λ v source. sources-fall (labels_of front) (labels_of after) v grown.0.falls (turn.sources v source);
        searching = close-relaxed graph (rest_of p aim) (labels_of after) after.queue.pairs (size_of p) cell cost grown.0.searching grown.0.kept grown.1;
        goal = next-goal marks (labels_of front) (labels_of after) nearest next marked key cell cost grown.0.falls is (omega arith) mark is_next turn.goal;
        near = next-near nearest next marked key is_next (λ yes_marked. let zero_rest = aims cell (mark ∙ yes_marked) in omega arith) turn.near;
      },
      omega (arith, grown.0.weight, less),
    )

-- the search stops at a key past the nearest goal
above-some : (nearest : Option ℕ) (key : ℕ) → is_above nearest key ≡ true → (most : ℕ) × ((nearest ≡ Some most) × (most < key))
above-some None key above = absurd (both_ways true (sym above) refl)
above-some (Some most) key above = (most, (refl, grind (arith, nat_tests)))

pub stop-turn : (graph : Graph) (rest : ℕ → ℕ) (marks : List Bool) (size : ℕ) (nearest : Option ℕ) (front : Frontier) (key cell : ℕ) (queue : QueueView) → IsConsistent graph rest →
    IsTurn graph rest marks size nearest front → IsPopped key cell front.queue queue → is_above nearest key ≡ true → Finds graph rest marks (labels_of front)
stop-turn graph rest marks size nearest front key cell queue consistent turn popped above =
    let past = above-some nearest key above in
    let most = past.0 in
    let P : Option ℕ → Type 0 = λ o. IfSome o (HasGoal marks (labels_of front)) in
    let Q : Option ℕ → Type 0 = λ o. IfSome o (λ distance. distance ≤ most_distance) in
    let goal : HasGoal marks (labels_of front) most = subst P past.1.0 turn.goal in
    let near : most ≤ most_distance = subst Q past.1.0 turn.near in
    let beyond = past.1.1 in
    record {
      bound = most;
      guided = stop-guided graph rest (labels_of front) front.queue.pairs size most consistent turn.searching (no-label front size turn.size_is) turn.sources near
          (λ k n waits.
          elim (contains-cases (key, cell) (k, n) queue.pairs (Contains-permutation front.queue.pairs ((key, cell) ∷ queue.pairs) (k, n) popped.pairs waits)) [
            | inl same ↦ let e = ap (λ (pair : ℕ × ℕ). pair.0) same in omega arith
            | inr waiting ↦ let h = All-contains (λ (pair : ℕ × ℕ). key ≤ pair.0) queue.pairs (k, n) popped.least waiting in omega arith
          ]);
      goal = goal;
    }

-- or where nothing waits
pub end-turn : (graph : Graph) (rest : ℕ → ℕ) (marks : List Bool) (size : ℕ) (nearest : Option ℕ) (front : Frontier) → IsConsistent graph rest →
    ((n : ℕ) → is_marked marks n ≡ true → rest n ≡ 0) → IsTurn graph rest marks size nearest front → front.queue.pairs ≡ [] → CanReach graph marks → Finds graph rest marks (labels_of front)
end-turn graph rest marks size nearest front consistent aims turn empty can =
    let guided = stop-guided graph rest (labels_of front) front.queue.pairs size can.cost consistent turn.searching (no-label front size turn.size_is) turn.sources can.small
    (λ k n waits.
    let P : List (ℕ × ℕ) → Type 0 = λ xs. Contains xs (k, n) in
    let nothing = subst P empty waits in
    absurd (let below = nothing.1 in omega arith)) in
    let here = aims can.goal can.marked in
    record {
      bound = can.cost;
      guided = guided;
      goal = record { goal = can.goal; marked = can.marked; low = guided-low graph rest (labels_of front) can.cost consistent guided can.goal can.cost can.walk (omega arith) };
    }
