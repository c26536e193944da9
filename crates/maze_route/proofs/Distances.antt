-- Labels that are distances as far as a bound.
use Rattle.std.proofs.Common.{◌≡◌, ℕ, ◌+◌, ◌<◌, ◌≤◌, inl, inr, Option, Some, None, IsTrue, refl, sym, ap, subst, ◌∙◌, arith}
use Rattle.std.proofs.lemmas.Bool.{cases_lt}
use Rattle.std.proofs.lemmas.Option.{same_Some}
use Rattle.maze_route.specs.Walks.{Graph, Reaches, Starts, Goes_on, IsDistance, IsBack}
use Rattle.maze_route.specs.Search.{IsAtMost, IsConsistent, HasCosts, AreWalked, AreGuided}

-- a label that is at most a number
pub at-most : (o : Option ℕ) (most : ℕ) → IsAtMost o most → (cost : ℕ) × ((o ≡ Some cost) × (cost ≤ most))
at-most None most h = absurd h
at-most (Some cost) most h = (cost, (refl, h))

pub make-at-most : (o : Option ℕ) (cost most : ℕ) → o ≡ Some cost → cost ≤ most → IsAtMost o most
make-at-most o cost most is le = subst (λ (p : Option ℕ). IsAtMost p most) (sym is) le

-- a cell has one distance
pub one-distance : (graph : Graph) (v d e : ℕ) → IsDistance graph v d → IsDistance graph v e → d ≡ e
one-distance graph v d e one two =
    let below = one.least e two.reached in
    let above = two.least d one.reached in
    omega arith

-- a walk whose cost and rest come to at most the bound has a label as low
pub guided-low : (graph : Graph) (rest : ℕ → ℕ) (label : ℕ → Option ℕ) (bound : ℕ) → IsConsistent graph rest → AreGuided graph rest label bound →
    (v d : ℕ) → Reaches graph v d → d + rest v ≤ bound → IsAtMost (label v) d
guided-low graph rest label bound consistent guided v d (Starts source) near =
    make-at-most (label v) 0 0 (guided.sources v source) (omega arith)
guided-low graph rest label bound consistent guided v d (Goes_on {u = u} {cost = cost} {k = k} walk taken) near =
    let falls = consistent u v k taken in
    let before = at-most (label u) cost (guided-low graph rest label bound consistent guided u cost walk (omega arith)) in
    let lower = before.1.1 in
    let after = at-most (label v) (before.0 + k) (guided.relaxed u v before.0 k before.1.0 taken (omega arith)) in
    let low = after.1.1 in
    make-at-most (label v) after.0 (cost + k) after.1.0 (omega arith)

-- such labels are distances
pub guided-distance : (graph : Graph) (rest : ℕ → ℕ) (label : ℕ → Option ℕ) (bound : ℕ) → IsConsistent graph rest → AreGuided graph rest label bound →
    (v cost : ℕ) → label v ≡ Some cost → cost + rest v ≤ bound → IsDistance graph v cost
guided-distance graph rest label bound consistent guided v cost is near = record {
  reached = guided.walked v cost is;
  least = λ d walk. elim (cases_lt d cost) [
    | inl less ↦
        let found = at-most (label v) d (guided-low graph rest label bound consistent guided v d walk (omega arith)) in
        let same : found.0 ≡ cost = same_Some found.0 cost (sym found.1.0 ∙ is) in
        let low = found.1.1 in
        absurd (omega arith)
    | inr more ↦ more
  ];
}

-- the cost of a walk to a source is 0, and a walk of cost 0 ends at a source
pub source-zero : (graph : Graph) (v d : ℕ) → HasCosts graph → Reaches graph v d → d ≡ 0 → IsTrue (graph.source v)
source-zero graph v d costs (Starts source) zero_cost = source
source-zero graph v d costs (Goes_on {u = u} {k = k} walk taken) zero_cost =
    let some = costs u v k taken in absurd (omega arith)

pub distance-source : (graph : Graph) (v d : ℕ) → IsDistance graph v d → IsTrue (graph.source v) → d ≡ 0
distance-source graph v d is source = let h = is.least 0 (Starts source) in omega arith

-- the last step of a walk of some cost
pub last-step : (graph : Graph) (v d : ℕ) → Reaches graph v d → 0 < d →
    (u : ℕ) × ((cost : ℕ) × ((k : ℕ) × ((Reaches graph u cost) × ((graph.step u v ≡ Some k) × (d ≡ cost + k)))))
last-step graph v d (Starts source) some = absurd (omega arith)
last-step graph v d (Goes_on {u = u} {cost = cost} {k = k} walk taken) some = (u, (cost, (k, (walk, (taken, refl)))))

-- a step from a cell whose label and cost make up a distance comes from one whose label is its distance
pub label-back : (graph : Graph) (label : ℕ → Option ℕ) → AreWalked graph label →
    (v u cost k d : ℕ) → IsDistance graph v d → label u ≡ Some cost → graph.step u v ≡ Some k → cost + k ≡ d → IsBack graph v u
label-back graph label walked v u cost k d distance is taken sum =
    let P : ℕ → Type 0 = λ e. IsDistance graph v e in
    record {
      distance = cost;
      cost = k;
      taken = taken;
      of_u = record {
        reached = walked u cost is;
        least = λ other walk. let h = distance.least (other + k) (Goes_on walk taken) in omega arith;
      };
      of_v = subst P (sym sum) distance;
    }

-- and the other way round, as far as labels are distances
pub back-label : (graph : Graph) (rest : ℕ → ℕ) (label : ℕ → Option ℕ) (bound : ℕ) → IsConsistent graph rest → AreGuided graph rest label bound →
    (v u d : ℕ) → IsDistance graph v d → d + rest v ≤ bound → IsBack graph v u →
    (cost : ℕ) × ((k : ℕ) × ((label u ≡ Some cost) × ((graph.step u v ≡ Some k) × ((cost + k ≡ d) × (cost + rest u ≤ bound)))))
back-label graph rest label bound consistent guided v u d distance near back =
    let whole = one-distance graph v (back.distance + back.cost) d back.of_v distance in
    let falls = consistent u v back.cost back.taken in
    let found = at-most (label u) back.distance (guided-low graph rest label bound consistent guided u back.distance back.of_u.reached (omega arith)) in
    let least = back.of_u.least found.0 (guided.walked u found.0 found.1.0) in
    let most = found.1.1 in
    let same : found.0 ≡ back.distance = omega arith in
    (back.distance, (back.cost, (found.1.0 ∙ ap (λ (n : ℕ). Some n) same, (back.taken, (whole, omega arith)))))

-- a cell at some distance has a cell before it
pub some-back : (graph : Graph) (v d : ℕ) → IsDistance graph v d → 0 < d → (u : ℕ) × IsBack graph v u
some-back graph v d distance some =
    let step = last-step graph v d distance.reached some in
    let u = step.0 in
    let cost = step.1.0 in
    let k = step.1.1.0 in
    let walk = step.1.1.1.0 in
    let taken = step.1.1.1.1.0 in
    let sum = step.1.1.1.1.1 in
    let P : ℕ → Type 0 = λ e. IsDistance graph v e in (
      u,
      record {
        distance = cost;
        cost = k;
        taken = taken;
        of_u = record {
          reached = walk;
          least = λ other way. let h = distance.least (other + k) (Goes_on way taken) in omega arith;
        };
        of_v = subst P sum distance;
      },
    )
