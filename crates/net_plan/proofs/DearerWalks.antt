-- Least walks where steps off them only get dearer.
use Rattle.std.proofs.Common.{◌≡◌, ℕ, zero, suc, ◌+◌, ◌<◌, ◌≤◌, inl, inr, Bool, List, [], ◌∷◌, All, Option, Some, IsTrue, sym, subst, ◌∙◌, arith}
use Rattle.std.proofs.lemmas.Bool.{cases_lt}
use Rattle.std.proofs.lemmas.List.Elements.{All-head, All-tail}
use Rattle.gr_base.specs.Trees.{is_among}
use Rattle.maze_route.proofs.Distances.{one-distance, distance-source}
use Rattle.maze_route.specs.Walks.{Graph, Reaches, IsDistance, IsFirstGoal, IsBack, IsFirstBack, LeadsBack, IsLeastWalk}
use Rattle.maze_route.specs.Walks.Reaches.{Starts, Goes_on}

-- what a step costs, if there is one
abbrev pub Steps : Type 0
Steps = ℕ → ℕ → Option ℕ

-- walks from these sources by these steps
abbrev pub walks : (ℕ → Bool) → Steps → Graph
walks source step = record { source = source; step = step }

-- no step costs less by the second than by the first, and between two cells that are held each costs the same
pub record AreDearer (held : ℕ → Bool) (p q : Steps) : Type 0 where
  pub lower : (u v b : ℕ) → q u v ≡ Some b → (a : ℕ) × ((p u v ≡ Some a) × (a ≤ b))
  pub same : (u v : ℕ) → IsTrue (held u) → IsTrue (held v) → q u v ≡ p u v

-- a walk costs no less
reaches-lower : (held source : ℕ → Bool) (p q : Steps) → AreDearer held p q → (v d : ℕ) → Reaches (walks source q) v d →
    (c : ℕ) × ((Reaches (walks source p) v c) × (c ≤ d))
reaches-lower held source p q dearer v d (Starts begins) = (0, (Starts begins, omega arith))
reaches-lower held source p q dearer v d (Goes_on {u = u} {cost = cost} {k = k} walk taken) =
    let before = reaches-lower held source p q dearer u cost walk in
    let step = dearer.lower u v k taken in
    let low = before.1.1 in
    let less = step.1.1 in
    (before.0 + step.0, (Goes_on before.1.0 step.1.0, omega arith))

-- so a distance stays where a walk of its cost stays
distance-stays : (held source : ℕ → Bool) (p q : Steps) → AreDearer held p q → (v d : ℕ) → IsDistance (walks source p) v d →
    Reaches (walks source q) v d → IsDistance (walks source q) v d
distance-stays held source p q dearer v d distance walk = record {
  reached = walk;
  least = λ cost way.
      let before = reaches-lower held source p q dearer v cost way in
      let low = before.1.1 in
      let least = distance.least before.0 before.1.0 in
      omega arith;
}

-- a cell that is back by the dearer steps was so before
back-before : (held source : ℕ → Bool) (p q : Steps) → AreDearer held p q → (v d other : ℕ) → IsDistance (walks source p) v d →
    IsDistance (walks source q) v d → IsBack (walks source q) v other → IsBack (walks source p) v other
back-before held source p q dearer v d other was now back =
    let whole = one-distance (walks source q) v (back.distance + back.cost) d back.of_v now in
    let before = reaches-lower held source p q dearer other back.distance back.of_u.reached in
    let step = dearer.lower other v back.cost back.taken in
    let low = before.1.1 in
    let less = step.1.1 in
    let least = was.least (before.0 + step.0) (Goes_on before.1.0 step.1.0) in
    let sum : d ≡ before.0 + step.0 = omega arith in
    record {
      distance = before.0;
      cost = step.0;
      taken = step.1.0;
      of_u = record {
        reached = before.1.0;
        least = λ cost walk. let more = was.least (cost + step.0) (Goes_on walk step.1.0) in omega arith;
      };
      of_v = subst (λ (n : ℕ). IsDistance (walks source p) v n) sum was;
    }

-- the first cell back stays, where both cells are held
back-stays : (held source : ℕ → Bool) (p q : Steps) → AreDearer held p q → (v u : ℕ) → IsTrue (held v) → IsTrue (held u) →
    (first : IsFirstBack (walks source p) v u) → IsDistance (walks source q) u first.is_back.distance → IsFirstBack (walks source q) v u
back-stays held source p q dearer v u held_v held_u first of_u =
    let back = first.is_back in
    let taken : q u v ≡ Some back.cost = dearer.same u v held_u held_v ∙ back.taken in
    let of_v = distance-stays held source p q dearer v (back.distance + back.cost) back.of_v (Goes_on of_u.reached taken) in
    record {
      is_back = record { distance = back.distance; cost = back.cost; taken = taken; of_u = of_u; of_v = of_v };
      first = λ other is_other.
          first.first other (back-before held source p q dearer v (back.distance + back.cost) other back.of_v of_v is_other);
    }

-- a walk back over held cells stays, and so does the distance of its first cell
record Stays (source : ℕ → Bool) (q : Steps) (v d : ℕ) (rest : List ℕ) : Type 0 where
  distance : IsDistance (walks source q) v d
  leads : LeadsBack (walks source q) (v ∷ rest)

leads-stays : (held source : ℕ → Bool) (p q : Steps) → AreDearer held p q → (v d : ℕ) (rest : List ℕ) → All (λ cell. IsTrue (held cell)) (v ∷ rest) →
    IsDistance (walks source p) v d → LeadsBack (walks source p) (v ∷ rest) → Stays source q v d rest
leads-stays held source p q dearer v d [] all distance leads =
    let none = distance-source (walks source p) v d distance leads in
    record {
      distance = distance-stays held source p q dearer v d distance (subst (λ (n : ℕ). Reaches (walks source q) v n) (sym none) (Starts leads));
      leads = leads;
    }
leads-stays held source p q dearer v d (u ∷ rest) all distance leads =
    let P : ℕ → Type 0 = λ cell. IsTrue (held cell) in
    let others = All-tail P v (u ∷ rest) all in
    let first = leads.1.0 in
    let back = first.is_back in
    let below = leads-stays held source p q dearer u back.distance rest others back.of_u leads.1.1 in
    let stays = back-stays held source p q dearer v u (All-head P v (u ∷ rest) all) (All-head P u rest others) first below.distance in
    let whole = one-distance (walks source p) v (back.distance + back.cost) d back.of_v distance in
    record {
      distance = distance-stays held source p q dearer v d distance
          (subst (λ (n : ℕ). Reaches (walks source q) v n) whole (Goes_on below.distance.reached (dearer.same u v (All-head P u rest others) (All-head P v (u ∷ rest) all) ∙ back.taken)));
      leads = (leads.0, (stays, below.leads));
    }

-- no walk leads to a goal for less than the first goal's distance
none-nearer : (graph : Graph) (goals : List ℕ) (goal : ℕ) (first : IsFirstGoal graph goals goal) (bound cost other : ℕ) → cost < bound →
    cost < first.distance → IsTrue (is_among goals other) → Reaches graph other cost → ⊥
none-nearer graph goals goal first zero cost other few near among walk = omega arith
none-nearer graph goals goal first (suc bound) cost other few near among walk =
    let distance : IsDistance graph other cost = record {
      reached = walk;
      least = λ c way. elim (cases_lt c cost) [
        | inl less ↦ absurd (none-nearer graph goals goal first bound c other (omega arith) (omega arith) among way)
        | inr more ↦ more
      ];
    } in
    let nearest = first.nearest other cost among distance in
    omega arith

no-less : (graph : Graph) (goals : List ℕ) (goal : ℕ) (first : IsFirstGoal graph goals goal) (cost other : ℕ) → IsTrue (is_among goals other) →
    Reaches graph other cost → first.distance ≤ cost
no-less graph goals goal first cost other among walk = elim (cases_lt cost first.distance) [
  | inl less ↦ absurd (none-nearer graph goals goal first (cost + 1) cost other (omega arith) less among walk)
  | inr more ↦ more
]

-- the first goal stays, where its distance stays
goal-stays : (held source : ℕ → Bool) (p q : Steps) → AreDearer held p q → (goals : List ℕ) (goal : ℕ) (first : IsFirstGoal (walks source p) goals goal) →
    IsDistance (walks source q) goal first.distance → IsFirstGoal (walks source q) goals goal
goal-stays held source p q dearer goals goal first distance = record {
  among = first.among;
  distance = first.distance;
  is_distance = distance;
  nearest = λ other d among is.
      let before = reaches-lower held source p q dearer other d is.reached in
      let low = before.1.1 in
      let least = no-less (walks source p) goals goal first before.0 other among before.1.0 in
      omega arith;
  first = λ other among is.
      let before = reaches-lower held source p q dearer other first.distance is.reached in
      let low = before.1.1 in
      let least = no-less (walks source p) goals goal first before.0 other among before.1.0 in
      let same : before.0 ≡ first.distance = omega arith in
      first.first other among (record {
        reached = subst (λ (n : ℕ). Reaches (walks source p) other n) same before.1.0;
        least = λ cost walk. no-less (walks source p) goals goal first cost other among walk;
      });
}

-- the least walk stays, where its cells are held
pub least-stays : (held source : ℕ → Bool) (p q : Steps) → AreDearer held p q → (goals walk : List ℕ) → All (λ cell. IsTrue (held cell)) walk →
    IsLeastWalk (walks source p) goals walk → IsLeastWalk (walks source q) goals walk
least-stays held source p q dearer goals walk all least =
    let P : List ℕ → Type 0 = λ cells. All (λ cell. IsTrue (held cell)) cells in
    let stays = leads-stays held source p q dearer least.goal least.first_goal.distance least.rest (subst P least.begins all) least.first_goal.is_distance
    (subst (λ (cells : List ℕ). LeadsBack (walks source p) cells) least.begins least.leads_back) in
    record {
      goal = least.goal;
      rest = least.rest;
      begins = least.begins;
      first_goal = goal-stays held source p q dearer goals least.goal least.first_goal stays.distance;
      leads_back = subst (λ (cells : List ℕ). LeadsBack (walks source q) cells) (sym least.begins) stays.leads;
    }
