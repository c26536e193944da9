-- Walks on a graph with costs: distances, the first goal, and the way back from it.
use Rattle.std.specs.Prelude.{◌≡◌, ℕ, ◌+◌, ◌≤◌, Bool, false, List, [], ◌∷◌, Option, Some, IsTrue}
use Rattle.gr_base.specs.Trees.{is_among}

-- from which cells walks begin, and what a step from one cell to another costs, if there is one
pub record Graph : Type 0 where
  pub source : ℕ → Bool
  pub step : ℕ → ℕ → Option ℕ

-- a walk of this cost leads from a source to the cell
pub data Reaches (graph : Graph) : ℕ → ℕ → Type 0 where
  Starts : {v : ℕ} → IsTrue (graph.source v) → Reaches graph v 0
  Goes_on : {u v cost k : ℕ} → Reaches graph u cost → graph.step u v ≡ Some k → Reaches graph v (cost + k)

-- the distance of a cell is the least cost of all walks to it
pub record IsDistance (graph : Graph) (v d : ℕ) : Type 0 where
  pub reached : Reaches graph v d
  pub least : (cost : ℕ) → Reaches graph v cost → d ≤ cost

-- the goal of least distance, and of these the least-numbered
pub record IsFirstGoal (graph : Graph) (goals : List ℕ) (goal : ℕ) : Type 0 where
  pub among : IsTrue (is_among goals goal)
  pub distance : ℕ
  pub is_distance : IsDistance graph goal distance
  pub nearest : (other d : ℕ) → IsTrue (is_among goals other) → IsDistance graph other d → distance ≤ d
  pub first : (other : ℕ) → IsTrue (is_among goals other) → IsDistance graph other distance → goal ≤ other

-- a step from u to v costs what their distances differ by
pub record IsBack (graph : Graph) (v u : ℕ) : Type 0 where
  pub distance : ℕ
  pub cost : ℕ
  pub taken : graph.step u v ≡ Some cost
  pub of_u : IsDistance graph u distance
  pub of_v : IsDistance graph v (distance + cost)

-- u is the least-numbered such cell
pub record IsFirstBack (graph : Graph) (v u : ℕ) : Type 0 where
  pub is_back : IsBack graph v u
  pub first : (other : ℕ) → IsBack graph v other → u ≤ other

-- each cell that is no source is followed by the first one back, and the last is a source
abbrev pub LeadsBack : Graph → List ℕ → Type 0
LeadsBack graph [] = ⊥
LeadsBack graph (last ∷ []) = IsTrue (graph.source last)
LeadsBack graph (v ∷ u ∷ rest) = (graph.source v ≡ false) × (IsFirstBack graph v u × LeadsBack graph (u ∷ rest))

-- the least walk from the first goal back to its first source
pub record IsLeastWalk (graph : Graph) (goals walk : List ℕ) : Type 0 where
  pub goal : ℕ
  pub rest : List ℕ
  pub begins : walk ≡ goal ∷ rest
  pub first_goal : IsFirstGoal graph goals goal
  pub leads_back : LeadsBack graph walk
