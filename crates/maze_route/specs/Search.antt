-- What stands while labels spread from the tree, and what labels tell in the end.
use Rattle.std.specs.Prelude.{◌≡◌, ◌≢◌, ℕ, ◌+◌, ◌≤◌, ◌⊎◌, Bool, true, false, List, Option, Some, None, Contains, IsSomeAnd, IsTrue, slice_index_or, nat_lt}
use Rattle.maze_route.specs.Walks.{Graph, Reaches}

-- the greatest distance: walks that cost more are not looked for
abbrev pub most_distance : ℕ
most_distance = 1152921504606846976

-- there is a label, and it is at most this
abbrev pub IsAtMost : Option ℕ → ℕ → Type 0
IsAtMost label most = IsSomeAnd label (λ cost. cost ≤ most)

-- a bound on the rest of a walk: it falls by at most a step's cost with the step
abbrev pub IsConsistent : Graph → (ℕ → ℕ) → Type 0
IsConsistent graph rest = (u v k : ℕ) → graph.step u v ≡ Some k → rest u ≤ k + rest v

-- each step costs something
abbrev pub HasCosts : Graph → Type 0
HasCosts graph = (u v k : ℕ) → graph.step u v ≡ Some k → 1 ≤ k

-- sources have label 0
abbrev pub HasSources : Graph → (ℕ → Option ℕ) → Type 0
HasSources graph label = (v : ℕ) → IsTrue (graph.source v) → label v ≡ Some 0

-- labels are costs of walks
abbrev pub AreWalked : Graph → (ℕ → Option ℕ) → Type 0
AreWalked graph label = (v cost : ℕ) → label v ≡ Some cost → Reaches graph v cost

-- no label falls through a step from this cell
abbrev pub IsRelaxed : Graph → (ℕ → Option ℕ) → ℕ → ℕ → Type 0
IsRelaxed graph label u cost = (v k : ℕ) → graph.step u v ≡ Some k → cost + k ≤ most_distance →
    IsAtMost (label v) (cost + k)

-- labels that are distances as far as a walk and its rest come to at most the bound
pub record AreGuided (graph : Graph) (rest : ℕ → ℕ) (label : ℕ → Option ℕ) (bound : ℕ) : Type 0 where
  pub sources : HasSources graph label
  pub walked : AreWalked graph label
  pub relaxed : (u v cost k : ℕ) → label u ≡ Some cost → graph.step u v ≡ Some k → cost + k + rest v ≤ bound →
      IsAtMost (label v) (cost + k)

-- labels during the search: each labelled cell but an open one waits or is relaxed
pub record IsSearching (graph : Graph) (rest : ℕ → ℕ) (label : ℕ → Option ℕ) (pairs : List (ℕ × ℕ))
    (open_cell : ℕ) : Type 0 where
  pub walked : AreWalked graph label
  pub small : (v cost : ℕ) → label v ≡ Some cost → cost ≤ most_distance
  pub settled : (v cost : ℕ) → label v ≡ Some cost → v ≢ open_cell →
      Contains pairs (cost + rest v, v) ⊎ IsRelaxed graph label v cost
  pub queued : (key v : ℕ) → Contains pairs (key, v) → IsSomeAnd (label v) (λ cost. cost + rest v ≤ key)

-- what has this number is marked
abbrev pub is_marked : List Bool → ℕ → Bool
is_marked marks cell = slice_index_or marks cell false

-- a goal has a label of at most this
pub record HasGoal (marks : List Bool) (label : ℕ → Option ℕ) (most : ℕ) : Type 0 where
  pub goal : ℕ
  pub marked : is_marked marks goal ≡ true
  pub low : IsAtMost (label goal) most

-- a goal to which a walk leads that costs no more than is looked for
pub record CanReach (graph : Graph) (marks : List Bool) : Type 0 where
  pub goal : ℕ
  pub marked : is_marked marks goal ≡ true
  pub cost : ℕ
  pub walk : Reaches graph goal cost
  pub small : cost ≤ most_distance

-- labels from which the least walk can be read: they are distances as far as to a goal
pub record Finds (graph : Graph) (rest : ℕ → ℕ) (marks : List Bool) (label : ℕ → Option ℕ) : Type 0 where
  pub bound : ℕ
  pub guided : AreGuided graph rest label bound
  pub goal : HasGoal marks label bound

-- the key is greater than the distance, if there is one
abbrev pub is_above : Option ℕ → ℕ → Bool
is_above None key = false
is_above (Some distance) key = nat_lt distance key
