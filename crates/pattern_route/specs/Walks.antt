-- Flat walks of at most two bends, what they cost, and the first of least cost.
use Rattle.std.specs.Prelude.{◌≡◌, ℕ, ◌+◌, ◌<◌, ◌≤◌, List, [], ◌∷◌, ◌++◌, Option, All, IsTrue, IsSome, map, unwrap_or, option_and_then, nat_lt, if◌then◌else◌}
use Rattle.gr_base.specs.declared.grid.Cell.{Cell}
use Rattle.gr_base.specs.declared.grid.Edge.{Edge}
use Rattle.gr_base.specs.declared.grid.Shape.{Shape}
use Rattle.gr_base.specs.Grid.{cells_of, number_of, place_at, steps_between, AreNeighbours, edge_of, has_edge, is_wire}
use Rattle.pattern_route.specs.Steps.{onward}

-- a grid of one layer whose wire edges all have a price
pub record IsFlat (g : Shape) (price : Edge → Option ℕ) : Type 0 where
  pub level : g.layers ≡ 1
  pub priced : (e : Edge) → IsTrue (has_edge g e) → IsTrue (is_wire e) → IsSome (price e)

-- the cell of a tile
abbrev pub tile : Shape → ℕ → ℕ → ℕ
tile g x y = number_of g (record { x = x; y = y; layer = 0 })

-- along a row from one column to another, without the first
abbrev pub along_row : Shape → ℕ → ℕ → ℕ → List ℕ
along_row g y from to = map (λ x. tile g x y) (onward from to)

-- along a column from one row to another, without the first
abbrev pub along_column : Shape → ℕ → ℕ → ℕ → List ℕ
along_column g x from to = map (λ y. tile g x y) (onward from to)

-- along a's row to the column, along the column to b's row, along that row to b
abbrev pub by_column : Shape → Cell → Cell → ℕ → List ℕ
by_column g a b x = tile g a.x a.y ∷ (along_row g a.y a.x x ++ (along_column g x a.y b.y ++ along_row g b.y x b.x))

-- along a's column to the row, along the row to b's column, along that column to b
abbrev pub by_row : Shape → Cell → Cell → ℕ → List ℕ
by_row g a b y = tile g a.x a.y ∷ (along_column g a.x a.y y ++ (along_row g y a.x b.x ++ along_column g b.x y b.y))

-- the walks by each column from a's to b's, and then those by each row
abbrev pub flat_walks : Shape → Cell → Cell → List (List ℕ)
flat_walks g a b = map (by_column g a b) (a.x ∷ onward a.x b.x) ++ map (by_row g a b) (a.y ∷ onward a.y b.y)

-- what the edge between two cells costs
abbrev pub step_cost : Shape → (Edge → Option ℕ) → ℕ → ℕ → ℕ
step_cost g price u v = unwrap_or (option_and_then price (edge_of g u v)) 0

-- what it costs to go on from a cell through others
abbrev pub cost_onward : Shape → (Edge → Option ℕ) → ℕ → List ℕ → ℕ
cost_onward g price u [] = 0
cost_onward g price u (v ∷ rest) = step_cost g price u v + cost_onward g price v rest

-- the cost of a walk is the sum of its edges' costs
abbrev pub walk_cost : Shape → (Edge → Option ℕ) → List ℕ → ℕ
walk_cost g price [] = 0
walk_cost g price (u ∷ rest) = cost_onward g price u rest

-- of two walks the second where it costs less, else the first
abbrev pub cheaper : (List ℕ → ℕ) → List ℕ → List ℕ → List ℕ
cheaper cost first second = if nat_lt (cost second) (cost first) then second else first

-- the first walk of least cost of one walk and those after it
abbrev pub least_of : (List ℕ → ℕ) → List ℕ → List (List ℕ) → List ℕ
least_of cost walk [] = walk
least_of cost walk (next ∷ rest) = least_of cost (cheaper cost walk next) rest

abbrev pub first_least : (List ℕ → ℕ) → List (List ℕ) → List ℕ
first_least cost [] = []
first_least cost (walk ∷ rest) = least_of cost walk rest

-- the flat walk between two cells: the first of least cost
abbrev pub flat_walk : Shape → (Edge → Option ℕ) → ℕ → ℕ → List ℕ
flat_walk g price a b = first_least (walk_cost g price) (flat_walks g (place_at g a) (place_at g b))

-- the walk is one of the list, none costs less, and each before it costs more
pub record IsFirstLeast (cost : List ℕ → ℕ) (walks : List (List ℕ)) (walk : List ℕ) : Type 0 where
  pub before : List (List ℕ)
  pub after : List (List ℕ)
  pub split : walks ≡ before ++ walk ∷ after
  pub dearer : All (λ other. cost walk < cost other) before
  pub least : All (λ other. cost walk ≤ cost other) after

-- the last of a cell and those after it
abbrev pub last_of : ℕ → List ℕ → ℕ
last_of u [] = u
last_of u (v ∷ rest) = last_of v rest

-- each step from a cell on leads to a neighbour
abbrev pub StepsOn : Shape → ℕ → List ℕ → Type 0
StepsOn g u [] = Unit {0}
StepsOn g u (v ∷ rest) = AreNeighbours g u v × StepsOn g v rest

-- the cells lie so many steps from a cell, and one more each
abbrev pub Recedes : Shape → ℕ → ℕ → List ℕ → Type 0
Recedes g a n [] = Unit {0}
Recedes g a n (u ∷ rest) = (steps_between g a u ≡ n) × Recedes g a (n + 1) rest

-- a walk of neighbouring cells from one cell to another, each one step farther from the first than the one before
pub record IsDirect (g : Shape) (a b : ℕ) (cells : List ℕ) : Type 0 where
  pub rest : List ℕ
  pub starts : cells ≡ a ∷ rest
  pub ends : last_of a rest ≡ b
  pub inside : All (λ cell. cell < cells_of g) cells
  pub neighbours : StepsOn g a rest
  pub recedes : Recedes g a 0 cells
