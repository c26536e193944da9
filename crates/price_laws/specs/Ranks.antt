-- How the cells that a net's edges reach are ranked from its driver on, and what is paid for edges in one direction.
use Rattle.std.specs.Prelude.{◌≡◌, ◌⊎◌, ℕ, ◌+◌, ◌-◌, ◌<◌, ◌≤◌, nat_lt, Bool, true, false, List, All, IsTrue, if◌then◌else◌}
use Rattle.gr_base.specs.Designs.{DesignView, pins_at}
use Rattle.gr_base.specs.EdgeSets.{Edges}
use Rattle.gr_base.specs.Grid.{high_of, has_edge, Joins}
use Rattle.gr_base.specs.declared.grid.Edge.{Edge}
use Rattle.gr_base.specs.declared.grid.Shape.{Shape}
use Rattle.price_laws.specs.Prices.{Prices, price, sum_of, JoinsWithin}

-- a cell is reached along an edge of the set from one of lower rank
pub record ComesFrom (g : Shape) (set : Edges) (has : ℕ → Bool) (rank : ℕ → ℕ) (cell : ℕ) : Type 0 where
  pub before : ℕ
  pub edge : Edge
  pub among : IsTrue (set edge)
  pub joins : Joins g edge before cell
  pub had : IsTrue (has before)
  pub lower : rank before < rank cell

-- some cells that are reached from the driver along edges of the set, and their ranks
pub record Ranks (g : Shape) (set : Edges) (driver : ℕ) : Type 0 where
  pub has : ℕ → Bool
  pub rank : ℕ → ℕ
  pub comes : (cell : ℕ) → IsTrue (has cell) → (cell ≡ driver) ⊎ ComesFrom g set has rank cell

-- what is asked for an edge in each direction: true is towards its high end
abbrev pub Arcs : Type 0
Arcs = Edge → Bool → ℕ

-- what is asked for an edge in the direction in which ranks rise
abbrev pub uphill : Shape → (rank : ℕ → ℕ) → Arcs → Edge → ℕ
uphill g rank arcs e = arcs e (nat_lt (rank e.low) (rank (high_of g e)))

-- how far a number falls along an edge
abbrev pub fall : Shape → (ℕ → ℕ) → Arcs
fall g level e true = level e.low - level (high_of g e)
fall g level e false = level (high_of g e) - level e.low

-- what was paid for a net so far: with what is left, in the direction in which ranks rise, it is at most the price of
-- each set that joins the pins
abbrev pub IsPaid : DesignView → Prices → (allowed : Edges) → (net driver : ℕ) → (left : Arcs) → ℕ → Type 0
IsPaid d p allowed net driver left paid =
    (set : Edges) → JoinsWithin d allowed net set → (r : Ranks d.frame.shape set driver) →
    All (λ pin. r.has pin ≡ true) (pins_at d net) →
    paid + sum_of d.frame.shape set (uphill d.frame.shape r.rank left) ≤ sum_of d.frame.shape set (price d p net)

-- what is left for the edges that may be used is at most their price, in either direction
abbrev pub IsLeft : DesignView → Prices → (allowed : Edges) → (net : ℕ) → (left : Arcs) → Type 0
IsLeft d p allowed net left =
    (e : Edge) → (up : Bool) → IsTrue (has_edge d.frame.shape e) → IsTrue (allowed e) → left e up ≤ price d p net e

-- what falls along the edges that may be used was taken of what was left
abbrev pub IsTaken : DesignView → (allowed : Edges) → (level : ℕ → ℕ) → (old new : Arcs) → Type 0
IsTaken d allowed level old new =
    (e : Edge) → (up : Bool) → IsTrue (has_edge d.frame.shape e) → IsTrue (allowed e) →
    new e up + fall d.frame.shape level e up ≤ old e up
