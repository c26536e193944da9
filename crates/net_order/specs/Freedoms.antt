-- How free a net is to go another way, and in which order a worker takes the nets of a round.
use Rattle.std.specs.Prelude.{◌≡◌, ℕ, zero, suc, ◌+◌, ◌-◌, ◌*◌, ℤ, pos, neg_ℤ, ◌+ℤ◌, ◌-ℤ◌, ◌≤ℤ◌, Bool, not, ◌&&◌, ◌||◌, nat_lt, int_lt, List, length, IsSortedBy, IsTrue}
use Rattle.gr_base.specs.Designs.{DesignView, pins_at, is_routed}
use Rattle.maze_route.specs.declared.window.Window.{Window}
use Rattle.net_plan.specs.FlatTrees.{distinct_tiles}
use Rattle.net_plan.specs.Mazes.{window_of}

-- the columns less 1 and the rows less 1 of a box
abbrev pub across : Window → ℕ
across box = (box.x1 - box.x0) + (box.y1 - box.y0)

-- how far it is across the least box that holds the net's pins, less 2 for each tile with a pin
abbrev pub freedom : DesignView → ℕ → ℤ
freedom d net =
    pos (across (window_of d.frame.shape (pins_at d net) 0))
    -ℤ pos (2 * length (distinct_tiles d.frame.shape (pins_at d net)))

-- in round 0 the least free nets go first, and later the most free
abbrev pub in_round : ℕ → ℤ → ℤ
in_round zero free = free
in_round (suc round) free = neg_ℤ free

-- what rises along the turns of a round
abbrev pub turn_of : DesignView → ℕ → ℕ → ℤ
turn_of d round net = in_round round (freedom d net)

-- one net goes before another; where they are equally free, as they stand in the design
abbrev pub goes_before : DesignView → ℕ → ℕ → ℕ → Bool
goes_before d round one other =
    int_lt (turn_of d round one) (turn_of d round other)
    || (not (int_lt (turn_of d round other) (turn_of d round one)) && nat_lt one other)

-- nets stand in the order of their turns
abbrev pub GoInTurn : DesignView → ℕ → List ℕ → Type 0
GoInTurn d round nets = IsSortedBy (goes_before d round) nets

-- a number is a net's freedom, if the net is routed, and not far below 0
pub record IsOfNet (d : DesignView) (net : ℕ) (number : ℤ) : Type 0 where
  pub freedom_is : IsTrue (is_routed d net) → number ≡ freedom d net
  pub least : pos 0 ≤ℤ (number +ℤ pos 2000)
