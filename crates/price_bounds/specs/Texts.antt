-- The lines of bounds by prices.
use Rattle.std.specs.Prelude.{ℕ, ◌+◌, ◌^◌, ◌<◌, ◌≤◌, List, ◌++◌, codes}
use Rattle.gr_base.specs.Designs.{DesignView}
use Rattle.gr_base.specs.EdgeSets.{Edges}
use Rattle.gr_base.specs.Sums.{total_over, wirelength}
use Rattle.gr_text.specs.Lines.{number_line}
use Rattle.wall_laws.specs.Spans.{AreUsable}
use Rattle.wall_laws.specs.Walls.{JoinNets}

-- the lines
abbrev pub prices_text : (over length both : ℕ) → List ℕ
prices_text over length both =
    number_line (codes "overflow by prices at least") over ++
    number_line (codes "usable wirelength without overflow at least") length ++
    number_line (codes "usable wirelength and overflow at least") both

-- what no edge sets that join the routed nets are below in overflow, and along usable edges in wirelength
pub record IsFloor (d : DesignView) (via_cost floor_over floor_length : ℕ) : Type 0 where
  pub overflow : (sets : ℕ → Edges) → JoinNets d sets → floor_over ≤ total_over d sets
  pub along_usable : (sets : ℕ → Edges) → JoinNets d sets → AreUsable d sets → floor_length ≤ wirelength d via_cost sets

-- figures are at least others: the last one the sum of both, if that can be told
pub record AreAtLeast (floor_over floor_length over length both : ℕ) : Type 0 where
  pub overflow : floor_over ≤ over
  pub without_overflow : floor_length ≤ length
  pub together : floor_over + floor_length < 2 ^ 128 → floor_over + floor_length ≤ both
