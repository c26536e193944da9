-- What is counted of one net.
use Rattle.std.specs.Prelude.{◌≡◌, ◌↔◌, ℕ, List, count_by, IsTrue}
use Rattle.gr_base.specs.EdgeSets.{Edges, IsJoined}
use Rattle.gr_base.specs.Sums.{wire_edges, via_edges}
use Rattle.gr_base.specs.declared.grid.Shape.{Shape}
use Rattle.route_evaluator.specs.declared.net_count.NetCount.{NetCount}

-- how many wire edges and via edges of the grid the set has, and whether they join the pins
pub record IsCountOf (g : Shape) (set : Edges) (pins : List ℕ) (c : NetCount) : Type 0 where
  pub wires : c.wires ≡ count_by set (wire_edges g)
  pub vias : c.vias ≡ count_by set (via_edges g)
  pub joined : IsTrue c.joined ↔ IsJoined g set pins
