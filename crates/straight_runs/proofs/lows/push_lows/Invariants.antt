use Rattle.std.proofs.Common.{◌≡◌, ℕ, ◌<◌, ◌==◌, All, take}
use Rattle.std.specs.List.{list_any}
use Rattle.gr_base.specs.declared.grid.Edge.{Edge}
use Rattle.gr_base.specs.Grid.{edge_at}
use Rattle.gr_base.specs.EdgeSets.{is_edge}
use Rattle.straight_runs.proofs.lows.push_lows.Given as goal

abbrev pub invariant-loop-edge : goal.invariant-loop-edge
invariant-loop-edge l = record {
  members : (cell : ℕ) → list_any (λ low. cell == low) l.lows.items ≡ list_any (is_edge (edge_at cell l.way)) (take l.edge-index l.edges);
  within : (cells : ℕ) → All (λ (e : Edge). e.low < cells) l.edges → All (λ low. low < cells) l.lows.items;
}
