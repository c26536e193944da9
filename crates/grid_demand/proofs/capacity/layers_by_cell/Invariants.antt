use Rattle.std.proofs.Common.{◌≡◌, ℕ, ◌*◌, map}
use Rattle.std.specs.List.{range_with_len}
use Rattle.gr_base.specs.Grid.{place_at}
use Rattle.grid_demand.proofs.capacity.layers_by_cell.Given as goal

abbrev pub invariant-loop-layer : goal.invariant-loop-layer
invariant-loop-layer l =
    l.layers.items ≡ map (λ (cell : ℕ). (place_at l.fn.shape cell).layer) (range_with_len 0 (l.layer * (l.fn.shape.columns * l.fn.shape.rows)))
