use Rattle.std.proofs.Common.{ℕ, ◌+◌, ◌*◌, [], arith}
use Rattle.std.specs.Vec.{vec_len}
use Rattle.gr_base.specs.Grid.{place_at}
use Rattle.grid_demand.proofs.CapacityLemmas.{layer-of, layers-more}
use Rattle.grid_demand.proofs.capacity.layers_by_cell.Goals as goal

pub loop-layer-preserved : goal.loop-layer-preserved
loop-layer-preserved c =
    let old = c.loop-layer.layers in
    let g = c.args.shape in
    layers-more (λ (cell : ℕ). (place_at g cell).layer) c.loop-layer.layer (g.columns * g.rows) c.loop-layer.layer (c.len.result + c.cells_a_layer-cells.result) (vec_len old)
    c.cells_a_layer-cells.result [] old.items c.resize.new.self.items (omega (arith, old.ok.0)) (omega (arith, c.len.ensures, old.ok.0)) c.cells_a_layer-cells.ensures
    c.in_ok-resize.ensures.items (λ tile below. layer-of g c.loop-layer.layer tile below) c.loop-layer.invariant
