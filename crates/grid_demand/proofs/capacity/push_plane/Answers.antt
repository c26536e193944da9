use Rattle.std.proofs.Common.{ℕ, ◌+◌, ◌*◌, ◌++◌, ap, ◌∙◌, arith}
use Rattle.std.proofs.lemmas.Bool.Decides.{nat_tests}
use Rattle.std.specs.Vec.{vec_len}
use Rattle.gr_base.specs.Capacities.{stated}
use Rattle.gr_base.specs.Grid.{edge_at}
use Rattle.gr_base.specs.declared.frame.Layer.{Layer}
use Rattle.grid_demand.specs.Tables.{stated_along_way}
use Rattle.grid_demand.proofs.CapacityLemmas.{layers-more, stated-layer, all-cells}
use Rattle.grid_demand.proofs.capacity.push_plane.Goals as goal

pub loop-layer-preserved : goal.loop-layer-preserved
loop-layer-preserved c =
    let frame = c.args.frame.now in
    let old = c.loop-layer.capacities in
    let blank : Layer = record { vertical = 0; horizontal = 0; width = 0; spacing = 0; via = 0 } in
    let few = frame.shape.valid in
    layers-more (λ (cell : ℕ). stated frame (edge_at cell c.args.way)) c.loop-layer.layer (frame.shape.columns * frame.shape.rows) c.stated_for-stated.result
    (c.len.result + c.cells_a_layer-cells.result) (vec_len old) c.cells_a_layer-cells.result c.args.capacities.now.items old.items c.resize.new.self.items
    (omega (arith, old.ok.0)) (omega (arith, c.len.ensures, old.ok.0)) c.cells_a_layer-cells.ensures c.in_ok-resize.ensures.items
    (λ tile below. stated-layer frame c.args.way c.loop-layer.layer tile c.stated_for-stated.result blank c.requires.count
    (grind (arith, nat_tests, few, c.loop-layer-test.true, c.loop-layer.auto.layer-end)) below c.stated_for-stated.ensures)
    c.loop-layer.invariant

pub returns : goal.returns
returns c =
    let all = all-cells c.args.frame.now.shape c.loop-layer.layer (omega (arith, c.loop-layer-test.false, c.loop-layer.auto.layer-end)) in
    c.loop-layer.invariant ∙ ap (λ (n : ℕ). c.args.capacities.now.items ++ stated_along_way c.args.frame.now c.args.way n) all
