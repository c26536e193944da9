use Rattle.std.proofs.Common.{◌≡◌, ◌*◌, ◌<◌, subst, sym, ◌∙◌, arith}
use Rattle.gr_base.proofs.GridLemmas.{edge-low}
use Rattle.gr_base.specs.Grid.{cells_of, place_at}
use Rattle.grid_demand.specs.Tables.{CapacityView}
use Rattle.grid_demand.proofs.CapacityLemmas.{length-layers, layer-read, layer-need}
use Rattle.grid_demand.proofs.capacity.Capacity.layer_need.Goals as goal

pub index-requires : goal.index-requires
index-requires c =
    let P : CapacityView → Type 0 = λ v. c.args.e.low < cells_of v.shape in
    let below = subst P (sym c.self.view_is) (edge-low c.args.self.now.shape c.args.e c.requires.edge) in
    let long = length-layers c.self.inside.shape c.self.inside.cell_layers.items c.self.invariant.cells in
    omega (arith, long, below, c.self.inside.cell_layers.ok.0)

pub returns-clause-layer : goal.returns-clause-layer
returns-clause-layer c =
    let P : CapacityView → Type 0 = λ v. c.args.e.low < cells_of v.shape in
    let below = subst P (sym c.self.view_is) (edge-low c.args.self.now.shape c.args.e c.requires.edge) in
    let read = layer-read c.self.inside.shape c.self.inside.cell_layers.items c.args.e.low c.index.result.now c.self.invariant.cells below c.index.ensures in
    let Q : CapacityView → Type 0 = λ v. c.index.result.now ≡ (place_at v.shape c.args.e.low).layer in
    let layer = subst Q c.self.view_is read in
    let R : CapacityView → Type 0 = λ v. c.cells_a_layer-cells.result ≡ v.shape.columns * v.shape.rows in
    layer-need c.args.self.now c.args.width c.args.e c.from-layer.result c.cells_a_layer-cells.result c.need_of_width.result c.requires.wire
    (c.from-layer.ensures ∙ layer) (subst R c.self.view_is c.cells_a_layer-cells.ensures) c.need_of_width.ensures.value c.need_of_width.ensures.most
