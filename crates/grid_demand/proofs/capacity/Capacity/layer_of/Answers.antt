use Rattle.std.proofs.Common.{◌≡◌, ℕ, ◌<◌, get_or, slice_get, Some, subst, sym, ap, ◌∙◌, arith}
use Rattle.std.proofs.lemmas.Option.{slice_get-get_or}
use Rattle.gr_base.proofs.GridLemmas.{edge-low}
use Rattle.gr_base.specs.Grid.{cells_of, place_at}
use Rattle.gr_base.specs.declared.frame.Layer.{Layer}
use Rattle.grid_demand.specs.Tables.{CapacityView}
use Rattle.grid_demand.proofs.CapacityLemmas.{length-layers, layer-read, few_layers}
use Rattle.grid_demand.proofs.capacity.Capacity.layer_of.Goals as goal

pub index-requires : goal.index-requires
index-requires c =
    let P : CapacityView → Type 0 = λ v. c.args.e.low < cells_of v.shape in
    let below = subst P (sym c.self.view_is) (edge-low c.args.self.now.shape c.args.e c.requires) in
    let long = length-layers c.self.inside.shape c.self.inside.cell_layers.items c.self.invariant.cells in
    omega (arith, long, below, c.self.inside.cell_layers.ok.0)

pub bounds-self-inside-index : goal.bounds-self-inside-index
bounds-self-inside-index c =
    let P : CapacityView → Type 0 = λ v. c.args.e.low < cells_of v.shape in
    let below = subst P (sym c.self.view_is) (edge-low c.args.self.now.shape c.args.e c.requires) in
    let layer = layer-read c.self.inside.shape c.self.inside.cell_layers.items c.args.e.low c.index.result.now c.self.invariant.cells below c.index.ensures in
    let few = few_layers c.self.inside.shape c.args.e.low below in
    omega (arith, layer, few)

pub returns-clause-layer : goal.returns-clause-layer
returns-clause-layer c =
    let P : CapacityView → Type 0 = λ v. c.args.e.low < cells_of v.shape in
    let below = subst P (sym c.self.view_is) (edge-low c.args.self.now.shape c.args.e c.requires) in
    let layer = layer-read c.self.inside.shape c.self.inside.cell_layers.items c.args.e.low c.index.result.now c.self.invariant.cells below c.index.ensures in
    let few = few_layers c.self.inside.shape c.args.e.low below in
    let blank : Layer = record { vertical = 0; horizontal = 0; width = 0; spacing = 0; via = 0 } in
    let Q : CapacityView → Type 0 = λ v. slice_get v.layers (place_at v.shape c.args.e.low).layer ≡ Some (get_or c.self.inside.layers c.index.result.now blank) in
    subst Q c.self.view_is
    (ap (λ (n : ℕ). slice_get c.self.inside.layers n) (sym layer)
    ∙ slice_get-get_or c.self.inside.layers c.index.result.now blank (omega (arith, layer, few, c.self.invariant.tables.layers)))
