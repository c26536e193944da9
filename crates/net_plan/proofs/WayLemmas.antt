-- Some layer goes each way that a grid is wide.
use Rattle.std.proofs.Common.{◌≡◌, ℕ, ◌<◌, true, false, ◌==◌, min, get_or, length, Any, slice_get, take, Some, IsTrue, refl, sym, ap, ◌∙◌, arith}
use Rattle.std.proofs.lemmas.Bool.Decides.{nat_tests}
use Rattle.std.proofs.lemmas.List.{length-take, get_or-take}
use Rattle.std.proofs.lemmas.Option.{slice_get-get_or}
use Rattle.gr_base.specs.Capacities.{usable_along, stated_along}
use Rattle.gr_base.specs.Designs.{DesignView, IsFrame, layers_of}
use Rattle.gr_base.specs.Grid.{has_room}
use Rattle.gr_base.specs.declared.frame.Layer.{Layer}
use Rattle.gr_base.specs.declared.grid.Cell.{Cell}
use Rattle.gr_base.specs.declared.grid.Shape.{Shape}
use Rattle.gr_base.specs.declared.grid.Way.{Way}
use Rattle.gr_base.specs.declared.grid.Way.TheVariants.{East, North, Up}
use Rattle.grid_demand.specs.Tables.{capacity_of}
use Rattle.layer_assign.specs.Assignments.{IsFlat as IsFlattened}
use Rattle.net_plan.specs.Prices.{ways_of}

-- a layer that states a capacity for a way goes that way
stated-goes : (way : Way) (layer : Layer) → 0 < stated_along way (Some layer) → usable_along way (Some layer) ≡ true
stated-goes East layer some = let test : (layer.horizontal == 0) ≡ false = grind (arith, nat_tests) in rw test refl
stated-goes North layer some = let test : (layer.vertical == 0) ≡ false = grind (arith, nat_tests) in rw test refl
stated-goes Up layer some = refl

-- some layer of the grid goes a way for which the frame states a capacity
pub goes-layer : (d : DesignView) (way : Way) → Any (λ layer. 0 < stated_along way (Some layer)) (layers_of d.frame) →
    (k : ℕ) × ((k < d.frame.shape.layers) × (ways_of (capacity_of d) k way ≡ true))
goes-layer d way any =
    let k = any.0 in
    let layer = any.1 in
    let count = d.frame.shape.layers in
    let few : length (take count d.frame.layers) ≡ min count (length d.frame.layers) = length-take count d.frame.layers in
    let below : k < min count (length d.frame.layers) = omega (arith, any.2) in
    let read : get_or d.frame.layers k layer ≡ layer = sym (get_or-take count d.frame.layers k layer (omega arith)) ∙ any.3 in
    let at : slice_get d.frame.layers k ≡ Some layer =
    slice_get-get_or d.frame.layers k layer (omega arith) ∙ ap (λ (y : Layer). Some y) read in
    (k, (omega arith, ap (usable_along way) at ∙ stated-goes way layer any.4))

-- where the flat grid has an edge, some layer goes the edge's way
pub edge-layer : (d : DesignView) (flat : Shape) (cell : Cell) (way : Way) → IsFrame d.frame → IsFlattened d.frame.shape flat →
    IsTrue (has_room flat cell way) → (k : ℕ) × ((k < d.frame.shape.layers) × (ways_of (capacity_of d) k way ≡ true))
edge-layer d flat cell East frame flattened room =
    let e = flattened.columns in
    let wide : 1 < d.frame.shape.columns = grind (arith, nat_tests) in
    goes-layer d East (frame.horizontal wide)
edge-layer d flat cell North frame flattened room =
    let e = flattened.rows in
    let high : 1 < d.frame.shape.rows = grind (arith, nat_tests) in
    goes-layer d North (frame.vertical high)
edge-layer d flat cell Up frame flattened room =
    let e = flattened.layers in
    let none : ⊥ = grind (arith, nat_tests) in
    absurd none
