use Rattle.std.proofs.Common.{◌≡◌, ap, ◌∙◌, sym, arith}
use Rattle.gr_base.specs.Grid.{cells_of}
use Rattle.gr_base.specs.declared.frame.Frame.{Frame}
use Rattle.gr_base.specs.declared.grid.Shape.{Shape}
use Rattle.gr_base.specs.Designs.{DesignView}
use Rattle.grid_demand.specs.Tables.{CapacityView, capacity_of}
use Rattle.cut_bounds.specs.TileWires.{tiles_of}
use Rattle.cut_bounds.proofs.WireSums.{none-so-far, more-so-far, room-so-far, all-so-far}
use Rattle.cut_bounds.proofs.tile_wires.TileWires.of.Goals as goal

pub loop-cell-init : goal.loop-cell-init
loop-cell-init c =
    none-so-far c.args.design.now c.frame.result.now.shape c.columns.result c.rows.result c.in_ok-vec.field-0.items c.in_ok-vec-2.field-0.items
    (ap (λ (f : Frame). f.shape) c.frame.ensures.frame) c.columns.ensures.columns c.rows.ensures.rows
    (c.in_ok-vec.ensures.items_if_clones_equal (λ y e. e)) (c.in_ok-vec-2.ensures.items_if_clones_equal (λ y e. e))

shape-is : (c : CapacityView) (d : DesignView) → c ≡ capacity_of d → c.shape ≡ d.frame.shape
shape-is c d is = ap (λ (v : CapacityView). v.shape) is

pub add_cell-requires-clause-cell : goal.add_cell-requires-clause-cell
add_cell-requires-clause-cell c =
    let same = shape-is c.in_ok-capacity.capacity c.args.design.now c.in_ok-capacity.ensures in
    let framed = ap (λ (f : Frame). cells_of f.shape) c.frame.ensures.frame in
    let sized = ap (λ (g : Shape). cells_of g) same in
    omega (arith, c.loop-cell-test.true, c.cells-cell-end.ensures.cells, framed, sized)

pub add_cell-requires-clause-east : goal.add_cell-requires-clause-east
add_cell-requires-clause-east c =
    c.loop-cell.invariant.long ∙ sym (ap (λ (g : Shape). tiles_of g) (shape-is c.in_ok-capacity.capacity c.args.design.now c.in_ok-capacity.ensures))

pub add_cell-requires-clause-north : goal.add_cell-requires-clause-north
add_cell-requires-clause-north c =
    c.loop-cell.invariant.high ∙ sym (ap (λ (g : Shape). tiles_of g) (shape-is c.in_ok-capacity.capacity c.args.design.now c.in_ok-capacity.ensures))

pub add_cell-requires-clause-room : goal.add_cell-requires-clause-room
add_cell-requires-clause-room c tile =
    room-so-far c.args.design.now c.loop-cell.cell c.loop-cell.wires.east.items c.loop-cell.wires.north.items tile
    (omega (arith, c.loop-cell-test.true, c.cells-cell-end.ensures.most)) c.loop-cell.invariant

pub loop-cell-preserved : goal.loop-cell-preserved
loop-cell-preserved c =
    more-so-far c.args.design.now c.in_ok-capacity.capacity c.loop-cell.cell c.loop-cell.wires.east.items c.loop-cell.wires.north.items
    c.add_cell.new.self.east.items c.add_cell.new.self.north.items c.in_ok-capacity.ensures c.loop-cell.invariant
    c.add_cell.ensures.east c.add_cell.ensures.north c.add_cell.ensures.east_most c.add_cell.ensures.north_most

pub returns : goal.returns
returns c =
    let framed = ap (λ (f : Frame). cells_of f.shape) c.frame.ensures.frame in
    all-so-far c.args.design.now c.loop-cell.cell c.loop-cell.wires
    (omega (arith, c.loop-cell.auto.cell-end, c.loop-cell-test.false, c.cells-cell-end.ensures.cells, framed)) c.loop-cell.invariant
