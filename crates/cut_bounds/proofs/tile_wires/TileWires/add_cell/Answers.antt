use Rattle.std.proofs.Common.{ℕ, ap, ◌∙◌}
use Rattle.wall_laws.specs.Spans.{tile_number}
use Rattle.cut_bounds.specs.TileWires.{gained}
use Rattle.cut_bounds.proofs.WireSums.{tile-is}
use Rattle.cut_bounds.proofs.tile_wires.TileWires.add_cell.Goals as goal

pub returns-clause-east : goal.returns-clause-east
returns-clause-east c =
    let is = tile-is c.args.capacity.now.shape c.shape-shape.result c.args.cell c.columns.result c.place_of-place.result c.shape-shape.ensures.shape c.columns.ensures.columns c.place_of-place.ensures.place in
    c.gain.ensures
    ∙ ap (λ (n : ℕ). gained c.args.self.now.east.items n c.east_of.result) is
    ∙ ap (λ (n : ℕ). gained c.args.self.now.east.items (tile_number c.args.capacity.now.shape c.args.cell) n) c.east_of.ensures.value

pub returns-clause-north : goal.returns-clause-north
returns-clause-north c =
    let is = tile-is c.args.capacity.now.shape c.shape-shape.result c.args.cell c.columns.result c.place_of-place.result c.shape-shape.ensures.shape c.columns.ensures.columns c.place_of-place.ensures.place in
    c.gain-2.ensures
    ∙ ap (λ (n : ℕ). gained c.args.self.now.north.items n c.north_of.result) is
    ∙ ap (λ (n : ℕ). gained c.args.self.now.north.items (tile_number c.args.capacity.now.shape c.args.cell) n) c.north_of.ensures.value
