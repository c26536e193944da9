use Rattle.std.proofs.Common.{◌≡◌, ◌+◌, ◌*◌, ◌<◌, true, length, ap, ◌∙◌, arith}
use Rattle.std.proofs.lemmas.List.{length-set}
use Rattle.gr_base.specs.Grid.{cells_of}
use Rattle.gr_base.specs.declared.grid.Cell.{Cell}
use Rattle.grid_demand.proofs.ToldEdges.{told-low}
use Rattle.book_state.specs.Crowds.{tile_of}
use Rattle.book_state.proofs.CrowdTables.{tile-number, tile-below, noted-more, noted-all}
use Rattle.book_state.proofs.crowds.crowded_tiles.Goals as goal

pub place_of-place-requires : goal.place_of-place-requires
place_of-place-requires c = told-low c.args.over.now.table (cells_of c.args.shape) c.loop-at.at c.edge.result c.requires c.edge.ensures

pub loop-at-preserved : goal.loop-at-preserved
loop-at-preserved c =
    let g = c.args.shape in
    let tiles = c.loop-at.tiles.items in
    let place = c.place_of-place.result in
    let tile = c.cell_of-tile.result in
    let before = c.loop-at.invariant in
    let number : tile ≡ place.y * g.columns + place.x = c.cell_of-tile.ensures.number ∙ tile-number g place.x place.y in
    let there : tile ≡ tile_of g c.edge.result.low = number ∙ ap (λ (p : Cell). p.y * g.columns + p.x) c.place_of-place.ensures.place in
    let below = tile-below g place.x place.y c.place_of-place.ensures.inside.column c.place_of-place.ensures.inside.row in
    let long = before.0 in
    let within : tile < length tiles = omega (arith, number, below, long) in (
      length-set tiles tile true ∙ long,
      noted-more g c.args.over.now.table tiles c.loop-at.at tile c.edge.result before.1 c.edge.ensures there within,
    )

pub returns-clause-tiles : goal.returns-clause-tiles
returns-clause-tiles c =
    noted-all c.args.shape c.args.over.now.table c.loop-at.tiles.items c.loop-at.at c.requires (omega (arith, c.loop-at-test.false, c.len-at-end.ensures)) c.loop-at.invariant.1
