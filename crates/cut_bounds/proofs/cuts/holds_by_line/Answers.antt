use Rattle.std.proofs.Common.{◌≡◌, ℕ, ◌<◌, ◌==◌, List, length, get_or, ap, sym, ◌∙◌, arith}
use Rattle.std.proofs.lemmas.List.{length-replicate}
use Rattle.gr_base.specs.declared.grid.Shape.{Shape}
use Rattle.cut_bounds.specs.Cuts.{along, lines_of, tile_at, wires_along}
use Rattle.cut_bounds.specs.TileWires.{sum_below, tiles_of, where_so}
use Rattle.cut_bounds.specs.declared.axis.Axis.{Axis}
use Rattle.cut_bounds.specs.declared.axis.Axis.TheVariants.{Columns, Rows}
use Rattle.cut_bounds.specs.declared.axis.Tile.{Tile}
use Rattle.cut_bounds.specs.declared.tile_wires.TileWires.{TileWires}
use Rattle.cut_bounds.proofs.CutLemmas.{along-few, tile-first, line-inside, few-rows, line-long}
use Rattle.cut_bounds.proofs.SumLemmas.{gather-more, gather-most, gather-none, length-gained}
use Rattle.cut_bounds.proofs.cuts.holds_by_line.Goals as goal

-- the line of the tile, and that it has a place
line-is : (g : Shape) (axis : Axis) (tile : Tile) (columns line n : ℕ) → columns ≡ g.columns → line ≡ along axis tile → tile ≡ tile_at columns n →
    line ≡ along axis (tile_at columns n)
line-is g axis tile columns line n wide is at = is ∙ ap (λ (t : Tile). along axis t) at

inside : (g : Shape) (axis : Axis) (tile : Tile) (columns line n lines : ℕ) → columns ≡ g.columns → line ≡ along axis tile → tile ≡ tile_at columns n →
    n < tiles_of g → lines ≡ lines_of g axis → line < lines
inside g axis tile columns line n lines wide is at lower all =
    let e = line-is g axis tile columns line n wide is at ∙ ap (λ (m : ℕ). along axis (tile_at m n)) wide in
    let below = line-inside g axis n lower in
    omega (arith, e, below, all)

within : (g : Shape) (axis : Axis) (wires : TileWires) (items : List ℕ) (n : ℕ) → length wires.east.items ≡ tiles_of g → length wires.north.items ≡ tiles_of g →
    items ≡ wires_along axis wires → n < length items → n < tiles_of g
within g axis wires items n east north is lower =
    let long = ap (λ (xs : List ℕ). length xs) is ∙ line-long g axis wires east north in omega (arith, long, lower)

pub loop-more-init : goal.loop-more-init
loop-more-init c = record {
  tile = sym (tile-first c.columns-columns.result c.columns-columns.ensures.some);
  long = ap (λ (xs : List ℕ). length xs) (c.in_ok-holds.ensures.items_if_clones_equal (λ y e. e)) ∙ length-replicate c.lines.result 0 ∙ c.lines.ensures;
  holds = gather-none (λ t. along c.args.axis (tile_at c.columns-columns.result t)) (wires_along c.args.axis c.args.wires.now) c.in_ok-holds.holds.items c.lines.result
      (c.in_ok-holds.ensures.items_if_clones_equal (λ y e. e));
}

pub gain-requires-clause-at : goal.gain-requires-clause-at
gain-requires-clause-at c =
    inside c.args.shape c.args.axis c.loop-more.tile c.columns-columns.result c.along.result c.loop-more.more-index (length c.loop-more.holds.items)
    c.columns-columns.ensures.columns c.along.ensures c.loop-more.invariant.tile
    (within c.args.shape c.args.axis c.args.wires.now c.along-more-items.result.now c.loop-more.more-index c.requires.east c.requires.north c.along-more-items.ensures c.loop-more-test.true)
    c.loop-more.invariant.long

pub gain-requires-clause-room : goal.gain-requires-clause-room
gain-requires-clause-room c =
    let lower = within c.args.shape c.args.axis c.args.wires.now c.along-more-items.result.now c.loop-more.more-index c.requires.east c.requires.north c.along-more-items.ensures c.loop-more-test.true in
    let at = inside c.args.shape c.args.axis c.loop-more.tile c.columns-columns.result c.along.result c.loop-more.more-index (length c.loop-more.holds.items)
    c.columns-columns.ensures.columns c.along.ensures c.loop-more.invariant.tile lower c.loop-more.invariant.long in
    let most = gather-most (λ t. along c.args.axis (tile_at c.columns-columns.result t)) (wires_along c.args.axis c.args.wires.now) c.loop-more.holds.items c.loop-more.more-index c.along.result
    at c.loop-more.invariant.holds in
    let e = ap (λ (xs : List ℕ). get_or xs c.loop-more.more-index 0) c.along-more-items.ensures in
    let all = along-few c.args.axis c.args.wires.now c.loop-more.more-index (tiles_of c.args.shape) lower in
    omega (arith, most, e, all, c.requires.few)

pub next-tile-requires-clause-x : goal.next-tile-requires-clause-x
next-tile-requires-clause-x c =
    let lower = within c.args.shape c.args.axis c.args.wires.now c.along-more-items.result.now c.loop-more.more-index c.requires.east c.requires.north c.along-more-items.ensures c.loop-more-test.true in
    let at = line-inside c.args.shape Columns c.loop-more.more-index lower in
    let e = ap (λ (t : Tile). t.x) c.loop-more.invariant.tile in
    let w = ap (λ (m : ℕ). (tile_at m c.loop-more.more-index).x) c.columns-columns.ensures.columns in
    omega (arith, at, e, w, c.columns-columns.ensures.columns)

pub next-tile-requires-clause-y : goal.next-tile-requires-clause-y
next-tile-requires-clause-y c =
    let lower = within c.args.shape c.args.axis c.args.wires.now c.along-more-items.result.now c.loop-more.more-index c.requires.east c.requires.north c.along-more-items.ensures c.loop-more-test.true in
    let at = line-inside c.args.shape Rows c.loop-more.more-index lower in
    let e = ap (λ (t : Tile). t.y) c.loop-more.invariant.tile in
    let w = ap (λ (m : ℕ). (tile_at m c.loop-more.more-index).y) c.columns-columns.ensures.columns in
    let rows = few-rows c.args.shape in
    omega (arith, at, e, w, rows)

pub loop-more-preserved : goal.loop-more-preserved
loop-more-preserved c =
    let lower = within c.args.shape c.args.axis c.args.wires.now c.along-more-items.result.now c.loop-more.more-index c.requires.east c.requires.north c.along-more-items.ensures c.loop-more-test.true in
    let at = inside c.args.shape c.args.axis c.loop-more.tile c.columns-columns.result c.along.result c.loop-more.more-index (length c.loop-more.holds.items)
    c.columns-columns.ensures.columns c.along.ensures c.loop-more.invariant.tile lower c.loop-more.invariant.long in
    record {
      tile = c.next-tile.ensures c.loop-more.more-index c.loop-more.invariant.tile;
      long = ap (λ (xs : List ℕ). length xs) c.gain.ensures ∙ length-gained c.loop-more.holds.items c.along.result _ ∙ c.loop-more.invariant.long;
      holds = gather-more (λ t. along c.args.axis (tile_at c.columns-columns.result t)) (wires_along c.args.axis c.args.wires.now) c.loop-more.holds.items c.gain.new.numbers.items
          c.loop-more.more-index c.along.result _ at
          (line-is c.args.shape c.args.axis c.loop-more.tile c.columns-columns.result c.along.result c.loop-more.more-index c.columns-columns.ensures.columns c.along.ensures c.loop-more.invariant.tile)
          (ap (λ (xs : List ℕ). get_or xs c.loop-more.more-index 0) c.along-more-items.ensures) c.gain.ensures c.loop-more.invariant.holds;
    }

pub returns-clause-long : goal.returns-clause-long
returns-clause-long c = c.loop-more.invariant.long

pub returns-clause-holds : goal.returns-clause-holds
returns-clause-holds c line lower =
    let long = ap (λ (xs : List ℕ). length xs) c.along-more-items.ensures ∙ line-long c.args.shape c.args.axis c.args.wires.now c.requires.east c.requires.north in
    let all : c.loop-more.more-index ≡ tiles_of c.args.shape = omega (arith, long, c.loop-more-test.false, c.loop-more.auto.more-index-end) in
    c.loop-more.invariant.holds line (omega (arith, lower, c.loop-more.invariant.long))
    ∙ ap (λ (n : ℕ). sum_below n (λ t. where_so (along c.args.axis (tile_at c.columns-columns.result t) == line) (get_or (wires_along c.args.axis c.args.wires.now) t 0))) all
    ∙ ap (λ (m : ℕ). sum_below (tiles_of c.args.shape) (λ t. where_so (along c.args.axis (tile_at m t) == line) (get_or (wires_along c.args.axis c.args.wires.now) t 0))) c.columns-columns.ensures.columns
