use Rattle.std.proofs.Common.{◌≡◌, ℕ, ◌<◌, List, length, get_or, ap, sym, ◌∙◌, arith}
use Rattle.std.proofs.lemmas.List.{length-replicate}
use Rattle.cut_bounds.specs.TileWires.{tiles_of}
use Rattle.cut_bounds.proofs.BoxLemmas.{held_to, held-more, held-room, tile-on-chip}
use Rattle.cut_bounds.proofs.CutLemmas.{few-rows, tile-first}
use Rattle.cut_bounds.proofs.WireSums.{zeros}
use Rattle.cut_bounds.proofs.box_holds.holds_by_box.Goals as goal

pub loop-number-init : goal.loop-number-init
loop-number-init c = record {
  tile = sym (tile-first c.columns-columns.result c.columns-columns.ensures.some);
  long = ap (λ (xs : List ℕ). length xs) (c.in_ok-holds.ensures.items_if_clones_equal (λ y e. e)) ∙ length-replicate c.count.result 0 ∙ c.count.ensures.count;
  holds = λ n lower. ap (λ (xs : List ℕ). get_or xs n 0) (c.in_ok-holds.ensures.items_if_clones_equal (λ y e. e)) ∙ zeros c.count.result n;
}

pub add_tile-requires-clause-tile : goal.add_tile-requires-clause-tile
add_tile-requires-clause-tile c =
    let inside : c.loop-number.number < tiles_of c.args.boxes.shape = omega (arith, c.loop-number-test.true, c.len-number-end.ensures, c.requires.east, c.args.wires.now.east.ok.0) in
    tile-on-chip c.args.boxes.shape c.loop-number.number c.columns-columns.result c.loop-number.tile c.columns-columns.ensures.columns c.loop-number.invariant.tile inside

pub add_tile-requires-clause-room : goal.add_tile-requires-clause-room
add_tile-requires-clause-room c n =
    let inside : c.loop-number.number < tiles_of c.args.boxes.shape = omega (arith, c.loop-number-test.true, c.len-number-end.ensures, c.requires.east, c.args.wires.now.east.ok.0) in
    held-room c.args.boxes.shape c.args.boxes.level c.loop-number.holds.items c.args.wires.now c.loop-number.number n c.loop-number.invariant.long inside c.requires.few c.loop-number.invariant.holds

pub next-tile-requires-clause-x : goal.next-tile-requires-clause-x
next-tile-requires-clause-x c =
    let inside : c.loop-number.number < tiles_of c.args.boxes.shape = omega (arith, c.loop-number-test.true, c.len-number-end.ensures, c.requires.east, c.args.wires.now.east.ok.0) in
    let on = tile-on-chip c.args.boxes.shape c.loop-number.number c.columns-columns.result c.loop-number.tile c.columns-columns.ensures.columns c.loop-number.invariant.tile inside in
    omega (arith, on.column, c.columns-columns.ensures.columns)

pub next-tile-requires-clause-y : goal.next-tile-requires-clause-y
next-tile-requires-clause-y c =
    let inside : c.loop-number.number < tiles_of c.args.boxes.shape = omega (arith, c.loop-number-test.true, c.len-number-end.ensures, c.requires.east, c.args.wires.now.east.ok.0) in
    let on = tile-on-chip c.args.boxes.shape c.loop-number.number c.columns-columns.result c.loop-number.tile c.columns-columns.ensures.columns c.loop-number.invariant.tile inside in
    omega (arith, on.row, few-rows c.args.boxes.shape)

pub loop-number-preserved : goal.loop-number-preserved
loop-number-preserved c = record {
  tile = c.next-tile.ensures c.loop-number.number c.loop-number.invariant.tile;
  long = c.add_tile.ensures.long ∙ c.loop-number.invariant.long;
  holds = λ n lower. held-more c.args.boxes.shape c.args.boxes.level n c.loop-number.number c.columns-columns.result (get_or c.loop-number.holds.items n 0) (get_or c.add_tile.new.holds.items n 0)
      c.args.wires.now c.loop-number.tile c.columns-columns.ensures.columns c.loop-number.invariant.tile (c.loop-number.invariant.holds n lower) (c.add_tile.ensures.holds n lower);
}

pub returns-clause-holds : goal.returns-clause-holds
returns-clause-holds c n lower =
    let all : c.loop-number.number ≡ tiles_of c.args.boxes.shape =
    omega (arith, c.loop-number-test.false, c.loop-number.auto.number-end, c.len-number-end.ensures, c.requires.east, c.args.wires.now.east.ok.0) in
    c.loop-number.invariant.holds n lower ∙ ap (λ (m : ℕ). held_to c.args.boxes.shape c.args.boxes.level n c.args.wires.now m) all
