use Rattle.std.proofs.Common.{List, ℕ, length, refl, ap, sym, ◌∙◌, arith}
use Rattle.std.proofs.lemmas.List.{take_all}
use Rattle.net_plan.specs.FlatTrees.{distinct_tiles}
use Rattle.net_order.proofs.FreedomLemmas.{tiles-more, tiles-same}
use Rattle.net_order.proofs.traits.tiles_with_pins.Goals.{then-not-is_tile_among, else-not-is_tile_among}
use Rattle.net_order.proofs.traits.tiles_with_pins.Goals as goal

pub loop-at-preserved : goal.loop-at-preserved
loop-at-preserved c =
    let counted = c.loop-at.invariant.counted in
    let few = c.loop-at.invariant.few in
    elim c.if-not-is_tile_among.branch [
      | then-not-is_tile_among w ↦
          let is = w.tiles-is in
          let more = tiles-more c.args.shape c.loop-at.at _ c.args.cells.now c.plane_of-plane.result c.loop-at-test.true refl c.plane_of-plane.ensures.tiles (sym w.if-not-is_tile_among.ensures) in
          record { counted = omega (arith, is, counted, more); few = omega (arith, is, few) }
      | else-not-is_tile_among w ↦
          let is = w.tiles-is in
          let same = tiles-same c.args.shape c.loop-at.at _ c.args.cells.now c.plane_of-plane.result c.loop-at-test.true refl c.plane_of-plane.ensures.tiles (sym w.if-not-is_tile_among.ensures) in
          record { counted = omega (arith, is, counted, same); few = omega (arith, is, few) }
    ]

pub returns-clause-tiles : goal.returns-clause-tiles
returns-clause-tiles c =
    c.loop-at.invariant.counted ∙ ap (λ (l : List ℕ). length (distinct_tiles c.args.shape l)) (take_all c.loop-at.at c.args.cells.now c.loop-at-test.false)

pub returns-clause-few : goal.returns-clause-few
returns-clause-few c =
    let few = c.loop-at.invariant.few in
    let end = c.loop-at.auto.at-end in
    omega (arith, few, end)
