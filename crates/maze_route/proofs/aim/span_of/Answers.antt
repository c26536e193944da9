use Rattle.std.proofs.Common.{ℕ, get_or, ap, refl, ◌∙◌, arith}
use Rattle.std.proofs.lemmas.List.{get_or_default}
use Rattle.gr_base.specs.Grid.{place_at}
use Rattle.maze_route.proofs.SpotLemmas.{spot-inside}
use Rattle.maze_route.proofs.SpanLemmas.{near-turn, span-turn}
use Rattle.maze_route.proofs.aim.span_of.Goals as goal

pub loop-end-preserved : goal.loop-end-preserved
loop-end-preserved c =
    let inside = spot-inside c.args.pane c.spot.result c.spot.ensures.spot in
    record {
      near = near-turn c.loop-end.span c.with-span.result _ _ _ c.with-span.ensures c.loop-end.invariant.near;
      ends = span-turn c.args.scales.now c.args.pane c.loop-end.span c.with-span.result c.args.ends.now c.loop-end.end-index (get_or c.args.ends.now c.loop-end.end-index 0) 0
          c.index-column.result.now c.index-row.result.now c.spot.result.place c.loop-end-test.true refl
          (c.spot.ensures.spot.place ∙ ap (λ (n : ℕ). place_at c.args.pane.shape n) c.spot.ensures.local)
          (c.index-column.ensures ∙ get_or_default c.args.scales.now.columns.items c.spot.result.place.x c.index-column.result.now 0 (omega (arith, inside.column, c.requires.columns)))
          (c.index-row.ensures ∙ get_or_default c.args.scales.now.rows.items c.spot.result.place.y c.index-row.result.now 0 (omega (arith, inside.row, c.requires.rows)))
          c.with-span.ensures c.loop-end.invariant.ends;
    }
