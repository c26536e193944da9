use Rattle.std.proofs.Common.{get_or, true, slice_set, length-set, refl, ◌∙◌, arith}
use Rattle.maze_route.proofs.EndLemmas.{mark-turn}
use Rattle.maze_route.proofs.ends.mark.Goals as goal

pub loop-end-preserved : goal.loop-end-preserved
loop-end-preserved c =
    let end = get_or c.args.ends.now c.loop-end.end-index 0 in
    let marks = c.loop-end.marks.items in
    let below = c.requires c.loop-end.end-index 0 c.loop-end-test.true in
    record {
      size = length-set marks end true ∙ c.loop-end.invariant.size;
      marks = λ cell. mark-turn marks (slice_set marks end true) c.args.ends.now c.loop-end.end-index end 0 cell c.loop-end-test.true refl (omega (arith, below, c.loop-end.invariant.size)) refl
          (c.loop-end.invariant.marks cell);
    }
