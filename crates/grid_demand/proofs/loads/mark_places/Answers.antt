use Rattle.std.proofs.Common.{ℕ, ◌+◌, min, List, get_or, length, slice_index, refl, ap, ◌∙◌, arith}
use Rattle.std.proofs.lemmas.List.{length-set}
use Rattle.gr_base.specs.Limits.{most_marks}
use Rattle.grid_demand.proofs.MarkSteps.{marks-more}
use Rattle.grid_demand.proofs.loads.mark_places.Goals as goal

pub loop-place-preserved : goal.loop-place-preserved
loop-place-preserved c =
    let inside = c.requires.inside c.loop-place.place-index 0 c.loop-place-test.true in
    let place = get_or c.args.places.now c.loop-place.place-index 0 in
    record {
      long = ap length c.add_mark.ensures ∙ length-set _ _ _ ∙ c.loop-place.invariant.long;
      each = λ n within.
          ap (λ (xs : List ℕ). slice_index xs n) c.add_mark.ensures
          ∙ marks-more c.args.places.now c.loop-place.marks c.args.marks.now c.loop-place.place-index (min most_marks (slice_index c.loop-place.marks place + 1))
          c.requires.rising c.loop-place-test.true (omega (arith, inside, c.loop-place.invariant.long)) c.loop-place.invariant.each inside refl n within;
    }
