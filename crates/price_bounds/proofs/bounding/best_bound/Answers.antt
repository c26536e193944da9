use Rattle.std.proofs.Common.{◌∙◌}
use Rattle.price_bounds.proofs.FigureLemmas.{figure-max}
use Rattle.price_bounds.proofs.bounding.best_bound.Goals as goal

pub loop-preserved : goal.loop-preserved
loop-preserved g c = record {
  seats = c.in_ok-bound.ensures.seats;
  long = c.put-in-loop.ensures ∙ c.loop.invariant.long;
  best = figure-max c.args.design.now c.args.asked.via_cost c.args.figure c.in_ok-bound.bound.most c.loop.best c.max-best.result c.max-best.ensures
      c.in_ok-bound.ensures.bound c.loop.invariant.best;
}
