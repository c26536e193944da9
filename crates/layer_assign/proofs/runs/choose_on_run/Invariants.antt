use Rattle.std.proofs.Common.{◌≡◌, None}
use Rattle.layer_assign.specs.Runs.{best_up_to}
use Rattle.layer_assign.specs.Tables.{number_in}
use Rattle.layer_assign.proofs.Choosing.{Choosing, single_below}
use Rattle.layer_assign.proofs.runs.choose_on_run.Given as goal

abbrev pub invariant-loop-layer : goal.invariant-loop-layer
invariant-loop-layer g l = record {
  below : l.below ≡ best_up_to (number_in l.workings.limbs) l.layer;
  so_far : Choosing l.shape (g.C.Costs.ways l.costs) (g.C.Costs.price l.costs) l.flat l.node l.fn.base None l.fn.least.items l.fn.choices.items
      l.least.items l.choices.items (single_below l.layer);
}
