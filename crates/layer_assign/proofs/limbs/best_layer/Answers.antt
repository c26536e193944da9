use Rattle.std.proofs.Common.{◌≡◌, ℕ, ◌+◌, Option, refl, ap, ◌∙◌, add-one}
use Rattle.layer_assign.specs.declared.span.Best.{Best}
use Rattle.layer_assign.specs.Tables.{priced, offer, better, best_below}
use Rattle.layer_assign.proofs.limbs.best_layer.Goals as goal

more : (offers : ℕ → Option Best) (best next : Option Best) (layer : ℕ) → best ≡ best_below offers layer →
    next ≡ better best (offers layer) → next ≡ best_below offers (layer + 1)
unfolding best_below
more offers best next layer so_far step = rw add-one (step ∙ ap (λ (o : Option Best). better o (offers layer)) so_far)

pub loop-layer-init : goal.loop-layer-init
unfolding best_below
loop-layer-init g c = record { best = refl; wires = c.requires.wires }

pub loop-layer-preserved : goal.loop-layer-preserved
loop-layer-preserved g c = record {
  best =
      more (offer c.args.shape (priced c.args.shape (g.C.Costs.price c.args.costs.now) c.args.limb.now) c.args.least.now c.args.parent c.args.span)
      c.loop-layer.best c.best_with-best.result c.loop-layer.layer c.loop-layer.invariant.best c.best_with-best.ensures.best;
  wires = c.best_with-best.ensures.wires;
}
