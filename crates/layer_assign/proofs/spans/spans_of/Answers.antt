use Rattle.std.proofs.Common.{ℕ, ◌+◌, ◌*◌, ◌/◌, ap, ◌∙◌}
use Rattle.layer_assign.proofs.TableLemmas.{triangle-half}
use Rattle.layer_assign.proofs.spans.spans_of.Goals as goal

pub returns-clause-count : goal.returns-clause-count
returns-clause-count c =
    ap (λ (n : ℕ). 1 + n * (n + 1) / 2) c.layers-layers.ensures.layers ∙ ap (λ (n : ℕ). 1 + n) (triangle-half c.args.shape.layers)
