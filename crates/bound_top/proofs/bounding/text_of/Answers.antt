use Rattle.std.proofs.Common.{ℕ, List, ap, ◌∙◌}
use Rattle.cut_bounds.specs.Bounds.{bounds_text}
use Rattle.bound_top.proofs.BoundingLemmas.{bounds-said}
use Rattle.bound_top.proofs.bounding.text_of.Goals as goal

pub returns : goal.returns
returns g c =
    bounds-said c.args.design.now c.args.via_cost c.args.steps c.in_ok-bounds.bounds c.in_ok-further.further c.in_ok-text.text
    c.in_ok-bounds.ensures.value c.in_ok-bounds.ensures.law c.in_ok-further.ensures
    (c.in_ok-text.ensures ∙ ap (λ (lines : List ℕ). bounds_text c.in_ok-bounds.bounds lines) c.bytes.ensures)
