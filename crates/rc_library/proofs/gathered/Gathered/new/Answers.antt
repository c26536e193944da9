use Rattle.std.proofs.Common.{sym, ap, subst, ◌∙◌}
use Rattle.gr_base.specs.Designs.{IsDesign}
use Rattle.gr_base.specs.declared.frame.Frame.{Frame}
use Rattle.rc_library.specs.Gathered.{IsGathered}
use Rattle.rc_library.proofs.GatheredLemmas.{IsGathered-nothing, nothing-is}
use Rattle.rc_library.proofs.gathered.Gathered.new.Goals as goal

pub invariant_of-result : goal.invariant_of-result
invariant_of-result c =
    let design : IsDesign c.args.design.now = c.frame.ensures.design in
    subst IsGathered
    (sym (nothing-is c.args.design.now c.args.version c.layers-layers.result c.in_ok-alike.field-0.items c.new.result c.in_ok-new.field-0
    (c.layers-layers.ensures.layers ∙ ap (λ (f : Frame). f.shape.layers) c.frame.ensures.frame) c.in_ok-alike.ensures c.new.ensures c.in_ok-new.ensures))
    (IsGathered-nothing c.args.design.now c.args.version design c.requires.least c.requires.greatest)
