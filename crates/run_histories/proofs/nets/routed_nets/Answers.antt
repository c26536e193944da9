use Rattle.std.proofs.Common.{ℕ, List, ◌∷◌, [], ◌++◌, ap, sym, ◌∙◌}
use Rattle.std.specs.Global.{Global}
use Rattle.std.specs.declared.vec.Vec.{Vec}
use Rattle.gr_base.specs.Designs.{is_routed}
use Rattle.run_histories.proofs.RangeCounts.{one-more-kept, none-more-kept}
use Rattle.run_histories.proofs.nets.routed_nets.Goals as goal
use Rattle.run_histories.proofs.nets.routed_nets.Goals.{then-routed+in_ok-push, else-routed}

pub loop-net-preserved : goal.loop-net-preserved
loop-net-preserved c = elim c.if-routed.branch [
  | then-routed+in_ok-push on ↦
      ap (λ (v : Vec ℕ Global). v.items) on.nets-is ∙ on.in_ok-push.ensures.items
      ∙ ap (λ (ns : List ℕ). ns ++ c.loop-net.net ∷ []) c.loop-net.invariant
      ∙ sym (one-more-kept (is_routed c.args.design.now) c.loop-net.net (sym c.routed.ensures ∙ on.if-routed.true))
  | else-routed off ↦
      ap (λ (v : Vec ℕ Global). v.items) off.nets-is ∙ c.loop-net.invariant
      ∙ sym (none-more-kept (is_routed c.args.design.now) c.loop-net.net (sym c.routed.ensures ∙ off.if-routed.false))
]
