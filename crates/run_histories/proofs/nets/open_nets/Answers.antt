use Rattle.std.proofs.Common.{ℕ, List, ◌∷◌, [], ◌++◌, ap, sym, ◌∙◌}
use Rattle.std.specs.Global.{Global}
use Rattle.std.specs.declared.vec.Vec.{Vec}
use Rattle.run_histories.specs.GivenRoutes.{is_open}
use Rattle.run_histories.proofs.RangeCounts.{one-more-kept, none-more-kept}
use Rattle.run_histories.proofs.nets.open_nets.Goals as goal
use Rattle.run_histories.proofs.nets.open_nets.Goals.{then-is_open+in_ok-push, else-is_open}

pub loop-net-preserved : goal.loop-net-preserved
loop-net-preserved c = elim c.if-is_open.branch [
  | then-is_open+in_ok-push on ↦
      ap (λ (v : Vec ℕ Global). v.items) on.nets-is ∙ on.in_ok-push.ensures.items
      ∙ ap (λ (ns : List ℕ). ns ++ c.loop-net.net ∷ []) c.loop-net.invariant
      ∙ sym (one-more-kept (is_open c.args.design.now c.args.given.now) c.loop-net.net (sym c.is_open.ensures ∙ on.if-is_open.true))
  | else-is_open off ↦
      ap (λ (v : Vec ℕ Global). v.items) off.nets-is ∙ c.loop-net.invariant
      ∙ sym (none-more-kept (is_open c.args.design.now c.args.given.now) c.loop-net.net (sym c.is_open.ensures ∙ off.if-is_open.false))
]
