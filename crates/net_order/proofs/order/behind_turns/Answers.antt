use Rattle.std.proofs.Common.{IsTrue, ℕ, sym, ◌∙◌, subst}
use Rattle.gr_base.specs.Designs.{is_routed}
use Rattle.net_order.proofs.RegionLemmas.{routed-behind, behind-more, keys-more}
use Rattle.net_order.proofs.order.behind_turns.Goals as goal

pub behind_turn-requires-in-loop-both : goal.behind_turn-requires-in-loop-both
behind_turn-requires-in-loop-both c =
    subst (λ (net : ℕ). IsTrue (is_routed c.args.survey.now.design.now net)) (sym c.net_in-in-loop-both.ensures)
    (routed-behind c.args.survey.now.design.now c.args.first c.loop-both.both-index _ c.args.others.now c.requires c.loop-both-test.true)

pub loop-both-preserved : goal.loop-both-preserved
loop-both-preserved c = record {
  nets = behind-more c.args.first c.loop-both.both-index _ _ c.args.others.now c.loop-both.keys.items _ c.loop-both.invariant.nets c.in_ok-push-2.ensures.items
      (c.behind_turn-in-loop-both.ensures.net ∙ c.net_in-in-loop-both.ensures) c.loop-both-test.true;
  keys = keys-more c.args.survey.now.design.now c.args.round _ c.loop-both.keys.items _ c.loop-both.invariant.keys c.behind_turn-in-loop-both.ensures.key c.in_ok-push-2.ensures.items;
}
