use Rattle.std.proofs.Common.{◌≡◌, Some, slice_index_or, sym, subst, ◌∙◌}
use Rattle.text_commands.specs.Placing.{IsBlock}
use Rattle.text_commands.proofs.PlacingLemmas.{block-more}
use Rattle.text_commands.proofs.placing.put_blocks.Goals as goal

pub loop-block-preserved : goal.loop-block-preserved
loop-block-preserved g c =
    let rule = g.P.NetPlanner.rule in
    let there : slice_index_or c.args.blocks.now c.loop-block.block-index c.block-item.result ≡ Some c.in-Some.told = sym c.block-item.is ∙ c.in-Some.is in
    block-more rule c.args.nets.now.design.now c.args.nets.now.library.now c.args.nets.now.routes.now c.args.size c.loop-block.block-index c.args.text.now c.loop-block.text c.put.new.self
    c.bytes.result.now c.in-Some.told c.loop-block.invariant c.in_ok-put.ensures.put c.bytes.ensures
    (subst (IsBlock rule c.args.nets.now.design.now c.args.nets.now.library.now c.args.nets.now.routes.now c.args.size c.loop-block.block-index) there
    (c.requires.made c.loop-block.block-index c.block-item.result c.loop-block-test.true))
