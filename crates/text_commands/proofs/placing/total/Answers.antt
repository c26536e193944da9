use Rattle.std.proofs.Common.{◌≡◌, length, Some, slice_index_or, sym, subst, ◌∙◌, arith}
use Rattle.text_commands.specs.Placing.{IsBlock}
use Rattle.text_commands.proofs.PlacingLemmas.{sum-none, sum-more, sum-all}
use Rattle.text_commands.proofs.placing.total.Goals as goal

pub loop-block-init : goal.loop-block-init
loop-block-init g c = sum-none g.P.NetPlanner.rule c.args.nets.now.design.now c.args.nets.now.library.now c.args.nets.now.routes.now c.args.size

pub overflow_add-sum : goal.overflow_add-sum
overflow_add-sum g c =
    let rule = g.P.NetPlanner.rule in
    let there : slice_index_or c.args.blocks.now c.loop-block.block-index c.block-item.result ≡ Some c.in-Some.told = sym c.block-item.is ∙ c.in-Some.is in
    let few = (sum-more rule c.args.nets.now.design.now c.args.nets.now.library.now c.args.nets.now.routes.now c.args.size c.loop-block.block-index c.loop-block.sum c.in-Some.told c.loop-block.invariant
    (subst (IsBlock rule c.args.nets.now.design.now c.args.nets.now.library.now c.args.nets.now.routes.now c.args.size c.loop-block.block-index) there
    (c.requires.made c.loop-block.block-index c.block-item.result c.loop-block-test.true))).few in
    omega (arith, few, c.requires.few)

pub loop-block-preserved : goal.loop-block-preserved
loop-block-preserved g c =
    let rule = g.P.NetPlanner.rule in
    let there : slice_index_or c.args.blocks.now c.loop-block.block-index c.block-item.result ≡ Some c.in-Some.told = sym c.block-item.is ∙ c.in-Some.is in
    sum-more rule c.args.nets.now.design.now c.args.nets.now.library.now c.args.nets.now.routes.now c.args.size c.loop-block.block-index c.loop-block.sum c.in-Some.told c.loop-block.invariant
    (subst (IsBlock rule c.args.nets.now.design.now c.args.nets.now.library.now c.args.nets.now.routes.now c.args.size c.loop-block.block-index) there
    (c.requires.made c.loop-block.block-index c.block-item.result c.loop-block-test.true))

pub returns-clause-sum : goal.returns-clause-sum
returns-clause-sum g c =
    (sum-all g.P.NetPlanner.rule c.args.nets.now.design.now c.args.nets.now.library.now c.args.nets.now.routes.now c.args.size (length c.args.blocks.now) c.loop-block.block-index c.loop-block.sum
    c.requires.all c.loop-block-test.false c.loop-block.invariant).0

pub returns-clause-by_rule : goal.returns-clause-by_rule
returns-clause-by_rule g c =
    (sum-all g.P.NetPlanner.rule c.args.nets.now.design.now c.args.nets.now.library.now c.args.nets.now.routes.now c.args.size (length c.args.blocks.now) c.loop-block.block-index c.loop-block.sum
    c.requires.all c.loop-block-test.false c.loop-block.invariant).1
