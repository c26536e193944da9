use Rattle.std.proofs.Common.{ℕ, ◌*◌, length, arith}
use Rattle.buffer_plan.specs.Picked.{sites_of}
use Rattle.buffer_plan.specs.Gathered.{most_steps}
use Rattle.polar_lists.specs.BothLists.{AreBothGathered}
use Rattle.buffer_plan.proofs.Standing.{none-hung, next-unhung, one-hung, stopped-in_steps, all-hung, hung-in_steps}
use Rattle.polar_lists.proofs.hanging.hang_all.Goals as goal

pub loop-node-init : goal.loop-node-init
loop-node-init g c =
    none-hung {Is = λ (n : ℕ). AreBothGathered (sites_of c.args.loading.now) n c.args.trail.now c.args.lists.now.items}
    (2 * most_steps (length c.args.library.now.kinds) (length c.args.tree.now.nodes)) (length c.args.tree.now.nodes) c.len-node.result c.args.steps.now
    c.len-node.ensures.len c.requires.lists.some c.requires.lists

pub hang-requires-clause-lists : goal.hang-requires-clause-lists
hang-requires-clause-lists g c = next-unhung c.loop-node.invariant c.loop-node-test.true

pub loop-node-preserved : goal.loop-node-preserved
loop-node-preserved g c =
    one-hung {Next = λ (n : ℕ). AreBothGathered (sites_of c.args.loading.now) n c.hang.new.trail c.hang.new.lists.items} c.hang.new.steps
    c.loop-node.invariant c.loop-node-test.true c.in_ok-hang.ensures.lists c.in_ok-hang.ensures.steps

pub returns-in_err-hang-clause-steps : goal.returns-in_err-hang-clause-steps
returns-in_err-hang-clause-steps g c = stopped-in_steps c.hang.new.steps c.loop-node.invariant c.loop-node-test.true c.in_err-hang.ensures.steps

pub returns-clause-lists : goal.returns-clause-lists
returns-clause-lists g c = all-hung c.loop-node.invariant (omega (arith, c.loop-node-test.false))

pub returns-clause-steps : goal.returns-clause-steps
returns-clause-steps g c = hung-in_steps c.loop-node.invariant
