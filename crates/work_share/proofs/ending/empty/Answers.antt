use Rattle.std.proofs.Common.{List, ℕ, subst, sym, arith}
use Rattle.work_share.proofs.EmptyLemmas.{IsEmptying, emptying-first, emptying-more, emptying-less, emptying-last}
use Rattle.work_share.proofs.RuleSteps.{takes}
use Rattle.work_share.proofs.ending.empty.Goals as goal

pub loop-net-init : goal.loop-net-init
loop-net-init c = emptying-first c.args.owner c.args.nets.now.items c.requires.fifo c.requires.whole

pub pop_as-requires-clause-fifo : goal.pop_as-requires-clause-fifo
pop_as-requires-clause-fifo c = (let whole = c.loop-net.invariant.whole in λ fifo. takes _ _ (omega (arith, whole)))

pub pop_as-requires-clause-lifo : goal.pop_as-requires-clause-lifo
pop_as-requires-clause-lifo c = λ lifo. (let fifo = c.loop-net.invariant.fifo in absurd (omega (arith, lifo, fifo)))

pub loop-net-smaller : goal.loop-net-smaller
loop-net-smaller c = emptying-less c.loop-net.owner c.pop_as.new.self c.in-Some.net c.in-Some.ensures.rule

pub loop-net-preserved : goal.loop-net-preserved
loop-net-preserved c =
    subst (λ (l : List ℕ). IsEmptying c.args.owner c.pop_as.new.self c.args.nets.now.items l) (sym c.in_ok-push.ensures.items)
    (emptying-more c.args.owner c.loop-net.owner c.pop_as.new.self c.args.nets.now.items c.loop-net.nets.items c.in-Some.net c.loop-net.invariant c.in-Some.ensures.same.0 c.in-Some.ensures.rule)

pub returns : goal.returns
returns c = emptying-last c.args.owner c.loop-net.owner c.args.nets.now.items c.loop-net.nets.items c.loop-net.invariant c.in_default.ensures.rule.1
