use Rattle.std.proofs.Common.{List, ℕ, get_or, refl, subst}
use Rattle.std.proofs.lemmas.List.{take_all}
use Rattle.ripup_workers.specs.Crews.{HasAttemptedOver}
use Rattle.ripup_workers.proofs.JoiningAttempts.{tried-none, tried-next}
use Rattle.ripup_workers.proofs.round.attempt_rest.Goals as goal

pub loop-net-init : goal.loop-net-init
loop-net-init g c =
    tried-none c.args.task.now.design.now c.args.task.now.rule.now.formula g.N.BookName.capacity c.args.round c.args.worker.now.pass c.requires.capacity c.requires.legal

pub loop-net-preserved : goal.loop-net-preserved
loop-net-preserved g c =
    let nets = c.args.nets.now in
    let k = c.loop-net.net-index in
    tried-next c.args.task.now.design.now c.args.task.now.rule.now.formula c.args.round nets k (get_or nets k 0) c.args.worker.now.pass c.loop-net.worker.pass c.attempt.new.worker.pass
    c.loop-net-test.true refl c.loop-net.invariant c.in_ok-attempt.ensures

pub returns : goal.returns
returns g c =
    let past = c.loop-net-test.false in
    subst (λ (ns : List ℕ). HasAttemptedOver c.args.task.now.design.now c.args.task.now.rule.now.formula c.args.round ns c.args.worker.now.pass c.loop-net.worker.pass)
    (take_all c.loop-net.net-index c.args.nets.now past) c.loop-net.invariant
