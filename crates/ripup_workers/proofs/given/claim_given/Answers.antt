use Rattle.std.proofs.Common.{◌≡◌, ℕ, length, sym, ap, subst, ◌∙◌, arith}
use Rattle.std.specs.Option.{option_copied}
use Rattle.ripup_workers.specs.Giving.{HasGiven}
use Rattle.ripup_workers.specs.Rounding.{setting_of}
use Rattle.ripup_workers.proofs.GivingSteps.{given-first, given-passed, none-given}
use Rattle.ripup_workers.proofs.given.claim_given.Goals as goal

pub loop-net-init : goal.loop-net-init
loop-net-init g c = given-first (setting_of c.args.asked.now) c.args.worker.now.pass c.requires.new

pub loop-net-preserved-in_default : goal.loop-net-preserved-in_default
loop-net-preserved-in_default g c =
    let t = setting_of c.args.asked.now in
    given-passed t c.loop-net.net c.loop-net.worker.pass (none-given t c.loop-net.net (sym c.get.ensures ∙ ap option_copied c.in_default.is)) c.loop-net.invariant

pub claim_tree-requires-clause-given : goal.claim_tree-requires-clause-given
claim_tree-requires-clause-given g c = sym c.get.ensures ∙ ap option_copied c.in-Some.is

pub returns : goal.returns
returns g c =
    let all : c.loop-net.net ≡ length c.args.asked.now.design.now.nets = omega (arith, c.loop-net.auto.net-end, c.loop-net-test.false, c.nets-net-end.ensures.nets) in
    subst (λ (n : ℕ). HasGiven (setting_of c.args.asked.now) n c.loop-net.worker.pass) all c.loop-net.invariant
