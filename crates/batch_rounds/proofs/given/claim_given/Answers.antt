use Rattle.std.proofs.Common.{◌≡◌, ℕ, length, sym, ap, ◌∙◌, arith}
use Rattle.std.specs.Option.{option_copied}
use Rattle.run_histories.specs.GivenRoutes.{given_among}
use Rattle.run_histories.proofs.GivenLemmas.{among-none}
use Rattle.batch_rounds.proofs.RoundSteps.{given-passed}
use Rattle.batch_rounds.proofs.given.claim_given.Goals as goal

pub loop-net-init : goal.loop-net-init
loop-net-init g c = record {
  capacity = c.requires.capacity;
  claims = c.requires.nothing ∙ sym (among-none c.args.asked.now.design.now c.args.asked.now.given.now);
}

pub loop-net-preserved-in_default : goal.loop-net-preserved-in_default
loop-net-preserved-in_default g c =
    let d = c.args.asked.now.design.now in
    let given = c.args.asked.now.given.now in
    record {
      capacity = c.loop-net.invariant.capacity;
      claims = c.loop-net.invariant.claims ∙ sym (given-passed d given c.loop-net.net (sym c.get.ensures ∙ ap option_copied c.in_default.is));
    }

pub claim_tree-requires-clause-given : goal.claim_tree-requires-clause-given
claim_tree-requires-clause-given g c = sym c.get.ensures ∙ ap option_copied c.in-Some.is

pub returns-clause-claims : goal.returns-clause-claims
returns-clause-claims g c =
    let d = c.args.asked.now.design.now in
    let all : c.loop-net.net ≡ length d.nets = omega (arith, c.loop-net.auto.net-end, c.loop-net-test.false, c.nets-net-end.ensures.nets) in
    c.loop-net.invariant.claims ∙ ap (λ (n : ℕ). given_among d c.args.asked.now.given.now n) all
