use Rattle.std.proofs.Common.{sym, ◌∙◌, arith}
use Rattle.design_maker.proofs.TextLemmas.{state-none, state-more, text-first, text-next, text-end}
use Rattle.design_maker.proofs.AcceptLemmas.{accepted}
use Rattle.design_maker.proofs.text.made_text.Goals as goal

pub loop-net-init : goal.loop-net-init
loop-net-init c = record {
  text = text-first c.args.made c.new-text.result c.put_head.new.text c.new-text.ensures c.in_ok-put_head.ensures;
  draws = c.of-draws.ensures ∙ sym (state-none c.args.made);
}

pub loop-net-preserved : goal.loop-net-preserved
loop-net-preserved c =
    let l = c.loop-net in
    record {
      text = text-next c.args.made l.net l.draws.state l.text c.put_net.new.text l.invariant.draws l.invariant.text c.in_ok-put_net.ensures.text;
      draws = c.in_ok-put_net.ensures.draws ∙ state-more c.args.made l.net l.draws.state l.invariant.draws;
    }

pub returns-clause-text : goal.returns-clause-text
returns-clause-text c =
    let l = c.loop-net in
    text-end c.args.made l.net l.text c.put_end.new.text (let last = l.auto.net-end in let end = c.loop-net-test.false in omega arith)
    l.invariant.text c.in_ok-put_end.ensures

pub returns-clause-accepted : goal.returns-clause-accepted
returns-clause-accepted c = accepted c.args.made c.requires

pub returns-in_err-put_head-clause-accepted : goal.returns-in_err-put_head-clause-accepted
returns-in_err-put_head-clause-accepted c = accepted c.args.made c.requires

pub returns-in_err-put_net-clause-accepted : goal.returns-in_err-put_net-clause-accepted
returns-in_err-put_net-clause-accepted c = accepted c.args.made c.requires

pub returns-in_err-put_end-clause-accepted : goal.returns-in_err-put_end-clause-accepted
returns-in_err-put_end-clause-accepted c = accepted c.args.made c.requires

pub returns-in_err-middles-clause-accepted : goal.returns-in_err-middles-clause-accepted
returns-in_err-middles-clause-accepted c = accepted c.args.made c.requires
