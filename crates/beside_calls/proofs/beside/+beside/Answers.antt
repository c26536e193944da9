use Rattle.beside_calls.proofs.RunCalls.{both-done, own-ready}
use Rattle.beside_calls.proofs.beside.+beside.Goals as goal

pub call_all-call_beside-requires-clause-own : goal.call_all-call_beside-requires-clause-own
call_all-call_beside-requires-clause-own g t c lives in_lives =
    let cut = c.split_at_mut-others in
    own-ready g.F.Fn c.args.f.now _ c.args.items.now cut.result.0.now cut.result.1.now cut.ensures.value cut.ensures.front_len c.requires.ready

pub call_all-returns : goal.call_all-returns
call_all-returns g t c =
    let cut = c.split_at_mut-others in
    both-done g.F.Fn c.args.f.now _ c.args.items.now cut.result.0.now cut.result.1.now c.call_beside.new.others c.call_beside.new.own cut.ensures.value cut.ensures.front_len
    c.call_beside.ensures.others c.call_beside.ensures.own
