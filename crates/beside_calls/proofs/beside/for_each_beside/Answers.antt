use Rattle.beside_calls.proofs.RunCalls.{all-done}
use Rattle.beside_calls.proofs.beside.for_each_beside.Goals as goal

pub returns : goal.returns
returns g c = all-done g.F.Fn c.args.f.now c.args.items.now c.call_all.new.items c.call_all.ensures
