use Rattle.std.proofs.Common.{refl, arith}
use Rattle.route_reader.proofs.PushLemmas.{gathers-push}
use Rattle.route_reader.proofs.gathering.Gathering.push.Goals as goal

pub returns : goal.returns
returns c d s gathers mode run =
    let count = c.len.ensures in
    let longer = c.in_ok-push.ensures.len in
    let all = c.args.self.now.runs.ok.0 in
    gathers-push d s c.args.self.now _ c.args.net c.args.run c.index_mut.result.now c.len.result gathers mode run
    c.index_mut.ensures.value (omega arith) refl refl refl c.in_ok-push.ensures.items
