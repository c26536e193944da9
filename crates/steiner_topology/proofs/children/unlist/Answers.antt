use Rattle.std.proofs.Common.{arith}
use Rattle.steiner_topology.specs.Children.{without}
use Rattle.steiner_topology.proofs.ChildLemmas.{lists-written}
use Rattle.steiner_topology.proofs.children.unlist.Goals as goal

pub returns : goal.returns
returns c =
    let vectors = c.args.children.now in
    let kept = vectors.ok.0 in
    lists-written vectors.items c.args.parent c.index_mut.result.now c.remove.new.list (without c.args.child) (omega arith) c.index_mut.ensures.value c.remove.ensures
