use Rattle.std.proofs.Common.{ℕ, List, [], ◌∷◌, ◌++◌, arith}
use Rattle.steiner_topology.proofs.ChildLemmas.{lists-written}
use Rattle.steiner_topology.proofs.children.list.Goals as goal

pub returns : goal.returns
returns c =
    let vectors = c.args.children.now in
    let kept = vectors.ok.0 in
    lists-written vectors.items c.args.parent c.index_mut.result.now c.push.new.self (λ (xs : List ℕ). xs ++ c.args.child ∷ []) (omega arith) c.index_mut.ensures.value c.in_ok-push.ensures.ok
