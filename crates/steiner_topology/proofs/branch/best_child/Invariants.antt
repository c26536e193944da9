use Rattle.std.proofs.Common.{◌≡◌, ◌<◌, IfSome, length, take}
use Rattle.steiner_topology.specs.Children.{without, best_of}
use Rattle.steiner_topology.proofs.branch.best_child.Given as goal

abbrev pub invariant-loop-q : goal.invariant-loop-q
invariant-loop-q l = record {
  so_far : l.best ≡ best_of l.points l.j (without l.j (take l.q-index l.children));
  inside : IfSome l.best (λ k. k < length l.points);
}
