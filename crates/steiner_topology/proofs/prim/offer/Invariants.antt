use Rattle.std.proofs.Common.{◌≡◌, ◌≤◌, ◌++◌, take, drop, map}
use Rattle.steiner_topology.specs.Waits.{nearer, span_at, IsFirst}
use Rattle.steiner_topology.proofs.prim.offer.Given as goal

abbrev pub invariant-loop-place : goal.invariant-loop-place
invariant-loop-place l = record {
  points : l.waiting.items ≡ map (nearer l.tile l.parent) (take l.place l.fn.waiting.items) ++ drop l.place l.fn.waiting.items;
  low : l.first ≤ l.place;
  first : IsFirst l.waiting.items l.place l.first;
  least : l.least ≡ span_at l.waiting.items l.first;
}
