use Rattle.std.proofs.Common.{◌≡◌, ℕ, ◌<◌, length}
use Rattle.layer_assign.specs.Spans.{growing}
use Rattle.layer_assign.proofs.Problems.{pin_span}
use Rattle.layer_assign.proofs.Turns.{Chosen}
use Rattle.layer_assign.proofs.first_least.first_least.Given as goal

abbrev pub invariant-loop-node : goal.invariant-loop-node
invariant-loop-node g l = record {
  size : length l.room-inside.index ≡ l.fn.room;
  count : length l.room-inside.spans.items ≡ length l.flat.nodes;
  spans : (node : ℕ) → node < length l.flat.nodes → growing l.room-inside.spans.items node ≡ pin_span l.shape l.flat l.fn.pins node;
  chosen : Chosen l.shape (g.C.Costs.ways l.costs) (g.C.Costs.price l.costs) l.flat l.fn.pins l.room-inside.least.items l.room-inside.choices.items l.room-inside.joined.items l.node;
}
