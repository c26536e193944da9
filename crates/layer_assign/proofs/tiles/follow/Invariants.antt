use Rattle.std.proofs.Common.{◌<◌, length}
use Rattle.layer_assign.specs.Spans.{growing}
use Rattle.layer_assign.specs.Choices.{entry}
use Rattle.layer_assign.proofs.Following.{Following}
use Rattle.layer_assign.proofs.tiles.follow.Given as goal

abbrev pub invariant-loop-node : goal.invariant-loop-node
invariant-loop-node l = record {
  later : 0 < l.node;
  so_far : Following (length l.flat.nodes) l.shape.layers l.flat (growing l.fn.spans.items) (entry l.shape.layers l.choices) l.spans.items l.layers.items l.node;
}
