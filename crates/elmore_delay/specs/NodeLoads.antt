-- What is stored of a node, sink by sink.
use Rattle.std.specs.Prelude.{◌≡◌, ℕ, ◌+◌, ◌<◌, pos, ◌*ℤ◌, Bool, ◌==◌, List, length, map, filter, sum_by, Some, None, slice_index_or}
use Rattle.rc_library.specs.Libraries.{LibraryView}
use Rattle.rc_library.specs.declared.parts.Sinking.{Sinking}
use Rattle.gr_base.specs.ParentEdges.{parent_edge}
use Rattle.gr_base.specs.Trees.{TreeView}
use Rattle.elmore_delay.specs.RcTrees.{Sink, sooner, soonest, twice}
use Rattle.elmore_delay.specs.Loadings.{LoadingView, wire_at, wire_of, may_hold, is_free, wants_among}
use Rattle.elmore_delay.specs.Wishes.{with_sink}
use Rattle.elmore_delay.specs.declared.node_load.NodeLoad.{NodeLoad}
use Rattle.elmore_delay.specs.declared.wants.Wants.TheVariants.{Any}

-- those of some sinks that are at a node
abbrev pub those_at : List Sink → ℕ → List Sink
those_at sinks node = filter (λ sink. sink.node == node) sinks

-- what is stored of a node, with those of some sinks that are there
abbrev pub node_load : LoadingView → List Sink → ℕ → NodeLoad
node_load l sinks node = record {
  load = sum_by (λ sink. sink.c) (those_at sinks node);
  time = soonest (map twice (those_at sinks node));
  wire = wire_at l node;
  free = is_free l node;
  wants = wants_among (those_at sinks node);
}

-- a node without sinks
abbrev pub bare_node : LibraryView → TreeView → ℕ → NodeLoad
bare_node lib t node = record {
  load = 0;
  time = None;
  wire = wire_of lib t.shape (parent_edge t node);
  free = may_hold lib t node;
  wants = Any;
}

-- the node with one more sink
abbrev pub with_sink_at : NodeLoad → Sinking → Bool → NodeLoad
with_sink_at node sink flipped = record {
  load = node.load + sink.c;
  time = sooner node.time (Some (pos 2 *ℤ sink.time));
  wire = node.wire;
  free = node.free;
  wants = with_sink node.wants flipped;
}

-- each node of a loading's tree is stored with those of some sinks that are there
pub record AreStored (l : LoadingView) (sinks : List Sink) (nodes : List NodeLoad) : Type 0 where
  pub long : length nodes ≡ length l.tree.nodes
  pub each : (node : ℕ) (default : NodeLoad) → node < length l.tree.nodes →
      slice_index_or nodes node default ≡ node_load l sinks node
