-- The load and the required time at the points of an RC tree, from the leaves to the driver.
use Rattle.std.specs.Prelude.{ℕ, zero, suc, ◌+◌, ◌-◌, ◌*◌, ℤ, pos, ◌-ℤ◌, ◌==◌, map, Option, Some, None, unwrap_or, if◌then◌else◌}
use Rattle.std.specs.Option.{option_map}
use Rattle.elmore_delay.specs.RcTrees.{RcTree, Buffers, sinks_at, sinks_load, buffer_delay, edge_delay, sooner, soonest, twice}
use Rattle.elmore_delay.specs.declared.seen.Seen.{Seen}
use Rattle.rc_library.specs.declared.parts.Kind.{Kind}
use Rattle.rc_library.specs.declared.parts.Wire.{Wire}

-- a time less a delay
abbrev pub less : ℕ → Option ℤ → Option ℤ
less delay time = option_map (λ at. at -ℤ pos delay) time

-- below a node without its children: its sinks
abbrev pub sinks_seen : RcTree → ℕ → Seen
sinks_seen t node = record {
  load = sinks_load t node;
  time = soonest (map twice (sinks_at t node));
}

-- above a node, where its buffer or none stands over what is seen below it
abbrev pub behind : Option Kind → Seen → Seen
behind None s = s
behind (Some kind) s = record { load = kind.c; time = less (buffer_delay (Some kind) s.load) s.time }

-- at the upper end of an edge
abbrev pub along : Wire → Seen → Seen
along wire s = record { load = s.load + wire.c; time = less (edge_delay wire s.load) s.time }

-- where branches meet
abbrev pub joined : Seen → Seen → Seen
joined s other = record { load = s.load + other.load; time = sooner s.time other.time }

-- what a node's parent sees of it: through the node's buffer and the edge into it
abbrev pub hanging : RcTree → Buffers → ℕ → Seen → Seen
hanging t b node s = along (t.wire node) (behind (b node) s)

-- below a node, of its children those that are among so many last nodes: each of these, from the last down, is hung on
-- its parent
abbrev pub seen_of_last : ℕ → RcTree → Buffers → ℕ → Seen
seen_of_last zero t b v = sinks_seen t v
seen_of_last (suc n) t b v =
    let node = t.nodes - suc n in
    let before = seen_of_last n t b in
    if v == t.parent node then joined (before v) (hanging t b node (before node)) else before v

-- below a node, of its children those from a number on
abbrev pub seen_from : ℕ → RcTree → Buffers → ℕ → Seen
seen_from from t b v = seen_of_last (t.nodes - from) t b v

-- below node 0, where all nodes are hung on their parents
abbrev pub seen_whole : RcTree → Buffers → Seen
seen_whole t b = seen_from 1 t b 0

-- the time at the driver's input, which drives the load seen there; 0 without a sink
abbrev pub at_driver : ℕ → Seen → ℤ
at_driver r s = unwrap_or (less (2 * r * s.load) s.time) (pos 0)
