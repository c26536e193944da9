-- RC trees: the delay from the driver to each node by Elmore's sum, with buffers at nodes, and the required time.
use Rattle.std.specs.Prelude.{◌≡◌, ℕ, zero, suc, ◌+◌, ◌*◌, ◌<◌, ℤ, pos, ◌-ℤ◌, ◌*ℤ◌, Bool, false, ◌&&◌, ◌||◌, ◌==◌, List, [], ◌∷◌, All, map, filter, sum_by, Option, Some, None, is_none, unsigned_abs, unwrap_or}
use Rattle.std.specs.Int.{int_min}
use Rattle.std.specs.List.{range_with_len}
use Rattle.rc_library.specs.declared.parts.Kind.{Kind}
use Rattle.rc_library.specs.declared.parts.Wire.{Wire}

-- a sink: the number of its node, its capacitance, the time at which its signal is due, and whether it wants the
-- inverted signal
pub record Sink : Type 0 where
  pub node : ℕ
  pub c : ℕ
  pub time : ℤ
  pub flipped : Bool

-- a tree whose node 0 is the driver's, with the resistance of the driver; each other node has an earlier one as its
-- parent, and an edge to it with a resistance and a capacitance
pub record RcTree : Type 0 where
  pub nodes : ℕ
  pub parent : ℕ → ℕ
  pub wire : ℕ → Wire
  pub driver : ℕ
  pub sinks : List Sink

-- the kind of the buffer that stands at each node, or none
abbrev pub Buffers : Type 0
Buffers = ℕ → Option Kind

-- the nodes strictly above a node, from its parent up to node 0, at most so many
abbrev pub above_within : ℕ → RcTree → ℕ → List ℕ
above_within zero t node = []
above_within (suc most) t zero = []
above_within (suc most) t node = t.parent node ∷ above_within most t (t.parent node)

-- the nodes strictly above a node, and the path from node 0 to it, each from below up to node 0; the numbers of the
-- nodes fall upwards, so there are no more nodes above one than its number
abbrev pub above : RcTree → ℕ → List ℕ
above t node = above_within node t node

abbrev pub path_to : RcTree → ℕ → List ℕ
path_to t node = node ∷ above t node

-- one of these nodes is v, and none before it holds a buffer
abbrev pub reaches : Buffers → ℕ → List ℕ → Bool
reaches b v [] = false
reaches b v (node ∷ nodes) = (node == v) || (is_none (b node) && reaches b v nodes)

-- the node is in the stage of v: it is strictly below v, and no node strictly between them holds a buffer
abbrev pub in_stage : RcTree → Buffers → ℕ → ℕ → Bool
in_stage t b v node = reaches b v (above t node)

-- the sinks at a node, and the sum of their capacitances
abbrev pub sinks_at : RcTree → ℕ → List Sink
sinks_at t node = filter (λ sink. sink.node == node) t.sinks

abbrev pub sinks_load : RcTree → ℕ → ℕ
sinks_load t node = sum_by (λ sink. sink.c) (sinks_at t node)

-- the input capacitance of a buffer, or without one another load
abbrev pub load_above : Option Kind → ℕ → ℕ
load_above None load = load
load_above (Some kind) load = kind.c

-- what a node adds to the load of each stage that it is in: the edge into it, and its buffer, or without one the sinks
-- there
abbrev pub own_load : RcTree → Buffers → ℕ → ℕ
own_load t b node = (t.wire node).c + load_above (b node) (sinks_load t node)

-- the load of a node's stage: of the sinks at the node, and of the nodes in the stage
abbrev pub below : RcTree → Buffers → ℕ → ℕ
below t b v = sinks_load t v + sum_by (own_load t b) (filter (in_stage t b v) (range_with_len 0 t.nodes))

-- the load that the edge into a node sees there
abbrev pub up : RcTree → Buffers → ℕ → ℕ
up t b node = load_above (b node) (below t b node)

-- what a buffer at a node adds to the delay, when it drives a load; its own delay is never negative
abbrev pub buffer_delay : Option Kind → ℕ → ℕ
buffer_delay None load = 0
buffer_delay (Some kind) load = 2 * unsigned_abs kind.delay + 2 * kind.r * load

-- what an edge adds to the delay, when it drives a load at its end
abbrev pub edge_delay : Wire → ℕ → ℕ
edge_delay wire load = wire.r * (wire.c + 2 * load)

-- what a node on the path adds to the delay: the edge into it, which node 0 lacks, and its buffer
abbrev pub node_delay : RcTree → Buffers → ℕ → ℕ
node_delay t b node = edge_delay (t.wire node) (up t b node) + buffer_delay (b node) (below t b node)

-- the delay from the driver to a node, where a buffer at the node itself counts
abbrev pub delay_to : RcTree → Buffers → ℕ → ℕ
delay_to t b node = 2 * t.driver * below t b 0 + sum_by (node_delay t b) (path_to t node)

-- twice the time of a sink, and by how much it is above the delay to the sink; delays count in half units of time
abbrev pub twice : Sink → ℤ
twice sink = pos 2 *ℤ sink.time

abbrev pub slack : RcTree → Buffers → Sink → ℤ
slack t b sink = twice sink -ℤ pos (delay_to t b sink.node)

-- the lesser of two times, where none is greater than all
abbrev pub sooner : Option ℤ → Option ℤ → Option ℤ
sooner None second = second
sooner (Some first) None = Some first
sooner (Some first) (Some second) = Some (int_min first second)

-- the least of some times; of none there is none
abbrev pub soonest : List ℤ → Option ℤ
soonest [] = None
soonest (time ∷ times) = sooner (Some time) (soonest times)

-- the required time at the driver: the least slack of a sink, and 0 without a sink
abbrev pub required_time : RcTree → Buffers → ℤ
required_time t b = unwrap_or (soonest (map (slack t b) t.sinks)) (pos 0)

-- the parents of nodes are earlier ones, node 0 has no edge, and each sink is at a node
pub record IsRcTree (t : RcTree) : Type 0 where
  pub rooted : 0 < t.nodes
  pub earlier : (node : ℕ) → 0 < node → node < t.nodes → t.parent node < node
  pub root : (t.wire 0).r ≡ 0
  pub sinks : All (λ sink. sink.node < t.nodes) t.sinks
