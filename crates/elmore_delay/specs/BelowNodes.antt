-- What is seen at a node of an RC tree, by the paths to the sinks at it and below it.
use Rattle.std.specs.Prelude.{ℕ, ℤ, pos, ◌-ℤ◌, Bool, ◌||◌, ◌==◌, List, map, filter, sum_by}
use Rattle.std.specs.List.{list_any, range_with_len, before_first}
use Rattle.elmore_delay.specs.RcTrees.{Sink, RcTree, Buffers, above, path_to, below, node_delay, soonest, twice}
use Rattle.elmore_delay.specs.declared.seen.Seen.{Seen}

-- a node lies below v: v is one of the nodes strictly above it
abbrev pub lies_below : RcTree → (v node : ℕ) → Bool
lies_below t v node = list_any (λ other. other == v) (above t node)

-- a node is v or lies below it
abbrev pub is_within : RcTree → (v node : ℕ) → Bool
is_within t v node = (node == v) || lies_below t v node

-- the nodes below v, and the sinks at it and below it
abbrev pub nodes_below : RcTree → ℕ → List ℕ
nodes_below t v = filter (lies_below t v) (range_with_len 0 t.nodes)

abbrev pub sinks_within : RcTree → ℕ → List Sink
sinks_within t v = filter (λ sink. is_within t v sink.node) t.sinks

-- the delay from v, behind its buffer, to a node below it: what the nodes of the path add, from the node up to v without v
abbrev pub delay_from : RcTree → Buffers → (v node : ℕ) → ℕ
delay_from t b v node = sum_by (node_delay t b) (before_first (λ other. other == v) (path_to t node))

-- by how much twice the time of a sink is above the delay from v to it
abbrev pub slack_from : RcTree → Buffers → ℕ → Sink → ℤ
slack_from t b v sink = twice sink -ℤ pos (delay_from t b v sink.node)

-- what is seen at v, below its buffer: the load of its stage, and the least slack of a sink
abbrev pub seen_at : RcTree → Buffers → ℕ → Seen
seen_at t b v = record {
  load = below t b v;
  time = soonest (map (slack_from t b v) (sinks_within t v));
}
