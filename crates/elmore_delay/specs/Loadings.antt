-- Loadings: the RC tree that a net's tree is with a library, and where buffers may stand in it.
use Rattle.std.specs.Prelude.{◌≡◌, ℕ, ◌-◌, ◌<◌, ◌≤◌, Bool, true, false, ◌&&◌, not, nat_lt, List, All, map, length, Option, Some, None, unwrap_or, slice_get, slice_index, slice_index_or, if◌then◌else◌, IsTrue}
use Rattle.std.specs.List.{list_any, range_with_len}
use Rattle.gr_base.specs.Limits.{most_pins}
use Rattle.gr_base.specs.Designs.{DesignView}
use Rattle.gr_base.specs.Plans.{IsRouteOf}
use Rattle.gr_base.specs.declared.frame.Net.{Net}
use Rattle.gr_base.specs.Grid.{place_at, is_wire}
use Rattle.gr_base.specs.ParentEdges.{parent_edge}
use Rattle.gr_base.specs.Trees.{TreeView, cell_at, parent_at, node_with, holds, IsTree}
use Rattle.gr_base.specs.declared.grid.Edge.{Edge}
use Rattle.gr_base.specs.declared.grid.Shape.{Shape}
use Rattle.rc_library.specs.Libraries.{LibraryView, IsLibrary, HasPin, blocked_at, driver_of, sink_of, is_flipped}
use Rattle.rc_library.specs.declared.parts.Wire.{Wire}
use Rattle.elmore_delay.specs.RcTrees.{Sink, RcTree, sinks_at}
use Rattle.elmore_delay.specs.declared.wants.Wants.{Wants}
use Rattle.elmore_delay.specs.declared.wants.Wants.TheVariants.{Any, Plain, Inverse, Both}

-- what a net's tree is loaded by: a library, the number of the net, the cells of its pins, and the tree
pub record LoadingView : Type 0 where
  pub library : LibraryView
  pub net : ℕ
  pub pins : List ℕ
  pub tree : TreeView

-- no edge, and the wire of an edge: that of its layer, or the via
abbrev pub no_wire : Wire
no_wire = record { r = 0; c = 0 }

abbrev pub wire_of : LibraryView → Shape → Option Edge → Wire
wire_of lib g None = no_wire
wire_of lib g (Some e) = if is_wire e then slice_index_or lib.wires (place_at g e.low).layer no_wire else lib.via

-- the wire of the edge from a node to its parent
abbrev pub wire_at : LoadingView → ℕ → Wire
wire_at l node = wire_of l.library l.tree.shape (parent_edge l.tree node)

abbrev pub parent_of : TreeView → ℕ → ℕ
parent_of t node = unwrap_or (parent_at t.nodes node) 0

-- a pin as a sink, at the node that has its cell
abbrev pub sink_at : LoadingView → ℕ → Sink
sink_at l pin = record {
  node = unwrap_or (node_with l.tree.nodes (slice_index l.pins pin)) 0;
  c = (sink_of l.library l.net pin).c;
  time = (sink_of l.library l.net pin).time;
  flipped = is_flipped l.library l.net pin;
}

-- the sinks of a net: its pins but the first
abbrev pub sinks_of : LoadingView → List Sink
sinks_of l = map (sink_at l) (range_with_len 1 (length l.pins - 1))

-- the RC tree
abbrev pub rc_of : LoadingView → RcTree
rc_of l = record {
  nodes = length l.tree.nodes;
  parent = parent_of l.tree;
  wire = wire_at l;
  driver = driver_of l.library l.net;
  sinks = sinks_of l;
}

-- a buffer may stand at a node: it isn't node 0, and its tile isn't blocked
abbrev pub is_blocked : LibraryView → Shape → ℕ → Bool
is_blocked lib g cell = blocked_at lib (place_at g cell).x (place_at g cell).y

abbrev pub may_hold : LibraryView → TreeView → ℕ → Bool
may_hold lib t node = nat_lt 0 node && not (is_blocked lib t.shape (unwrap_or (cell_at t.nodes node) 0))

abbrev pub is_free : LoadingView → ℕ → Bool
is_free l node = may_hold l.library l.tree node

-- what the sinks at a node want, where some want the plain signal or not, and some the inverted one or not
abbrev pub wants_of : (plain inverse : Bool) → Wants
wants_of false false = Any
wants_of true false = Plain
wants_of false true = Inverse
wants_of true true = Both

abbrev pub wants_among : List Sink → Wants
wants_among sinks = wants_of (list_any (λ sink. not sink.flipped) sinks) (list_any (λ sink. sink.flipped) sinks)

abbrev pub wants_at : LoadingView → ℕ → Wants
wants_at l node = wants_among (sinks_at (rc_of l) node)

-- the library is one for the tree's grid, and has the net with its pins; the tree holds the pins
pub record IsLoading (l : LoadingView) : Type 0 where
  pub library : IsLibrary l.library
  pub columns : l.library.sizes.columns ≡ l.tree.shape.columns
  pub rows : l.library.sizes.rows ≡ l.tree.shape.rows
  pub layers : length l.library.wires ≡ l.tree.shape.layers
  pub net : l.net < length l.library.drivers
  pub pins : (pin : ℕ) → pin < length l.pins → HasPin l.library.sizes l.net pin
  pub some_pins : 0 < length l.pins
  pub few_pins : length l.pins ≤ most_pins
  pub tree : IsTree l.tree
  pub held : All (λ pin. IsTrue (holds l.tree pin)) l.pins
