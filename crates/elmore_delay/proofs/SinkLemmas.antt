-- Sinks are hung one by one on the nodes that have their cells.
use Rattle.std.proofs.Common.{◌≡◌, ◌≢◌, ℕ, ◌+◌, ◌-◌, ◌*◌, ◌<◌, ◌≤◌, ℤ, pos, ◌*ℤ◌, inl, inr, Bool, true, false, ◌||◌, ◌==◌, not, List, [], ◌∷◌, ◌++◌, All, length, map, filter, sum_by, Option, Some, get_or, slice_index, slice_set, unwrap_or, IsTrue, subst, refl, sym, ap, ◌∙◌, arith}
use Rattle.std.proofs.lemmas.Bool.{cases_eq, eq-eqb}
use Rattle.std.proofs.lemmas.Bool.Decides.{nat_tests}
use Rattle.std.proofs.lemmas.List.Elements.{filter-append}
use Rattle.std.proofs.lemmas.List.Folds.{list_any-append}
use Rattle.std.proofs.lemmas.List.Filters.{sum_by-filter_both}
use Rattle.std.proofs.lemmas.List.Sums.{sum_by_push, sum_by-le}
use Rattle.gr_base.specs.Limits.{most_pins}
use Rattle.rc_library.specs.Limits.{most_capacitance}
use Rattle.elmore_delay.proofs.LibraryRanges.{sink-fits}
use Rattle.std.specs.List.{list_any, range_with_len}
use Rattle.std.proofs.lemmas.List.{append-nil, length-set, get_or-set_same, get_or-set_other}
use Rattle.std.proofs.lemmas.List.FromFn.{get_or-map-range_with_len, length-map-range_with_len, map-range_with_len_more}
use Rattle.gr_base.proofs.General.{filter-yes, filter-no}
use Rattle.gr_base.proofs.TreeLemmas.{some_from, node_with-at, cell_at-within, cell-inside}
use Rattle.gr_base.specs.Grid.{cells_of}
use Rattle.gr_base.specs.Trees.{TreeView, IsTree, holds, node_with}
use Rattle.rc_library.specs.Libraries.{IsLibrary, IsSinking, sink_of, is_flipped}
use Rattle.rc_library.specs.declared.parts.Sinking.{Sinking}
use Rattle.elmore_delay.specs.RcTrees.{Sink, sooner, soonest, twice}
use Rattle.elmore_delay.specs.Ranges.{most_load}
use Rattle.elmore_delay.specs.Wishes.{with_sink}
use Rattle.elmore_delay.specs.Loadings.{LoadingView, sink_at, wire_at, is_free, wants_of, wants_among}
use Rattle.elmore_delay.specs.NodeLoads.{those_at, node_load, bare_node, with_sink_at, AreStored}
use Rattle.elmore_delay.specs.declared.node_load.NodeLoad.{NodeLoad}
use Rattle.elmore_delay.specs.declared.wants.Wants.{Wants}
use Rattle.elmore_delay.proofs.Ranges.{sooner-group}

-- one more sink among some
soonest-push : (times : List ℤ) (time : ℤ) → soonest (times ++ time ∷ []) ≡ sooner (soonest times) (Some time)
soonest-push [] time = refl
soonest-push (first ∷ times) time =
    ap (λ (o : Option ℤ). sooner (Some first) o) (soonest-push times time)
    ∙ sym (sooner-group (Some first) (soonest times) (Some time))

twice-push : (sinks : List Sink) (sink : Sink) → map twice (sinks ++ sink ∷ []) ≡ map twice sinks ++ twice sink ∷ []
twice-push [] sink = refl
twice-push (first ∷ sinks) sink = ap (λ (times : List ℤ). twice first ∷ times) (twice-push sinks sink)

wish : (plain inverse flipped : Bool) → wants_of (plain || (not flipped || false)) (inverse || (flipped || false)) ≡ with_sink (wants_of plain inverse) flipped
wish false false false = refl
wish false false true = refl
wish false true false = refl
wish false true true = refl
wish true false false = refl
wish true false true = refl
wish true true false = refl
wish true true true = refl

wants-push : (sinks : List Sink) (sink : Sink) → wants_among (sinks ++ sink ∷ []) ≡ with_sink (wants_among sinks) sink.flipped
wants-push sinks sink =
    ap (λ (b : Bool). wants_of b (list_any (λ s. s.flipped) (sinks ++ sink ∷ []))) (list_any-append (λ s. not s.flipped) sinks (sink ∷ []))
    ∙ ap (λ (b : Bool). wants_of (list_any (λ s. not s.flipped) sinks || (not sink.flipped || false)) b) (list_any-append (λ s. s.flipped) sinks (sink ∷ []))
    ∙ wish (list_any (λ s. not s.flipped) sinks) (list_any (λ s. s.flipped) sinks) sink.flipped

-- what is stored of a node with these sinks, all of which are there
abbrev pub gathered : LoadingView → ℕ → List Sink → NodeLoad
gathered l node sinks = record {
  load = sum_by (λ sink. sink.c) sinks;
  time = soonest (map twice sinks);
  wire = wire_at l node;
  free = is_free l node;
  wants = wants_among sinks;
}

gathered-push : (l : LoadingView) (node : ℕ) (sinks : List Sink) (sink : Sink) (s : Sinking) → s.c ≡ sink.c → s.time ≡ sink.time →
    gathered l node (sinks ++ sink ∷ []) ≡ with_sink_at (gathered l node sinks) s sink.flipped
gathered-push l node sinks sink s load time =
    let stored : ℕ → Option ℤ → Wants → NodeLoad = λ c due wants. record { load = c; time = due; wire = wire_at l node; free = is_free l node; wants = wants } in
    let c : sum_by (λ (s : Sink). s.c) (sinks ++ sink ∷ []) ≡ sum_by (λ (s : Sink). s.c) sinks + s.c =
    sum_by_push (λ (s : Sink). s.c) sinks sink ∙ ap (λ (n : ℕ). sum_by (λ (s : Sink). s.c) sinks + n) (sym load) in
    let due : soonest (map twice (sinks ++ sink ∷ [])) ≡ sooner (soonest (map twice sinks)) (Some (pos 2 *ℤ s.time)) =
    ap soonest (twice-push sinks sink) ∙ soonest-push (map twice sinks) (twice sink)
    ∙ ap (λ (z : ℤ). sooner (soonest (map twice sinks)) (Some (pos 2 *ℤ z))) (sym time) in
    ap (λ (n : ℕ). stored n (soonest (map twice (sinks ++ sink ∷ []))) (wants_among (sinks ++ sink ∷ []))) c
    ∙ ap (λ (o : Option ℤ). stored (sum_by (λ (s : Sink). s.c) sinks + s.c) o (wants_among (sinks ++ sink ∷ []))) due
    ∙ ap (λ (w : Wants). stored (sum_by (λ (s : Sink). s.c) sinks + s.c) (sooner (soonest (map twice sinks)) (Some (pos 2 *ℤ s.time))) w)
    (wants-push sinks sink)

-- a node with one more sink that is there, and with one that isn't
node-more : (l : LoadingView) (sinks : List Sink) (sink : Sink) (s : Sinking) (node : ℕ) → sink.node ≡ node → s.c ≡ sink.c → s.time ≡ sink.time →
    node_load l (sinks ++ sink ∷ []) node ≡ with_sink_at (node_load l sinks node) s sink.flipped
node-more l sinks sink s node here load time =
    ap (gathered l node) (filter-append (λ (s : Sink). s.node == node) sinks (sink ∷ [])
    ∙ ap (λ (more : List Sink). those_at sinks node ++ more) (filter-yes (λ (s : Sink). s.node == node) sink [] (eq-eqb sink.node node here)))
    ∙ gathered-push l node (those_at sinks node) sink s load time

node-kept : (l : LoadingView) (sinks : List Sink) (sink : Sink) (node : ℕ) → sink.node ≢ node →
    node_load l (sinks ++ sink ∷ []) node ≡ node_load l sinks node
node-kept l sinks sink node other =
    ap (gathered l node) (filter-append (λ (s : Sink). s.node == node) sinks (sink ∷ [])
    ∙ ap (λ (more : List Sink). those_at sinks node ++ more) (filter-no (λ (s : Sink). s.node == node) sink [] (grind (arith, nat_tests)))
    ∙ append-nil (those_at sinks node))

-- one more sink is hung on its node
stored-more : (l : LoadingView) (sinks : List Sink) (sink : Sink) (s : Sinking) (at : ℕ) (nodes : List NodeLoad) (old : NodeLoad) →
    AreStored l sinks nodes → sink.node ≡ at → at < length l.tree.nodes → s.c ≡ sink.c → s.time ≡ sink.time → old ≡ get_or nodes at old →
    AreStored l (sinks ++ sink ∷ []) (slice_set nodes at (with_sink_at old s sink.flipped))
stored-more l sinks sink s at nodes old stored here below load time is = record {
  long = length-set nodes at (with_sink_at old s sink.flipped) ∙ stored.long;
  each = λ node default inside. elim (cases_eq node at) [
    | inl same ↦
        let long = stored.long in
        let was : old ≡ node_load l sinks at = is ∙ stored.each at old below in
        ap (λ (n : ℕ). get_or (slice_set nodes at (with_sink_at old s sink.flipped)) n default) same
        ∙ get_or-set_same nodes at (with_sink_at old s sink.flipped) default (omega arith)
        ∙ ap (λ (n : NodeLoad). with_sink_at n s sink.flipped) was
        ∙ sym (node-more l sinks sink s at here load time)
        ∙ ap (λ (n : ℕ). node_load l (sinks ++ sink ∷ []) n) (sym same)
    | inr other ↦
        get_or-set_other nodes at node (with_sink_at old s sink.flipped) default other
        ∙ stored.each node default inside
        ∙ sym (node-kept l sinks sink node (λ e. other (sym e ∙ here)))
  ];
}

-- the sinks of the pins before a pin
abbrev pub sinks_before : LoadingView → ℕ → List Sink
sinks_before l pin = map (sink_at l) (range_with_len 1 (pin - 1))

-- a pin is hung on the node that has its cell
pub hung-more : (l : LoadingView) (pin at : ℕ) (nodes : List NodeLoad) (old : NodeLoad) (s : Sinking) (flipped : Bool) →
    AreStored l (sinks_before l pin) nodes → 1 ≤ pin → node_with l.tree.nodes (slice_index l.pins pin) ≡ Some at → at < length l.tree.nodes →
    s ≡ sink_of l.library l.net pin → flipped ≡ is_flipped l.library l.net pin → old ≡ get_or nodes at old →
    AreStored l (sinks_before l (pin + 1)) (slice_set nodes at (with_sink_at old s flipped))
hung-more l pin at nodes old s flipped stored some found below reads flips is =
    let more : pin + 1 - 1 ≡ pin - 1 + 1 = omega arith in
    let here : 1 + (pin - 1) ≡ pin = omega arith in
    let sinks : sinks_before l (pin + 1) ≡ sinks_before l pin ++ sink_at l pin ∷ [] =
    ap (λ (n : ℕ). map (sink_at l) (range_with_len 1 n)) more ∙ map-range_with_len_more (sink_at l) 1 (pin - 1) pin here in
    let node : (sink_at l pin).node ≡ at = ap (λ (o : Option ℕ). unwrap_or o 0) found in
    subst (λ (ss : List Sink). AreStored l ss (slice_set nodes at (with_sink_at old s flipped))) (sym sinks)
    (subst (λ (b : Bool). AreStored l (sinks_before l pin ++ sink_at l pin ∷ []) (slice_set nodes at (with_sink_at old s b))) (sym flips)
    (stored-more l (sinks_before l pin) (sink_at l pin) s at nodes old stored node below (ap (λ (x : Sinking). x.c) reads) (ap (λ (x : Sinking). x.time) reads) is))

-- without sinks
pub hung-none : (l : LoadingView) (nodes : List NodeLoad) → nodes ≡ map (bare_node l.library l.tree) (range_with_len 0 (length l.tree.nodes)) →
    AreStored l (sinks_before l 1) nodes
hung-none l nodes is = record {
  long = ap length is ∙ length-map-range_with_len (bare_node l.library l.tree) 0 (length l.tree.nodes);
  each = λ node default inside. ap (λ (ns : List NodeLoad). get_or ns node default) is
      ∙ get_or-map-range_with_len (bare_node l.library l.tree) 0 (length l.tree.nodes) node node default inside (omega arith);
}

-- the sum of the loads of the sinks at a node, where each is at most m
kept-low : (p : Sink → Bool) (m : ℕ) (sinks : List Sink) → All (λ sink. sink.c ≤ m) sinks →
    sum_by (λ sink. sink.c) (filter p sinks) ≤ length sinks * m
kept-low p m sinks each =
    let both = sum_by-filter_both p (λ sink. not (p sink)) (λ sink. refl) (λ sink. sink.c) sinks in
    let all = sum_by-le (λ sink. sink.c) m sinks each in
    omega (arith, both, all)

-- each sink's load and time are in range
pub each-sink : (l : LoadingView) (n : ℕ) → IsLibrary l.library → All (λ sink. IsSinking (record { c = sink.c; time = sink.time })) (map (sink_at l) (range_with_len 1 n))
each-sink l n library = λ k default below.
    let long = length-map-range_with_len (sink_at l) 1 n in
    let at : get_or (map (sink_at l) (range_with_len 1 n)) k default ≡ sink_at l (1 + k) = get_or-map-range_with_len (sink_at l) 1 n k (1 + k) default (omega arith) refl in
    subst (λ (sink : Sink). IsSinking (record { c = sink.c; time = sink.time })) (sym at) (sink-fits l.library l.net (1 + k) library)

-- a node's load, with the sinks of the pins before a pin
pub load-low : (l : LoadingView) (pin node : ℕ) → IsLibrary l.library → pin ≤ length l.pins → length l.pins ≤ most_pins →
    (node_load l (sinks_before l pin) node).load ≤ most_load
load-low l pin node library within few =
    let long = length-map-range_with_len (sink_at l) 1 (pin - 1) in
    let low = kept-low (λ sink. sink.node == node) most_capacitance (sinks_before l pin) (λ k d below. (each-sink l (pin - 1) library k d below).c) in
    omega (arith, long, low)

-- the node that has a cell of the tree is one of the tree's
pub node-inside : (t : TreeView) (cell node : ℕ) → node_with t.nodes cell ≡ Some node → node < length t.nodes
node-inside t cell node found = cell_at-within t.nodes node cell (node_with-at t.nodes cell node found)

-- a cell that the tree holds is one of the grid's
pub held-inside : (t : TreeView) (cell : ℕ) → IsTree t → IsTrue (holds t cell) → cell < cells_of t.shape
held-inside t cell tree held =
    let node = some_from (node_with t.nodes cell) held in
    cell-inside t.shape t.nodes node.0 cell tree.hanging (node_with-at t.nodes cell node.0 node.1)
