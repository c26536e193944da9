use Rattle.std.proofs.Common.{◌≡◌, ℕ, ◌+◌, length, get_or, slice_set, subst, sym, ap, ◌∙◌, arith}
use Rattle.elmore_delay.specs.Loadings.{LoadingView}
use Rattle.elmore_delay.specs.NodeLoads.{AreStored}
use Rattle.elmore_delay.specs.declared.node_load.NodeLoad.{NodeLoad}
use Rattle.elmore_delay.proofs.SinkLemmas.{sinks_before, hung-none, hung-more, load-low, node-inside, held-inside}
use Rattle.elmore_delay.proofs.node_load.hang_sinks.Goals as goal

pub loop-pin-init : goal.loop-pin-init
loop-pin-init c =
    let l : LoadingView = record { library = c.args.library.now; net = c.args.net; pins = c.args.pins.now; tree = c.args.tree.now } in
    hung-none l c.args.nodes.now.items c.requires.nodes

pub node_at-requires-clause-cell : goal.node_at-requires-clause-cell
node_at-requires-clause-cell c =
    let loading = c.requires.loading in
    let inside = held-inside c.args.tree.now (get_or c.args.pins.now c.loop-pin.pin 0) loading.tree (loading.held c.loop-pin.pin 0 c.loop-pin-test.true) in
    omega (arith, inside, c.requires.cells)

pub sink_of-sink-requires-clause-pin : goal.sink_of-sink-requires-clause-pin
sink_of-sink-requires-clause-pin c = c.requires.loading.pins c.loop-pin.pin c.loop-pin-test.true

pub flipped-flipped-requires-clause-pin : goal.flipped-flipped-requires-clause-pin
flipped-flipped-requires-clause-pin c = c.requires.loading.pins c.loop-pin.pin c.loop-pin-test.true

pub index-requires : goal.index-requires
index-requires c =
    let found = sym c.node_at.ensures.node ∙ c.unwrap-node.ensures in
    let inside = node-inside c.args.tree.now (get_or c.args.pins.now c.loop-pin.pin 0) c.unwrap-node.result found in
    omega (arith, inside, c.loop-pin.invariant.long, c.loop-pin.nodes.ok.0)

pub with-requires-clause-load : goal.with-requires-clause-load
with-requires-clause-load c =
    let l : LoadingView = record { library = c.args.library.now; net = c.args.net; pins = c.args.pins.now; tree = c.args.tree.now } in
    let found = sym c.node_at.ensures.node ∙ c.unwrap-node.ensures in
    let inside = node-inside c.args.tree.now (get_or c.args.pins.now c.loop-pin.pin 0) c.unwrap-node.result found in
    let is = c.index.ensures ∙ c.loop-pin.invariant.each c.unwrap-node.result c.index.result.now inside in
    let before = c.loop-pin-test.true in
    let low = load-low l c.loop-pin.pin c.unwrap-node.result c.requires.loading.library (omega arith) c.requires.loading.few_pins in
    omega (arith, low, ap (λ (n : NodeLoad). n.load) is)

pub index_mut-requires : goal.index_mut-requires
index_mut-requires c =
    let found = sym c.node_at.ensures.node ∙ c.unwrap-node.ensures in
    let inside = node-inside c.args.tree.now (get_or c.args.pins.now c.loop-pin.pin 0) c.unwrap-node.result found in
    omega (arith, inside, c.loop-pin.invariant.long, c.loop-pin.nodes.ok.0)

pub loop-pin-preserved : goal.loop-pin-preserved
loop-pin-preserved c =
    let l : LoadingView = record { library = c.args.library.now; net = c.args.net; pins = c.args.pins.now; tree = c.args.tree.now } in
    let found = sym c.node_at.ensures.node ∙ c.unwrap-node.ensures in
    let inside = node-inside c.args.tree.now (get_or c.args.pins.now c.loop-pin.pin 0) c.unwrap-node.result found in
    subst (λ (node : NodeLoad). AreStored l (sinks_before l (c.loop-pin.pin + 1)) (slice_set c.loop-pin.nodes.items c.unwrap-node.result node)) (sym c.with.ensures)
    (hung-more l c.loop-pin.pin c.unwrap-node.result c.loop-pin.nodes.items c.index.result.now c.sink_of-sink.result c.flipped-flipped.result
    c.loop-pin.invariant c.loop-pin.auto.pin found inside c.sink_of-sink.ensures.sink c.flipped-flipped.ensures.flipped c.index.ensures)

pub returns : goal.returns
returns c =
    let l : LoadingView = record { library = c.args.library.now; net = c.args.net; pins = c.args.pins.now; tree = c.args.tree.now } in
    let some = c.requires.loading.some_pins in
    let most = c.loop-pin.auto.pin-end some in
    let end : c.loop-pin.pin ≡ length c.args.pins.now = omega arith in
    subst (λ (pin : ℕ). AreStored l (sinks_before l pin) c.loop-pin.nodes.items) end c.loop-pin.invariant
