use Rattle.std.proofs.Common.{length, ap, ◌∙◌, arith}
use Rattle.elmore_delay.specs.Loadings.{LoadingView}
use Rattle.elmore_delay.specs.LoadingStore.{seen}
use Rattle.elmore_delay.specs.declared.node_load.NodeLoad.{NodeLoad}
use Rattle.elmore_delay.proofs.SinkLemmas.{load-low}
use Rattle.elmore_delay.proofs.loading.Loading.load.Goals as goal

pub returns-clause-most : goal.returns-clause-most
returns-clause-most c =
    let l : LoadingView = seen c.self.inside in
    let long = ap (λ (now : LoadingView). length now.tree.nodes) c.self.view_is in
    let stored = c.self.invariant.nodes.each c.args.node c.index.result.now (omega (arith, long, c.requires)) in
    let is = ap (λ (n : NodeLoad). n.load) (c.index.ensures ∙ stored) in
    let loading = c.self.invariant.loading in
    let low = load-low l (length l.pins) c.args.node loading.library (omega arith) loading.few_pins in
    omega (arith, is, low)
