use Rattle.std.proofs.Common.{ℕ, List, sym, subst}
use Rattle.elmore_delay.specs.Loadings.{LoadingView, IsLoading, sinks_of}
use Rattle.elmore_delay.specs.NodeLoads.{AreStored}
use Rattle.elmore_delay.proofs.LoadingLemmas.{fits, loading-of}
use Rattle.elmore_delay.proofs.loading.Loading.of.Goals as goal

pub without_sinks-requires-clause-columns : goal.without_sinks-requires-clause-columns
without_sinks-requires-clause-columns c =
    (fits c.args.design.now c.args.library.now c.args.net c.net-routed.result.now c.args.tree.now c.requires.library c.net-routed.ensures.net c.requires.tree).columns

pub without_sinks-requires-clause-rows : goal.without_sinks-requires-clause-rows
without_sinks-requires-clause-rows c =
    (fits c.args.design.now c.args.library.now c.args.net c.net-routed.result.now c.args.tree.now c.requires.library c.net-routed.ensures.net c.requires.tree).rows

pub without_sinks-requires-clause-layers : goal.without_sinks-requires-clause-layers
without_sinks-requires-clause-layers c =
    (fits c.args.design.now c.args.library.now c.args.net c.net-routed.result.now c.args.tree.now c.requires.library c.net-routed.ensures.net c.requires.tree).layers

pub hang_sinks-requires-clause-loading : goal.hang_sinks-requires-clause-loading
hang_sinks-requires-clause-loading c =
    let is = loading-of c.args.design.now c.args.library.now c.args.net c.net-routed.result.now c.args.tree.now c.net-routed.ensures.design c.requires.library
    c.net-routed.ensures.net c.requires.tree c.without_sinks.ensures.tree in
    subst (λ (pins : List ℕ). IsLoading (record { library = c.args.library.now; net = c.args.net; pins = pins; tree = c.args.tree.now })) (sym c.as_slice.ensures) is

pub invariant_of-result : goal.invariant_of-result
invariant_of-result c =
    let loading : List ℕ → LoadingView = λ (pins : List ℕ). record { library = c.args.library.now; net = c.args.net; pins = pins; tree = c.args.tree.now } in
    record {
      loading = loading-of c.args.design.now c.args.library.now c.args.net c.net-routed.result.now c.args.tree.now c.net-routed.ensures.design c.requires.library
          c.net-routed.ensures.net c.requires.tree c.without_sinks.ensures.tree;
      nodes = subst (λ (pins : List ℕ). AreStored (loading pins) (sinks_of (loading pins)) c.hang_sinks.new.nodes.items) c.as_slice.ensures c.hang_sinks.ensures;
    }
