use Rattle.std.proofs.Common.{◌≡◌, ◌<◌, ℕ, false, length, sym, ap, subst, arith}
use Rattle.gr_base.proofs.DesignLemmas.{routed-below}
use Rattle.gr_base.specs.Designs.{DesignView, is_routed}
use Rattle.gr_base.specs.Grid.{cells_of}
use Rattle.gr_base.specs.Trees.{route_edges}
use Rattle.gr_base.specs.declared.frame.Frame.{Frame}
use Rattle.route_evaluator.specs.Counts.{AreTallied}
use Rattle.route_evaluator.proofs.RouteTrees.{trees-none, trees-skip, trees-next}
use Rattle.route_evaluator.proofs.VerdictLemmas.{tallied-skip}
use Rattle.route_evaluator.proofs.judgement.evaluate_routes.Goals as goal

pub loop-net-init : goal.loop-net-init
loop-net-init c = record {
  tallied = c.new-tally.ensures c.args.design.now (route_edges c.args.routes.now);
  index = omega (arith, c.in_ok-index.ensures, c.cells.ensures.cells, ap (λ (f : Frame). cells_of f.shape) c.frame.ensures.frame);
  trees = trees-none c.args.design.now c.args.routes.now;
}

pub loop-net-preserved-then-not-routed : goal.loop-net-preserved-then-not-routed
loop-net-preserved-then-not-routed c =
    let d : DesignView = c.args.design.now in
    let off : is_routed d c.loop-net.net ≡ false = sym c.if-not-routed.ensures in
    record {
      tallied = tallied-skip d (route_edges c.args.routes.now) c.loop-net.net c.loop-net.tally off c.loop-net.invariant.tallied;
      index = c.loop-net.invariant.index;
      trees = trees-skip d c.args.routes.now c.loop-net.net off c.loop-net.invariant.trees;
    }

pub loop-net-preserved : goal.loop-net-preserved
loop-net-preserved c = record {
  tallied = c.in_ok-count_route.ensures.tallied;
  index = omega (arith, c.loop-net.invariant.index, c.count_route.ensures.index);
  trees = trees-next c.args.design.now c.args.routes.now c.loop-net.net c.count_route.ensures.tree c.loop-net.invariant.trees;
}

pub returns-clause-verdict : goal.returns-clause-verdict
returns-clause-verdict c =
    let d : DesignView = c.args.design.now in
    let all : c.loop-net.net ≡ length d.nets = omega (arith, c.loop-net.auto.net-end, c.loop-net-test.false, c.nets-net-end.ensures.nets) in
    c.verdict.ensures d (route_edges c.args.routes.now) c.requires.capacity c.requires.loads
    (subst (λ (k : ℕ). AreTallied d (route_edges c.args.routes.now) k c.loop-net.tally) all c.loop-net.invariant.tallied)

pub returns-clause-trees : goal.returns-clause-trees
returns-clause-trees c net tree routed at =
    let inside : net < length c.args.design.now.nets = routed-below c.args.design.now net routed in
    c.loop-net.invariant.trees net tree (omega (arith, inside, c.loop-net-test.false, c.nets-net-end.ensures.nets)) routed at
