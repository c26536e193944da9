use Rattle.std.proofs.Common.{◌<◌, ◌+◌, length, Option, Ok, sym, ap, subst, ◌∙◌, arith}
use Rattle.gr_base.specs.Trees.{TreeView}
use Rattle.route_reader.specs.Solutions.{edges_by}
use Rattle.kept_routes.specs.Keepers.{AreKeptBefore}
use Rattle.kept_routes.specs.Kept.{KeepsNet}
use Rattle.kept_routes.proofs.KeptLemmas.{keep-all, keep-set}
use Rattle.kept_routes.proofs.kept.keep_nets.Goals as goal

pub loop-net-preserved : goal.loop-net-preserved
loop-net-preserved c =
    let d = c.args.design.now in
    let sets = edges_by c.args.solution.now in
    let trees = c.loop-net.kept in
    let net = c.loop-net.net in
    let before = c.loop-net.invariant.kept in
    let inside : net < length trees = omega (arith, before.long, c.loop-net-test.true, c.nets-net-end.ensures.nets) in
    record {
      keeper = c.in_ok-tree.ensures.keeper;
      kept =
          subst (AreKeptBefore d sets (net + 1)) (sym c.set.ensures)
          (keep-set d sets trees net before c.in-Some.tree inside
          (subst (KeepsNet d sets net) (c.in_ok-tree.was ∙ ap (λ (o : Option TreeView). Ok o) c.in-Some.is) c.kept_tree.ensures.tree));
    }

pub returns : goal.returns
returns c =
    keep-all c.args.design.now (edges_by c.args.solution.now) c.loop-net.kept c.loop-net.net
    (omega (arith, c.loop-net-test.false, c.nets-net-end.ensures.nets)) c.loop-net.invariant.kept
