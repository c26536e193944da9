use Rattle.std.proofs.Common.{◌≡◌, length, ap, sym, arith}
use Rattle.gr_base.specs.Trees.{TreeView}
use Rattle.elmore_delay.specs.Loadings.{rc_of}
use Rattle.elmore_delay.proofs.RcLemmas.{rc-tree}
use Rattle.buffer_plan.specs.Picked.{sites_of}
use Rattle.buffer_plan.proofs.Standing.{none-stands, one-stands, all-stand}
use Rattle.polar_lists.specs.BothLists.{sides_in, AreOfSinks}
use Rattle.polar_lists.proofs.BothGathering.{both-start}
use Rattle.polar_lists.proofs.lists.start.Goals as goal

pub loop-node-init : goal.loop-node-init
loop-node-init c = none-stands sides_in (AreOfSinks (rc_of c.args.loading.now)) c.clear.new.self.items c.clear.ensures.items

pub loop-node-preserved : goal.loop-node-preserved
loop-node-preserved c =
    one-stands sides_in (AreOfSinks (rc_of c.args.loading.now)) c.loop-node.node c.loop-node.lists.items c.push.new.self.items c.in_ok-of_sinks.field-0
    c.loop-node.invariant c.in_ok-push.ensures.items c.in_ok-of_sinks.ensures

pub returns : goal.returns
returns c =
    let l = c.args.loading.now in
    let nodes : c.loop-node.node ≡ length c.args.tree.now.nodes = omega (arith, c.loop-node-test.false, c.loop-node.auto.node-end, c.len-node-end.ensures.len) in
    record {
      lists = both-start (sites_of l) (length c.args.tree.now.nodes) c.loop-node.lists.items (rc-tree l c.requires.loading)
          (sym (ap (λ (t : TreeView). length t.nodes) c.requires.tree)) (all-stand (length c.args.tree.now.nodes) c.loop-node.invariant nodes);
    }
